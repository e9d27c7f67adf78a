-- The sites that the search takes are the first k of those reached, by shortest length and then node number.
use mathlib.Core.Path.{◌≡◌, refl, sym, ap, ◌∙◌}
use mathlib.Core.Logic.{◌⊎◌, inl, inr}
use mathlib.Core.Bool.{Bool, true, false, not, ◌||◌, cond}
use mathlib.Core.Option.{Option, none, some}
use mathlib.Core.List.{List, [], ◌∷◌, ◌++◌}
use Prim.Native.Nat.{ℕ, zero, suc, ◌+◌, ◌≤◌, ◌<◌}
use native.Mathlib.Decide.{dec_lt}
use native.Mathlib.Omega.{arith}
use lib.Dec.{T, T_not, not_T, eqb, leb, ltb, eqb→eq, leb→le, nleb→lt}
use lib.ListN.{length, get_or, length-append}
use Rattle.meaning.specs.Region.{Region, ArcOf, is_site}
use Rattle.meaning.specs.Scan.{any, first}
use Rattle.meaning.specs.Listing.{Before}
use Rattle.meaning.specs.Taking.{State, memb, taken, len_at, key_in, is_open, aimed, sites_of, mark, take1, take_at, start, choose, full, next, after, final}
use Rattle.meaning.specs.Walk.{Walk, Shortest}
use Rattle.meaning.proofs.Bools.{T_true, T_false, true_T, and_both, and_make, or_cases, nor_both}
use Rattle.meaning.proofs.Counting.{count, count_more, count_full, count_none}
use Rattle.meaning.proofs.Exits.{Picked, Exit, exit, picked_shortest, picked_first, before_taken, still, shortest_unique}
use Rattle.meaning.proofs.Orders.{Asc, FirstK, memb_head, memb_tail, memb_cases}
use Rattle.meaning.proofs.Relaxing.{Setting, Valid, aimed_site}
use Rattle.meaning.proofs.Scans.{any_of, any_is, First, IsFirst, first_is}
use Rattle.meaning.proofs.States.{Has, Inv, inv_start, inv_take, picked, taken_cons, taken_new, taken_old, open_of, has_below}

-- a has a walk that is shorter than any to t, or as short with a's number the lower
abbrev pub Earlier : (ℕ → ℕ → ℕ → Type 0) → ℕ → ℕ → ℕ → Type 0
Earlier Arc q a t = (d : ℕ) × Shortest Arc q a d × ((e : ℕ) → Walk Arc q t e → Before a d t e)

-- a site that some walk reaches
abbrev pub Reached : (ℕ → ℕ → ℕ → Type 0) → (ℕ → Bool) → ℕ → ℕ → Type 0
Reached Arc site q v = T (site v) × ((e : ℕ) × Walk Arc q v e)

-- the nodes of the list, in order
abbrev pub TheList : Region → ℕ → ℕ → List ℕ → Type 0
TheList R q k L = FirstK (Reached (ArcOf R) (is_site R) q) (Earlier (ArcOf R) q) k L

pub earlier_asym : (Arc : ℕ → ℕ → ℕ → Type 0) (q x y : ℕ) → Earlier Arc q x y → Earlier Arc q y x → ⊥
earlier_asym Arc q x y a b = go (a.2 b.0 b.1.walk) (b.2 a.0 a.1.walk)
  where
    go : Before x a.0 y b.0 → Before y b.0 x a.0 → ⊥
    go (inl s) (inl t) = omega arith
    go (inl s) (inr t) = omega arith
    go (inr s) (inl t) = omega arith
    go (inr s) (inr t) = omega arith

-- ---- lists

pub memb_snoc : (xs : List ℕ) (v y : ℕ) → T (memb y (xs ++ (v ∷ []))) → T (memb y xs) ⊎ (v ≡ y)
unfolding memb
memb_snoc [] v y t = inr (go (memb_cases v y [] t))
  where
    go : (v ≡ y) ⊎ T (memb y []) → v ≡ y
    go (inl e) = e
    go (inr z) = absurd z
memb_snoc (x ∷ xs) v y t = go (memb_cases x y (xs ++ (v ∷ [])) t) (memb_snoc xs v y)
  where
    go : (x ≡ y) ⊎ T (memb y (xs ++ (v ∷ []))) → (T (memb y (xs ++ (v ∷ []))) → T (memb y xs) ⊎ (v ≡ y)) → T (memb y (x ∷ xs)) ⊎ (v ≡ y)
    go (inl e) ih = inl (rw e (memb_head y xs))
    go (inr z) ih = on (ih z)
      where
        on : T (memb y xs) ⊎ (v ≡ y) → T (memb y (x ∷ xs)) ⊎ (v ≡ y)
        on (inl w) = inl (memb_tail x y xs w)
        on (inr w) = inr w

pub snoc_old : (xs : List ℕ) (v y : ℕ) → T (memb y xs) → T (memb y (xs ++ (v ∷ [])))
unfolding memb
snoc_old [] v y t = absurd t
snoc_old (x ∷ xs) v y t = go (memb_cases x y xs t) (snoc_old xs v y)
  where
    go : (x ≡ y) ⊎ T (memb y xs) → (T (memb y xs) → T (memb y (xs ++ (v ∷ [])))) → T (memb y (x ∷ (xs ++ (v ∷ []))))
    go (inl e) ih = rw e (memb_head y (xs ++ (v ∷ [])))
    go (inr z) ih = memb_tail x y (xs ++ (v ∷ [])) (ih z)

pub snoc_new : (xs : List ℕ) (v : ℕ) → T (memb v (xs ++ (v ∷ [])))
snoc_new [] v = memb_head v []
snoc_new (x ∷ xs) v = memb_tail x v _ (snoc_new xs v)

pub asc_snoc : (E : ℕ → ℕ → Type 0) (xs : List ℕ) (v : ℕ) → Asc E xs → ((y : ℕ) → T (memb y xs) → E y v) → Asc E (xs ++ (v ∷ []))
unfolding memb
asc_snoc E [] v a h = (λ y t. absurd t, tt)
asc_snoc E (x ∷ xs) v a h = (λ y t. go y (memb_snoc xs v y t), asc_snoc E xs v a.1 (λ y t. h y (memb_tail x y xs t)))
  where
    go : (y : ℕ) → T (memb y xs) ⊎ (v ≡ y) → E x y
    go y (inl t) = a.0 y t
    go y (inr e) = rw (← e) (h x (memb_head x xs))

module _ (R : Region) where
  pub sites_in : (o : List ℕ) (v : ℕ) → T (memb v (sites_of R o)) → T (memb v o) × T (is_site R v)
  unfolding sites_of memb
  sites_in [] v t = absurd t
  sites_in (x ∷ o) v t = go (is_site R x) (λ z. z) t (sites_in o v)
    where
      go : (b : Bool) → (T b → T (is_site R x)) → T (memb v (cond b (sites_of R o ++ (x ∷ [])) (sites_of R o))) → (T (memb v (sites_of R o)) → T (memb v o) × T (is_site R v)) → T (memb v (x ∷ o)) × T (is_site R v)
      go true s z ih = on (memb_snoc (sites_of R o) x v z)
        where
          on : T (memb v (sites_of R o)) ⊎ (x ≡ v) → T (memb v (x ∷ o)) × T (is_site R v)
          on (inl w) = let r = ih w in (memb_tail x v o r.0, r.1)
          on (inr e) = (rw e (memb_head v o), rw e at (s tt))
      go false s z ih = let r = ih z in (memb_tail x v o r.0, r.1)

  pub sites_of_lem : (o : List ℕ) (v : ℕ) → T (memb v o) → T (is_site R v) → T (memb v (sites_of R o))
  unfolding sites_of memb
  sites_of_lem [] v t s = absurd t
  sites_of_lem (x ∷ o) v t s = go (is_site R x) (λ z. T_not (is_site R x) z) (memb_cases x v o t) (λ z. sites_of_lem o v z s)
    where
      go : (b : Bool) → (T (not b) → T (is_site R x) → ⊥) → (x ≡ v) ⊎ T (memb v o) → (T (memb v o) → T (memb v (sites_of R o))) → T (memb v (cond b (sites_of R o ++ (x ∷ [])) (sites_of R o)))
      go true n (inl e) ih = rw e (snoc_new (sites_of R o) v)
      go true n (inr z) ih = snoc_old (sites_of R o) x v (ih z)
      go false n (inl e) ih = absurd (n tt (rw e s))
      go false n (inr z) ih = ih z

pub record Listed (R : Region) (q k : ℕ) (s : State) : Type 0 where
  pub inv : Inv R q s
  pub later : (a : ℕ) → T (taken s a) → T (is_site R a) → (t : ℕ) → T (is_site R t) → T (not (taken s t)) → Earlier (ArcOf R) q a t
  pub asc : Asc (Earlier (ArcOf R) q) (sites_of R s.order)
  pub size : length (sites_of R s.order) ≤ k
  pub closed : (t : ℕ) → T (taken s t) → T (is_site R t) → (x a r : ℕ) → Walk (ArcOf R) q x a → Walk (ArcOf R) x t r → Shortest (ArcOf R) q t (a + r) → T (taken s x)
  pub tally : count (taken s) R.n ≡ length s.order

pub site_below : (R : Region) → Valid R → (v : ℕ) → T (is_site R v) → v < R.n
unfolding is_site
site_below R ok v t =
    let r = any_is (λ j. eqb (R.site j) v) R.s t in
    let e = eqb→eq (R.site r.0) v r.2 in
    let l = ok.sites r.0 r.1 in
    omega arith

pub taken_else : (s : State) (u v : ℕ) → (u ≡ v → ⊥) → taken (mark s u) v ≡ taken s v
unfolding taken memb
taken_else s u v n = go (eqb u v) (λ t. n (eqb→eq u v t))
  where
    go : (b : Bool) → (T b → ⊥) → (b || memb v s.order) ≡ memb v s.order
    go true z = absurd (z tt)
    go false z = refl

module _ {R : Region} {est : (ℕ → Bool) → ℕ → ℕ} {q : ℕ} (G : Setting R est q) (k : ℕ) where
  pub long : (u v w : ℕ) → ArcOf R u v w → 1 ≤ w
  long u v w a = let p = G.positive a.index a.below in let e = a.weighs in omega arith

  pub aims : (s : State) (v : ℕ) → T (is_site R v) → T (not (taken s v)) → T (aimed R s v)
  unfolding aimed
  aims s v a b = and_make (is_site R v) (not (taken s v)) a b

  module _ (s : State) (L : Listed R q k s) (v : ℕ) (F : First (is_open s) (key_in R est s) R.n v) where
    P : Picked (Has s) (taken s) (is_site R) (est (aimed R s)) v (len_at s.best v)
    P = picked R est q s L.inv v F

    pub sh : Shortest (ArcOf R) q v (len_at s.best v)
    sh = picked_shortest L.inv.known (G.fits (aimed R s) (aimed_site R s)) 1 long P

    new_first : T (is_site R v) → (t : ℕ) → T (is_site R t) → T (not (taken (mark s v) t)) → Earlier (ArcOf R) q v t
    new_first z t st o = (len_at s.best v, sh, λ e w. go e (picked_first L.inv.known (G.fits (aimed R s) (aimed_site R s)) 1 long (is_site R) (aims s) P z t e st old (omega arith) w))
      where
        old : T (not (taken s t))
        old = not_T (taken s t) (λ y. T_not (taken (mark s v) t) o (taken_old s v t y))

        other : v ≡ t → ⊥
        other e = T_not (taken (mark s v) t) o (taken_new s v t e)

        go : (e : ℕ) → (len_at s.best v < e) ⊎ ((len_at s.best v ≡ e) × (v ≤ t)) → (len_at s.best v < e) ⊎ ((len_at s.best v ≡ e) × (v < t))
        go e (inl y) = inl y
        go e (inr y) = let l = y.1 in inr (y.0, omega (arith, other))

    later_new : (a : ℕ) → T (taken (mark s v) a) → T (is_site R a) → (t : ℕ) → T (is_site R t) → T (not (taken (mark s v) t)) → Earlier (ArcOf R) q a t
    later_new a ta sa t st o = go (taken_cons s v a ta)
      where
        go : (v ≡ a) ⊎ T (taken s a) → Earlier (ArcOf R) q a t
        go (inl e) = rw (← e) (new_first (rw e sa) t st o)
        go (inr z) = L.later a z sa t st (not_T (taken s t) (λ y. T_not (taken (mark s v) t) o (taken_old s v t y)))

    was : (y : ℕ) → T (memb y s.order) × T (is_site R y) → T (is_site R v) → Earlier (ArcOf R) q y v
    unfolding taken
    was y p z = L.later y p.0 p.1 v z P.untaken

    asc_new : Asc (Earlier (ArcOf R) q) (sites_of R (v ∷ s.order))
    unfolding sites_of
    asc_new = go (is_site R v) (λ z. z)
      where
        go : (b : Bool) → (T b → T (is_site R v)) → Asc (Earlier (ArcOf R) q) (cond b (sites_of R s.order ++ (v ∷ [])) (sites_of R s.order))
        go true z = asc_snoc (Earlier (ArcOf R) q) (sites_of R s.order) v L.asc (λ y t. was y (sites_in R s.order y t) (z tt))
        go false z = L.asc

    size_new : length (sites_of R s.order) < k → length (sites_of R (v ∷ s.order)) ≤ k
    unfolding sites_of
    size_new l = go (is_site R v)
      where
        go : (b : Bool) → length (cond b (sites_of R s.order ++ (v ∷ [])) (sites_of R s.order)) ≤ k
        go true = rw length-append (omega arith)
        go false = omega arith

    tally_new : count (taken (mark s v)) R.n ≡ suc (length s.order)
    tally_new = count_more (taken s) (taken (mark s v)) v R.n F.below (T_false (taken s v) P.untaken) (T_true (taken (mark s v) v) (taken_new s v v refl)) (λ x n. taken_else s v x (λ e. n (sym e))) ∙ ap suc L.tally

    closed_new : (t : ℕ) → T (taken (mark s v) t) → T (is_site R t) → (x a r : ℕ) → Walk (ArcOf R) q x a → Walk (ArcOf R) x t r → Shortest (ArcOf R) q t (a + r) → T (taken (mark s v) x)
    closed_new t tt' st x a r p w h = go (taken_cons s v t tt')
      where
        at : v ≡ t → Dec (0 < r) → T (taken (mark s v) x)
        at e (yes l) =
            let h' : Shortest (ArcOf R) q v (a + r) = rw e h in
            taken_old s v x (before_taken L.inv.known (G.fits (aimed R s) (aimed_site R s)) 1 long (is_site R) (aims s) P (rw e st) x a r p (rw e w) l (shortest_unique h' sh))
        at e (no n) = taken_new s v x (e ∙ sym (still long w (omega arith)))

        go : (v ≡ t) ⊎ T (taken s t) → T (taken (mark s v) x)
        go (inl e) = at e (dec_lt 0 r)
        go (inr z) = taken_old s v x (L.closed t z st x a r p w h)

    pub listed_take : length (sites_of R s.order) < k → Listed R q k (take1 R s v)
    unfolding take1 taken
    listed_take l = record { inv = inv_take G k s L.inv v F; later = later_new; asc = asc_new; size = size_new l; closed = closed_new; tally = tally_new }

  not_full : (s : State) → T (not (full R k s)) → length (sites_of R s.order) < k
  unfolding full
  not_full s t = nleb→lt k _ (nor_both (leb k (length (sites_of R s.order))) (not (any (aimed R s) R.n)) t).0

  pub listed_next : (s : State) → Listed R q k s → Listed R q k (next R est k s)
  unfolding next take_at choose
  listed_next s L = go (full R k s) (λ t. t) (choose R est s) (first_is (is_open s) (key_in R est s) R.n)
    where
      go : (b : Bool) → (T (not b) → T (not (full R k s))) → (o : Option ℕ) → IsFirst (is_open s) (key_in R est s) R.n o → Listed R q k (take_at R s b o)
      go true z o f = L
      go false z none f = L
      go false z (some v) f = listed_take s L v f (not_full s (z tt))

  pub listed_start : Listed R q k (start R q)
  unfolding start taken memb sites_of
  listed_start = record {
    inv = inv_start R q G.below;
    later = λ a t. absurd t;
    asc = tt;
    size = omega arith;
    closed = λ t z. absurd z;
    tally = count_none (taken (start R q)) R.n (λ v. refl);
  }

  pub listed_after : (i : ℕ) → Listed R q k (after R est k q i)
  unfolding after
  listed_after zero = listed_start
  listed_after (suc i) = listed_next (after R est k q i) (listed_after i)

  -- ---- where it stops

  abbrev pub Stopped : State → Type 0
  Stopped s = T (full R k s) ⊎ (choose R est s ≡ none)

  pub stays : (s : State) → Stopped s → next R est k s ≡ s
  unfolding next take_at
  stays s (inl t) = rw (T_true (full R k s) t, take_at)
  stays s (inr e) = go (full R k s)
    where
      go : (b : Bool) → take_at R s b (choose R est s) ≡ s
      go true = refl
      go false = rw (e, take_at)

  moves : (s : State) (i : ℕ) → length s.order ≡ i → Stopped (next R est k s) ⊎ (length (next R est k s).order ≡ suc i)
  unfolding next take_at take1
  moves s i p = go (full R k s) (λ t. t) (choose R est s) refl
    where
      go : (b : Bool) → (T b → T (full R k s)) → (o : Option ℕ) → choose R est s ≡ o → Stopped (take_at R s b o) ⊎ (length (take_at R s b o).order ≡ suc i)
      go true z o e = inl (inl (z tt))
      go false z none e = inl (inr e)
      go false z (some v) e = inr (ap suc p)

  paced : (i : ℕ) → Stopped (after R est k q i) ⊎ (length (after R est k q i).order ≡ i)
  unfolding after start
  paced zero = inr refl
  paced (suc i) = go (paced i)
    where
      go : Stopped (after R est k q i) ⊎ (length (after R est k q i).order ≡ i) → Stopped (next R est k (after R est k q i)) ⊎ (length (next R est k (after R est k q i)).order ≡ suc i)
      go (inl t) = inl (rw (stays (after R est k q i) t) t)
      go (inr e) = moves (after R est k q i) i e

  all_taken : (s : State) → Listed R q k s → length s.order ≡ R.n → choose R est s ≡ none
  unfolding choose is_open
  all_taken s L e = go (first (is_open s) (key_in R est s) R.n) (first_is (is_open s) (key_in R est s) R.n)
    where
      go : (o : Option ℕ) → IsFirst (is_open s) (key_in R est s) R.n o → o ≡ none
      go none f = refl
      go (some v) f = absurd (T_not (taken s v) (and_both (ltb 0 (get_or s.best v 0)) (not (taken s v)) f.holds).1 (true_T (taken s v) (count_full (taken s) R.n (L.tally ∙ e) v f.below)))

  pub final_stopped : Stopped (final R est k q)
  unfolding final
  final_stopped = go (paced R.n)
    where
      go : Stopped (after R est k q R.n) ⊎ (length (after R est k q R.n).order ≡ R.n) → Stopped (after R est k q R.n)
      go (inl t) = t
      go (inr e) = inr (all_taken (after R est k q R.n) (listed_after R.n) e)

  -- ---- the list

  rest_of : (s : State) → Listed R q k s → Stopped s → (v : ℕ) → Reached (ArcOf R) (is_site R) q v → T (not (taken s v)) → length (sites_of R s.order) ≡ k
  unfolding full choose
  rest_of s L st v c o = go st
    where
      none_left : IsFirst (is_open s) (key_in R est s) R.n none → ⊥
      none_left f = at (exit L.inv.known (G.fits (aimed R s) (aimed_site R s)) 1 long c.1.1)
        where
          at : T (taken s v) ⊎ Exit (Has s) (taken s) (est (aimed R s)) 1 v c.1.0 → ⊥
          at (inl t) = T_not (taken s v) o t
          at (inr y) = f y.node (rw L.inv.size at (has_below s.best y.node y.len y.has)) (open_of R est q s L.inv y.node y.len y.untaken y.has)

      stop : T (leb k (length (sites_of R s.order))) ⊎ T (not (any (aimed R s) R.n)) → length (sites_of R s.order) ≡ k
      stop (inl t) = let a = leb→le k _ t in let b = L.size in omega arith
      stop (inr t) = absurd (T_not (any (aimed R s) R.n) t (any_of (aimed R s) R.n v (site_below R G.valid v c.0) (aims s v c.0 o)))

      go : Stopped s → length (sites_of R s.order) ≡ k
      go (inl t) = stop (or_cases (leb k (length (sites_of R s.order))) (not (any (aimed R s) R.n)) t)
      go (inr e) = absurd (none_left (rw e at (first_is (is_open s) (key_in R est s) R.n)))

  pub is_list : (s : State) → Listed R q k s → Stopped s → TheList R q k (sites_of R s.order)
  unfolding taken
  is_list s L st = record {
    mem = λ v t. let p = sites_in R s.order v t in let m = L.inv.known.settled v p.0 in (p.1, (m.0, m.2.walk));
    asc = L.asc;
    size = L.size;
    rest = λ v c t. let o = out v c.0 t in (rest_of s L st v c o, λ x z. let p = sites_in R s.order x z in L.later x p.0 p.1 v c.0 o);
  }
    where
      out : (v : ℕ) → T (is_site R v) → T (not (memb v (sites_of R s.order))) → T (not (taken s v))
      out v z t = not_T (taken s v) (λ y. T_not (memb v (sites_of R s.order)) t (sites_of_lem R s.order v y z))

  -- the search's list is 01's list
  pub final_list : TheList R q k (sites_of R (final R est k q).order)
  unfolding final
  final_list = is_list (final R est k q) (listed_after R.n) final_stopped
