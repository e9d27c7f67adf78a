-- How the search came to a state, how long its lengths are, and demand 3's last sentence.
use mathlib.Core.Path.{◌≡◌, refl, sym, ap, ◌∙◌}
use mathlib.Core.Logic.{◌⊎◌, inl, inr, ◌≢◌}
use mathlib.Core.Bool.{Bool, true, false, not, cond}
use mathlib.Core.Option.{Option, none, some}
use mathlib.Core.List.{List, [], ◌∷◌, ◌++◌}
use Prim.Native.Nat.{ℕ, zero, suc, ◌+◌, ◌*◌, ◌≤◌, ◌<◌}
use native.Mathlib.Omega.{arith}
use lib.Dec.{T, T_not, not_T, leb, le→leb}
use lib.ListN.{length, length-append}
use Rattle.meaning.specs.Region.{Region, ArcOf, is_site}
use Rattle.meaning.specs.Scan.{any}
use Rattle.meaning.specs.Taking.{State, memb, taken, len_at, key_in, is_open, aimed, sites_of, mark, take1, take_at, start, choose, full, next, after, final, to_sites}
use Rattle.meaning.specs.Walk.{Walk, Shortest}
use Rattle.meaning.proofs.Bools.{dec_t, and_both, and_make, or_cases, or_left, nor_both}
use Rattle.meaning.proofs.Estimates.{Measure, sites_under}
use Rattle.meaning.proofs.Exits.{shortest_unique, Picked, picked_under}
use Rattle.meaning.proofs.Listed.{Listed, snoc_new, memb_snoc, Earlier, sites_of_lem, taken_else, listed_after, long, aims, sh}
use Rattle.meaning.proofs.Orders.{Asc, memb_cases}
use Rattle.meaning.proofs.Relaxing.{Setting, aimed_site, relax_to_all}
use Rattle.meaning.proofs.Scans.{cond_false, any_of, any_is, First, IsFirst, first_is}
use Rattle.meaning.proofs.States.{Has, start_zero, picked, taken_cons, taken_new, taken_old}

not_not : (b : Bool) → T (not (not b)) → T b
not_not true t = tt
not_not false t = absurd t

aimed_other : (R : Region) (s : State) (x v : ℕ) → (x ≡ v → ⊥) → T (aimed R s v) → T (aimed R (mark s x) v)
unfolding aimed
aimed_other R s x v n t =
    let p = and_both (is_site R v) (not (taken s v)) t in
    and_make (is_site R v) (not (taken (mark s x) v)) p.0 (rw (taken_else s x v n) p.1)

-- whether the search is full depends on the taken nodes only
pub full_by : (R : Region) (k : ℕ) (s s' : State) → s.order ≡ s'.order → T (full R k s) → T (full R k s')
unfolding full aimed taken
full_by R k s s' e t = rw e at t

-- and the node that fills it is a site
fills : (R : Region) (k : ℕ) (s : State) (x : ℕ) → T (not (full R k s)) → T (full R k (mark s x)) → T (is_site R x)
unfolding full sites_of
fills R k s x nf f = go (dec_t (is_site R x))
  where
    n : T (not (leb k (length (sites_of R s.order)))) × T (not (not (any (aimed R s) R.n)))
    n = nor_both (leb k (length (sites_of R s.order))) (not (any (aimed R s) R.n)) nf

    still_aimed : T (not (is_site R x)) → (v : ℕ) → T (aimed R s v) → T (aimed R (mark s x) v)
    still_aimed z v t = aimed_other R s x v (λ e. T_not (is_site R x) z (rw e (aimed_site R s v t))) t

    at : T (not (is_site R x)) → T (leb k (length (cond (is_site R x) (sites_of R s.order ++ (x ∷ [])) (sites_of R s.order)))) ⊎ T (not (any (aimed R (mark s x)) R.n)) → ⊥
    at z (inl t) = T_not (leb k (length (sites_of R s.order))) n.0 (rw (cond_false (is_site R x) z (sites_of R s.order ++ (x ∷ [])) (sites_of R s.order)) at t)
    at z (inr t) =
        let a = any_is (aimed R s) R.n (not_not (any (aimed R s) R.n) n.1) in
        T_not (any (aimed R (mark s x)) R.n) t (any_of (aimed R (mark s x)) R.n a.0 a.1 (still_aimed z a.0 a.2))

    go : T (is_site R x) ⊎ T (not (is_site R x)) → T (is_site R x)
    go (inl t) = t
    go (inr z) = absurd (at z (or_cases (leb k (length (sites_of R (x ∷ s.order)))) (not (any (aimed R (mark s x)) R.n)) f))

module _ {R : Region} {est : (ℕ → Bool) → ℕ → ℕ} {q : ℕ} (G : Setting R est q) (k : ℕ) where
  -- how the search came to a state: it is the first, or a node was taken that the rule picks
  pub data Came : State → Type 0 where
    begun : Came (start R q)
    took : (s : State) (v : ℕ) → Listed R q k s → Came s → T (not (full R k s)) → First (is_open s) (key_in R est s) R.n v → Came (take1 R s v)

  came_next : (s : State) → Listed R q k s → Came s → Came (next R est k s)
  unfolding next take_at choose
  came_next s L c = go (full R k s) (λ t. t) (choose R est s) (first_is (is_open s) (key_in R est s) R.n)
    where
      go : (b : Bool) → (T (not b) → T (not (full R k s))) → (o : Option ℕ) → IsFirst (is_open s) (key_in R est s) R.n o → Came (take_at R s b o)
      go true z o f = c
      go false z none f = c
      go false z (some v) f = took s v L c (z tt) f

  pub came_after : (i : ℕ) → Came (after R est k q i)
  unfolding after
  came_after zero = begun
  came_after (suc i) = came_next (after R est k q i) (listed_after G k i) (came_after i)

  -- no node is taken twice
  pub came_once : {s : State} → Came s → Asc ◌≢◌ s.order
  unfolding start take1 taken
  came_once begun = tt
  came_once (took s v L c nf F) = (λ y t e. T_not (taken s v) (picked R est q s L.inv v F).untaken (rw e t), came_once c)

  -- a search that is full at the start takes nothing
  pub came_empty : {s : State} → Came s → T (full R k (start R q)) → s.order ≡ []
  unfolding start
  came_empty begun f = refl
  came_empty (took s v L c nf F) f = absurd (T_not (full R k s) nf (full_by R k (start R q) s (sym (came_empty c f)) f))

  -- how long any seen length can be: it must fit its machine number
  pub lens : (W : ℕ) → ((i : ℕ) → i < R.m → R.weight i ≤ W) → {s : State} → Came s → (v d : ℕ) → Has s v d → d ≤ length s.order * W
  unfolding take1
  lens W w begun v d h = let z = start_zero R q G.below v d h in omega arith
  lens W w (took s x L c nf F) v d h =
      relax_to_all R G.valid (taken (mark s x)) s.best x (len_at s.best x) L.inv.size (λ y e. e ≤ suc (length s.order) * W)
      (λ y e z. let l = lens W w c y e z in omega arith)
      (λ i l t. let a = w i l in let b = lens W w c x (len_at s.best x) (picked R est q s L.inv x F).has in omega arith) R.m (omega arith) v d h

  module _ (low : ℕ → ℕ) (under : (s : State) → T (not (full R k s)) → (v : ℕ) → low v ≤ est (aimed R s) v) where
    -- every taken node's length and `low` together are within the length of every site that is left
    pub bounded : {s : State} → Came s → (v d : ℕ) → T (taken s v) → Shortest (ArcOf R) q v d → (t e : ℕ) → T (is_site R t) → T (not (taken s t)) → Walk (ArcOf R) q t e → d + low v ≤ e
    unfolding start taken memb take1
    bounded begun v d tv sv t e st o p = absurd tv
    bounded (took s x L c nf F) v d tv sv t e st o p = go (taken_cons s x v tv) (λ z. bounded c v d z sv t e st old p)
      where
        old : T (not (taken s t))
        old = not_T (taken s t) (λ y. T_not (taken (mark s x) t) o (taken_old s x t y))

        new : Shortest (ArcOf R) q x d → d + low x ≤ e
        new sx =
            let P = picked R est q s L.inv x F in
            let a = shortest_unique sx (sh G k s L x F) in
            let b = picked_under L.inv.known (G.fits (aimed R s) (aimed_site R s)) 1 (long G k) (is_site R) (aims G k s) P t e st old p in
            let c = under s nf x in
            omega arith

        go : (x ≡ v) ⊎ T (taken s v) → (T (taken s v) → d + low v ≤ e) → d + low v ≤ e
        go (inl c₂) ih = rw (← c₂) (new (rw c₂ sv))
        go (inr z) ih = ih z

    -- the node that fills the list: every taken node is within its length
    pub record Last (s : State) : Type 0 where
      pub node : ℕ
      pub got : T (taken s node)
      pub site : T (is_site R node)
      pub len : ℕ
      pub short : Shortest (ArcOf R) q node len
      pub within : (v d : ℕ) → T (taken s v) → Shortest (ArcOf R) q v d → d + low v ≤ len

    pub last_of : {s : State} → Came s → T (full R k s) → (T (full R k (start R q)) → ⊥) → Last s
    unfolding take1 taken
    last_of begun f nb = absurd (nb f)
    last_of (took s x L c nf F) f nb = record {
      node = x;
      got = taken_new s x x refl;
      site = sx;
      len = len_at s.best x;
      short = sh G k s L x F;
      within = λ v d t z. go v d z (taken_cons s x v t);
    }
      where
        P : Picked (Has s) (taken s) (is_site R) (est (aimed R s)) x (len_at s.best x)
        P = picked R est q s L.inv x F

        sx : T (is_site R x)
        sx = fills R k s x nf (full_by R k (take1 R s x) (mark s x) refl f)

        go : (v d : ℕ) → Shortest (ArcOf R) q v d → (x ≡ v) ⊎ T (taken s v) → d + low v ≤ len_at s.best x
        go v d z (inl e) =
            let a : d ≡ len_at s.best x = shortest_unique (rw e z) (sh G k s L x F) in
            let b = under s nf x in
            let h = (G.fits (aimed R s) (aimed_site R s)).at_site x (aims G k s x sx P.untaken) in
            rw (← e) (omega arith)
        go v d z (inr t) = bounded c v d t z x (len_at s.best x) sx P.untaken (sh G k s L x F).walk

-- demand 3: where k sites are listed, no taken node's length and least straight line to any site exceed the last listed length
pub asc_last : (E : ℕ → ℕ → Type 0) (p : List ℕ) (t : ℕ) → Asc E (p ++ (t ∷ [])) → (x : ℕ) → T (memb x p) → E x t
unfolding memb
asc_last E [] t a x z = absurd z
asc_last E (y ∷ p) t a x z = go (memb_cases y x p z) (asc_last E p t a.1 x)
  where
    go : (y ≡ x) ⊎ T (memb x p) → (T (memb x p) → E x t) → E x t
    go (inl e) ih = rw (← e) (a.0 t (snoc_new p t))
    go (inr w) ih = ih w

module _ {R : Region} {d : ℕ → ℕ → ℕ} {q : ℕ} (M : Measure R d) (G : Setting R (to_sites R d) q) (k : ℕ) where
  private_under : (s : State) → T (not (full R k s)) → (v : ℕ) → to_sites R d (is_site R) v ≤ to_sites R d (aimed R s) v
  unfolding full
  private_under s nf v =
      let n = nor_both (leb k (length (sites_of R s.order))) (not (any (aimed R s) R.n)) nf in
      let a = any_is (aimed R s) R.n (not_not (any (aimed R s) R.n) n.1) in
      sites_under R d (aimed R s) (aimed_site R s) a.0 a.2 v

  module _ (p : List ℕ) (t : ℕ) (list : sites_of R (final R (to_sites R d) k q).order ≡ p ++ (t ∷ [])) (len : length (p ++ (t ∷ [])) ≡ k) where
    came : Came G k (final R (to_sites R d) k q)
    unfolding final
    came = came_after G k R.n

    listed : Listed R q k (final R (to_sites R d) k q)
    unfolding final
    listed = listed_after G k R.n

    no_start : T (full R k (start R q)) → ⊥
    unfolding sites_of
    no_start f =
        let e = came_empty G k came f in
        let l : length (p ++ (t ∷ [])) ≡ 0 = ap length (sym list) ∙ (rw e) in
        let m = length-append p (t ∷ []) in
        omega arith

    is_full : T (full R k (final R (to_sites R d) k q))
    unfolding full
    is_full = or_left (leb k (length (sites_of R (final R (to_sites R d) k q).order))) (not (any (aimed R (final R (to_sites R d) k q)) R.n)) (rw list (le→leb k (length (p ++ (t ∷ []))) (omega arith)))

    lst : Last G k (to_sites R d (is_site R)) private_under (final R (to_sites R d) k q)
    lst = last_of G k (to_sites R d (is_site R)) private_under came is_full no_start

    last_le : (e : ℕ) → Shortest (ArcOf R) q t e → lst.len ≤ e
    unfolding taken
    last_le e st = go (memb_snoc p t lst.node (rw list at (sites_of_lem R (final R (to_sites R d) k q).order lst.node lst.got lst.site)))
      where
        near : (a : ℕ) → lst.len ≡ a → (a < e) ⊎ ((a ≡ e) × (lst.node < t)) → lst.len ≤ e
        near a c (inl z) = omega arith
        near a c (inr z) = let y = z.0 in omega arith

        go : T (memb lst.node p) ⊎ (t ≡ lst.node) → lst.len ≤ e
        go (inl z) = let r = asc_last (Earlier (ArcOf R) q) p t (rw list at listed.asc) lst.node z in near r.0 (shortest_unique lst.short r.1) (r.2 e st.walk)
        go (inr c) = let y = shortest_unique lst.short (rw c at st) in omega arith

    pub within_last : (e : ℕ) → Shortest (ArcOf R) q t e → (v c : ℕ) → T (taken (final R (to_sites R d) k q) v) → Shortest (ArcOf R) q v c → c + to_sites R d (is_site R) v ≤ e
    within_last e st v c tv sv = let a = lst.within v c tv sv in let b = last_le e st in omega arith
