-- A run of the taking rule over tables that passed the checks: its start, a step, and where it stops.
use mathlib.Core.Path.{◌≡◌, refl, sym, ap, ◌∙◌}
use mathlib.Core.Logic.{◌⊎◌, inl, inr}
use mathlib.Core.Bool.{Bool, true, false, not, cond, ◌||◌}
use mathlib.Core.Option.{Option, none, some}
use mathlib.Core.List.{List, [], ◌∷◌, ◌++◌, map, append_assoc}
use Prim.Native.Nat.{ℕ, zero, suc, ◌+◌, ◌-◌, ◌*◌, ◌≤◌, ◌<◌}
use native.Mathlib.Numerals.{add-one}
use native.Mathlib.Omega.{arith}
use borrow.Author.Tests.{le-leb, lt-leb, ltb-true, ltb-false}
use lib.Dec.{T, not_T, leb, ltb}
use lib.ListN.{length, get_or, set, drop, replicate, length-append, length-map}
use lib.Seq.{drop-cons, set-append_seam}
use Rattle.meaning.specs.Scan.{any}
use Rattle.meaning.specs.Region.{Tables, region_of, is_site}
use Rattle.meaning.specs.Taking.{State, memb, taken, is_open, aimed, len_at, sites_of, mark, take1, take_at, start, full, choose, next, after, key_in}
use Rattle.meaning.specs.Search.{over, aim_of}
use Rattle.meaning.proofs.Bools.{T_true, or_left, or_right, and_both, and_make}
use Rattle.meaning.proofs.Counting.{count}
use Rattle.meaning.proofs.Scans.{First, first_is, any_is}
use Rattle.meaning.proofs.Orders.{memb_head, memb_tail}
use Rattle.meaning.proofs.Relaxing.{relax_to_taken}
use Rattle.meaning.proofs.Listed.{Stopped, sites_in, sites_of_lem, listed_after, stays}
use Rattle.meaning.proofs.States.{taken_old}
use Rattle.meaning.proofs.Outcomes.{aim_fits}
use Rattle.meaning.proofs.Demands.{lengths_most, taken_most}
use Rattle.memory.specs.Memory.{SiteTold, next_of}
use Rattle.std.specs.Prelude.{Option as Maybe, Some, None}
use Rattle.memory.proofs.Holds.{site_is}
use Rattle.taking.specs.Ways.{entry_most, Bounded}
use Rattle.taking.specs.Parents.{parents1, parents_next, parents_after}
use Rattle.taking.specs.Steps.{Guided, Live, OpenSite, Took, Aiming, Stays, Chosen}
use Rattle.taking.specs.declared.Guide.{Guide}
use Rattle.search.specs.Run.{Passed, state_at, sites_at, Ends, filled, done, closed, Picks, Picked, Put, Ran}
use Rattle.search.proofs.Checked.{S, G}
use Rattle.search.proofs.Left.{none_left, sites_are}

-- ---- what is listed

map_same : (f g : ℕ → ℕ) (xs : List ℕ) → ((v : ℕ) → T (memb v xs) → f v ≡ g v) → map f xs ≡ map g xs
map_same f g [] h = refl
map_same f g (x ∷ xs) h =
    let a = h x (memb_head x xs) in
    let b = map_same f g xs (λ v z. h v (memb_tail x v xs z)) in
    cc

map_more : (f : ℕ → ℕ) (xs : List ℕ) (x : ℕ) → map f (xs ++ x ∷ []) ≡ map f xs ++ f x ∷ []
map_more f [] x = refl
map_more f (y ∷ xs) x = ap (λ (l : List ℕ). f y ∷ l) (map_more f xs x)

over_more : (xs : List ℕ) (x : ℕ) (b : List ℕ) → length xs < length b → set (over xs b) (length xs) x ≡ over (xs ++ x ∷ []) b
over_more xs x b l =
    ap (λ (r : List ℕ). set (xs ++ r) (length xs) x) (drop-cons b (length xs) 0 l)
    ∙ set-append_seam xs (get_or b (length xs) 0) (drop (suc (length xs)) b) x
    ∙ ap (λ (n : ℕ). xs ++ x ∷ drop n b) (sym (length-append xs (x ∷ []) ∙ add-one (length xs)))
    ∙ sym (append_assoc xs (x ∷ []) (drop (length (xs ++ x ∷ [])) b))

-- a list in front of b, and one more node at its end
more : (site : Bool) (f : ℕ → ℕ) (vs : List ℕ) (u c : ℕ) (b : List ℕ) → c ≡ length vs → c < length b
    → cond site (set (over (map f vs) b) c (f u)) (over (map f vs) b) ≡ over (map f (cond site (vs ++ u ∷ []) vs)) b
more true f vs u c b e l =
    let m = length-map vs f in
    let a : c ≡ length (map f vs) = omega arith in
    ap (λ (n : ℕ). set (over (map f vs) b) n (f u)) a ∙ over_more (map f vs) (f u) b (omega arith) ∙ ap (λ (xs : List ℕ). over xs b) (sym (map_more f vs u))
more false f vs u c b e l = refl

length_more : (site : Bool) (vs : List ℕ) (u c : ℕ) → c ≡ length vs → cond site (suc c) c ≡ length (cond site (vs ++ u ∷ []) vs)
length_more true vs u c e = let a = length-append vs (u ∷ []) in omega arith
length_more false vs u c e = e

-- ---- what the memory chooses

next_some : (o : Option ℕ) (u : ℕ) → Some u ≡ next_of o → o ≡ some u
next_some none u e = let z : ◌≡◌ {A = ℕ} 0 1 = cc in absurd (omega arith)
next_some (some v) u e = cc

next_none : (o : Option ℕ) → None ≡ next_of o → o ≡ none
next_none none e = refl
next_none (some v) e = let z : ◌≡◌ {A = ℕ} 0 1 = cc in absurd (omega arith)

-- what choosing told, as the answer of looking for the next node
pub picked : (t : Tables) (k c : ℕ) (w w' : List ℕ) (r : Maybe ℕ) → c < k → c < t.s → Stays t w w' → Chosen t (ltb 0 c) w r → Picked t k c w w' r
picked t k c w w' None a b z h = closed b z h
picked t k c w w' (Some u) a b z h = record { wanted = a; left = b; stays = z; chosen = h }

-- ---- the start

-- the state after i steps, and the nodes before, by name
ran_by : {t : Tables} {q k i : ℕ} {work listed lengths w l d : List ℕ} {c n : ℕ} (s : State) (from : List ℕ) → state_at t q k i ≡ s → parents_after (region_of t) (aim_of t) k (q - 1) i ≡ from
    → c ≡ length (sites_at t s) → n ≡ length s.order → Live t s from (drop (4 * t.n) work) w → l ≡ over (map suc (sites_at t s)) listed
    → d ≡ over (map (len_at s.best) (sites_at t s)) lengths → Ran t q k i work listed lengths w l d c n
ran_by s from e f count order live numbers lens =
    record { sites_are = rw e count; taken_are = rw e order; live = rw (e, f) live; listed_are = rw e numbers; lengths_are = rw e lens }

pub begun : {t : Tables} {q k : ℕ} {listed lengths work w : List ℕ} → Live t (start (region_of t) (q - 1)) (replicate t.n 0) (drop (4 * t.n) work) w → Ran t q k 0 work listed lengths w listed lengths 0 0
unfolding after start parents_after sites_of
begun h = record { sites_are = refl; taken_are = refl; live = h; listed_are = refl; lengths_are = refl }

-- ---- a step, and where it stops

module _ {t : Tables} {q k : ℕ} (P : Passed t q k) {i : ℕ} {work listed lengths w l d : List ℕ} {c n : ℕ} (ran : Ran t q k i work listed lengths w l d c n) where
  abbrev here : State
  here = state_at t q k i

  abbrev from : List ℕ
  from = parents_after (region_of t) (aim_of t) k (q - 1) i

  -- a length that has been seen, or 0
  pub bounds : Bounded t w
  bounds v b = go (get_or here.best v 0) refl
    where
      go : (x : ℕ) → get_or here.best v 0 ≡ x → get_or w v 0 ≤ entry_most
      go zero e = let a = ran.live.holds.lens v b in omega arith
      go (suc x) e = let a = ran.live.holds.lens v b in let m = lengths_most (S P) (aim_of t) (aim_fits (S P)) i v x e in omega arith

  -- the tests of the loop are the rule's own
  full_is : full (region_of t) k here ≡ leb k c || leb t.s c
  unfolding full
  full_is =
      let e : t.s ≡ c + count (aimed (region_of t) here) t.n = rw ran.sites_are (sites_are P i) in
      rw (← ran.sites_are, none_left (aimed (region_of t) here) t.n t.s c e)

  not_full : c < k → c < t.s → full (region_of t) k here ≡ false
  not_full a b = rw (full_is, lt-leb k c a, lt-leb t.s c b)

  -- while fewer sites are listed than there are, one is left
  left : c < t.s → (j : ℕ) × (j < t.n) × T (aimed (region_of t) here j)
  left b =
      let e : t.s ≡ c + count (aimed (region_of t) here) t.n = rw ran.sites_are (sites_are P i) in
      any_is (aimed (region_of t) here) t.n (T_not_false (any (aimed (region_of t) here) t.n) (none_left (aimed (region_of t) here) t.n t.s c e ∙ lt-leb t.s c b))
    where
      T_not_false : (b : Bool) → not b ≡ false → T b
      T_not_false true z = tt
      T_not_false false z = let y : ◌≡◌ {A = ℕ} 0 1 = cc in absurd (omega arith)

  -- what choosing asks, and what it leaves
  module _ (b : c < t.s) where
    pub aiming : Aiming t w
    aiming = record { state = here; from = from; rest = drop (4 * t.n) work; live = ran.live; left = (left b).0; aims = (left b).2 }

    pub renewed : {w' : List ℕ} → Stays t w w' → Ran t q k i work listed lengths w' l d c n
    renewed z = record {
      sites_are = ran.sites_are;
      taken_are = ran.taken_are;
      live = z here from (drop (4 * t.n) work) (left b).0 (left b).2 ran.live;
      listed_are = ran.listed_are;
      lengths_are = ran.lengths_are;
    }

    -- while the list is empty, no site has been taken
    all_left : ltb 0 c ≡ false → (j : ℕ) → T (is_site (region_of t) j) → T (aimed (region_of t) here j)
    unfolding aimed taken memb
    all_left e j z =
        and_make (is_site (region_of t) j) (not (memb j here.order)) z
        (not_T (memb j here.order) (λ y. none_in (sites_of (region_of t) here.order) (let a = ltb-false 0 c e in let b = ran.sites_are in omega arith) (sites_of_lem (region_of t) here.order j y z)))
      where
        none_in : (xs : List ℕ) → length xs ≡ 0 → T (memb j xs) → ⊥
        none_in [] e t = t
        none_in (x ∷ xs) e t = omega arith

    chosen : {r : Maybe ℕ} → Chosen t (ltb 0 c) w r → r ≡ next_of (choose (region_of t) (aim_of t) here)
    chosen h = h here from (drop (4 * t.n) work) (left b).0 (left b).2 all_left ran.live

    pub picked_node : {u : ℕ} → Chosen t (ltb 0 c) w (Some u) → choose (region_of t) (aim_of t) here ≡ some u
    picked_node {u = u} h = next_some (choose (region_of t) (aim_of t) here) u (chosen h)

    pub picked_none : Chosen t (ltb 0 c) w None → choose (region_of t) (aim_of t) here ≡ none
    picked_none h = next_none (choose (region_of t) (aim_of t) here) (chosen h)

  pub first_of : {u : ℕ} → choose (region_of t) (aim_of t) here ≡ some u → First (is_open here) (key_in (region_of t) (aim_of t) here) t.n u
  unfolding choose
  first_of e = rw e at (first_is (is_open here) (key_in (region_of t) (aim_of t) here) t.n)

  -- the node that goes next is open, and what is held of it tells whether it is a site
  pub open_site : {u : ℕ} → choose (region_of t) (aim_of t) here ≡ some u → OpenSite t u w
  unfolding is_open is_site
  open_site {u = u} e =
      let F = first_of e in
      let a = ran.live.holds.lens u F.below in
      let l = ltb-true 0 (get_or here.best u 0) (T_true (ltb 0 (get_or here.best u 0)) (and_both (ltb 0 (get_or here.best u 0)) (not (taken here u)) F.holds).0) in
      record { seen = omega arith; told = site_is ran.live.holds u F.below F.holds }

  module _ {u : ℕ} (a : c < k) (b : c < t.s) (picks : choose (region_of t) (aim_of t) here ≡ some u) where
    state_is : state_at t q k (suc i) ≡ take1 (region_of t) here u
    unfolding after next take_at
    state_is = rw (not_full a b, picks, take_at)

    from_is : parents_after (region_of t) (aim_of t) k (q - 1) (suc i) ≡ parents1 (region_of t) here u from
    unfolding parents_after parents_next
    from_is = rw (not_full a b, picks, parents_next)

    -- the sites taken before keep their lengths
    lens_stay : map (len_at here.best) (sites_at t here) ≡ map (len_at (take1 (region_of t) here u).best) (sites_at t here)
    unfolding take1 taken
    lens_stay =
        map_same (len_at here.best) (len_at (take1 (region_of t) here u).best) (sites_at t here)
        (λ v z. ap (λ (x : ℕ). x - 1) (sym
        (relax_to_taken (region_of t) (G P).valid (taken (mark here u)) here.best u (len_at here.best u) (listed_after (G P) k i).inv.size t.m (omega arith) v
        (taken_old here u v (sites_in (region_of t) here.order v z).0))))

  pub advanced : {u : ℕ} {site : Bool} {w' l' d' : List ℕ} {c' : ℕ} → c < k → c < t.s → c < length listed → c < length lengths → choose (region_of t) (aim_of t) here ≡ some u
      → SiteTold t.n w u site → Took t u w w' → Put site u (get_or w' u 0 - 1) c l d l' d' c' → Ran t q k (suc i) work listed lengths w' l' d' c' (suc n)
  unfolding take1 sites_of
  advanced {u = u} {site = site} {w' = w'} {l' = l'} {d' = d'} {c' = c'} a b room₁ room₂ picks told took put =
      let F = first_of picks in
      let live' = took here from (drop (4 * t.n) work) ran.live F.holds in
      let s' = take1 (region_of t) here u in
      let same : site ≡ is_site (region_of t) u = told _ _ here from _ ran.live.holds F.holds in
      let z = is_site (region_of t) u in
      let vs = sites_at t here in
      let p : Put z u (get_or w' u 0 - 1) c l d l' d' c' = rw same at put in
      ran_by s' (parents1 (region_of t) here u from) (state_is a b picks) (from_is a b picks) (p.count_is ∙ length_more z vs u c ran.sites_are) (ap suc ran.taken_are) live'
      (p.listed_is ∙ ap (λ (x : List ℕ). cond z (set x c (suc u)) x) ran.listed_are ∙ more z suc vs u c listed ran.sites_are room₁)
      (p.lengths_is ∙ ap (λ (x : List ℕ). cond z (set x c (get_or w' u 0 - 1)) x) (ran.lengths_are ∙ ap (λ (x : List ℕ). over x lengths) (lens_stay a b picks))
      ∙ ap (λ (x : ℕ). cond z (set (over (map (len_at s'.best) vs) lengths) c (x - 1)) (over (map (len_at s'.best) vs) lengths)) (live'.holds.lens u F.below)
      ∙ more z (len_at s'.best) vs u c lengths ran.sites_are room₂)

  -- ---- where it stops

  module _ (stop : Stopped (G P) k here) where
    next_from : parents_next (region_of t) here from (full (region_of t) k here) (choose (region_of t) (aim_of t) here) ≡ from
    unfolding parents_next
    next_from = go stop
      where
        none_left : (x : Bool) → parents_next (region_of t) here from x none ≡ from
        none_left true = refl
        none_left false = refl

        go : T (full (region_of t) k here) ⊎ (choose (region_of t) (aim_of t) here ≡ none) → parents_next (region_of t) here from (full (region_of t) k here) (choose (region_of t) (aim_of t) here) ≡ from
        go (inl z) = rw (T_true (full (region_of t) k here) z, parents_next)
        go (inr e) = rw e (none_left (full (region_of t) k here))

    stay : (j : ℕ) → (state_at t q k (i + j) ≡ here) × (parents_after (region_of t) (aim_of t) k (q - 1) (i + j) ≡ from)
    unfolding after parents_after
    stay zero = let e : i + 0 ≡ i = omega arith in rw e (refl, refl)
    stay (suc j) =
        let e : i + suc j ≡ suc (i + j) = omega arith in
        let h = stay j in
        rw (e, h.0, h.1) (stays (G P) k here stop, next_from)

    ended : (e : ℕ) → i ≤ e → Ran t q k e work listed lengths w l d c n
    ended e m =
        let h = stay (e - i) in
        let x : i + (e - i) ≡ e = omega arith in
        ran_by here from (rw x at h.0) (rw x at h.1) ran.sites_are ran.taken_are ran.live ran.listed_are ran.lengths_are

  -- as many nodes are taken as steps are made, and no more than there are
  pub few_taken : n ≤ t.n
  few_taken = let a = ran.taken_are in let b = taken_most (S P) (aim_of t) (aim_fits (S P)) i in omega arith

  pub stops_filled : k ≤ c → (e : ℕ) → i ≤ e → Ran t q k e work listed lengths w l d c n
  stops_filled a = ended (inl (rw full_is (or_left (leb k c) (leb t.s c) (rw (le-leb k c a) tt))))

  pub stops_done : t.s ≤ c → (e : ℕ) → i ≤ e → Ran t q k e work listed lengths w l d c n
  stops_done a = ended (inl (rw full_is (or_right (leb k c) (leb t.s c) (rw (le-leb t.s c a) tt))))

  pub stops_closed : choose (region_of t) (aim_of t) here ≡ none → (e : ℕ) → i ≤ e → Ran t q k e work listed lengths w l d c n
  stops_closed z = ended (inr z)

-- where no node is next, the run is at its end
pub stopped : {t : Tables} {q k : ℕ} (P : Passed t q k) {i : ℕ} {work listed lengths w l d : List ℕ} {c n : ℕ} (ran : Ran t q k i work listed lengths w l d c n) {w' : List ℕ} → Ends t k c w w' → (e : ℕ) → i ≤ e
    → Ran t q k e work listed lengths w' l d c n
stopped P ran (filled a s) e m = rw s (stops_filled P ran a e m)
stopped P ran (done a s) e m = rw s (stops_done P ran a e m)
stopped P ran (closed b z h) e m = stops_closed P (renewed P ran b z) (picked_none P ran b h) e m

-- ---- the node that is next, as the loop takes it

module _ {t : Tables} {q k : ℕ} (P : Passed t q k) {i : ℕ} {work listed lengths w l d : List ℕ} {c n : ℕ} (ran : Ran t q k i work listed lengths w l d c n) {w' : List ℕ} {u : ℕ} (picks : Picks t k c w w' u) where
  ran_on : Ran t q k i work listed lengths w' l d c n
  ran_on = renewed P ran picks.left picks.stays

  node : choose (region_of t) (aim_of t) (state_at t q k i) ≡ some u
  node = picked_node P ran picks.left picks.chosen

  pub in_bounds : (4 * t.n ≤ length w') × (u < t.n)
  in_bounds = (ran_on.live.holds.room, (first_of P ran node).below)

  pub bounded : Bounded t w'
  bounded = bounds P ran_on

  pub opened : OpenSite t u w'
  opened = open_site P ran_on node

  pub stepped : {site : Bool} {w'' l' d' : List ℕ} {c' : ℕ} → c < length listed → c < length lengths
      → SiteTold t.n w' u site → Took t u w' w'' → Put site u (get_or w'' u 0 - 1) c l d l' d' c' → Ran t q k (i + 1) work listed lengths w'' l' d' c' (n + 1)
  stepped room₁ room₂ told took put = rw (add-one i, add-one n) (advanced P ran_on picks.wanted picks.left room₁ room₂ node told took put)

-- what the loop keeps to
pub record Going (t : Tables) (q k : ℕ) (work₀ listed₀ lengths₀ : List ℕ) (guide : Guide) (work listed lengths : List ℕ) (sites taken : ℕ) : Type 0 where
  pub ran : Ran t q k taken work₀ listed₀ lengths₀ work listed lengths sites taken
  pub guided : Guided t work guide
