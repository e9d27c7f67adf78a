-- The route, stepping backwards: at most one list is it, it fits into n entries, and the search's lengths give it.
use mathlib.Core.Path.{◌≡◌, refl, sym, ap, subst, ◌∙◌}
use mathlib.Core.Logic.{◌⊎◌, inl, inr}
use mathlib.Core.Bool.{Bool, ◌&&◌}
use mathlib.Core.Option.{Option, none, some}
use mathlib.Core.List.{List, [], ◌∷◌, ◌++◌, append_assoc, append-nil}
use Prim.Native.Nat.{ℕ, zero, suc, ◌+◌, ◌≤◌, ◌<◌}
use native.Mathlib.Omega.{arith}
use lib.Dec.{T, eqb, eqb→eq, eqb_refl}
use lib.ListN.{length}
use Rattle.meaning.specs.Region.{Region, ArcOf, is_site}
use Rattle.meaning.specs.Route.{Gives, Lowest, RouteTo, at_query, from}
use Rattle.meaning.specs.Scan.{any}
use Rattle.meaning.specs.Taking.{State, memb, taken, len_at}
use Rattle.meaning.specs.Walk.{Walk, here, step, Shortest}
use Rattle.meaning.proofs.Arcs.{arc_tail, arc_head, arc_of}
use Rattle.meaning.proofs.Bools.{and_both, and_make}
use Rattle.meaning.proofs.Exits.{one, join, shortest_unique, shortest_front}
use Rattle.meaning.proofs.Listed.{Listed, memb_snoc, asc_snoc}
use Rattle.meaning.proofs.Orders.{Asc, asc_fits, memb_cases}
use Rattle.meaning.proofs.Relaxing.{Setting}
use Rattle.meaning.proofs.Scans.{any_of, any_is, First, IsFirst, first_is}
use Rattle.meaning.proofs.States.{Has, Inv}
use Rattle.meaning.proofs.Trace.{arc_gives, prev, back, route}

pub lowest_unique : (A : ℕ → ℕ → ℕ → Type 0) (q u x v : ℕ) → Lowest A q u v → Lowest A q x v → u ≡ x
lowest_unique A q u x v a b = let p = a.low x b.gives in let o = b.low u a.gives in omega arith

-- at most one list is the route
pub route_unique : {A : ℕ → ℕ → ℕ → Type 0} {q v : ℕ} {p : List ℕ} → RouteTo A q v p → (w : ℕ) (r : List ℕ) → RouteTo A q w r → v ≡ w → p ≡ r
route_unique {A} {q} at_query w r t e = start t (sym e)
  where
    start : {w : ℕ} {r : List ℕ} → RouteTo A q w r → w ≡ q → q ∷ [] ≡ r
    start at_query e = refl
    start (from n l t) e = absurd (n e)
route_unique {A} {q} (from {u = u} {v = v} {way = p} n l t) w r t' e = on t' e (λ x s t₂ e₂. route_unique t x s t₂ e₂)
  where
    on : {w : ℕ} {r : List ℕ} → RouteTo A q w r → v ≡ w → ((x : ℕ) (s : List ℕ) → RouteTo A q x s → u ≡ x → p ≡ s) → p ++ (v ∷ []) ≡ r
    on at_query e ih = absurd (n e)
    on (from {u = x} {v = y} {way = s} m k t₂) e ih =
        let i = ih x s t₂ (lowest_unique A q u x v l (rw e k)) in
        cc

-- a walk with the nodes that it passes
pub data Along (A : ℕ → ℕ → ℕ → Type 0) (q : ℕ) : List ℕ → ℕ → ℕ → Type 0 where
  alone : Along A q (q ∷ []) q 0
  then : {p : List ℕ} {u v d w : ℕ} → Along A q p u d → A u v w → Along A q (p ++ (v ∷ [])) v (d + w)

-- a route is a walk of the shortest length
pub route_along : {A : ℕ → ℕ → ℕ → Type 0} {q v : ℕ} {p : List ℕ} → RouteTo A q v p → (d : ℕ) → Shortest A q v d → Along A q p v d
route_along {A} {q} at_query d s = let l = s.least 0 here in subst (λ (x : ℕ). Along A q (q ∷ []) q x) (omega arith) alone
route_along {A} {q} (from {u = u} {v = v} {way = p} n l t) d s =
    let g = l.gives in
    subst (λ (x : ℕ). Along A q (p ++ (v ∷ [])) v x) (shortest_unique g.whole s) (then (route_along t g.len g.short) g.arc)

back_none : (R : Region) (s : State) (f : ℕ) (acc : List ℕ) → back R s f none acc ≡ acc
unfolding back
back_none R s zero acc = refl
back_none R s (suc f) acc = refl

pub eq→eqb : (m n : ℕ) → m ≡ n → T (eqb m n)
eq→eqb m n e = rw e (eqb_refl n)

gives_at : (R : Region) (b : List ℕ) (u v i : ℕ) → R.tail i ≡ u → R.head i ≡ v → len_at b u + R.weight i ≡ len_at b v → T (arc_gives R b u v i)
unfolding arc_gives
gives_at R b u v i e₁ e₂ e₃ =
    and_make (eqb (R.tail i) u) (eqb (R.head i) v && eqb (len_at b u + R.weight i) (len_at b v)) (eq→eqb _ _ e₁)
    (and_make (eqb (R.head i) v) (eqb (len_at b u + R.weight i) (len_at b v)) (eq→eqb _ _ e₂) (eq→eqb _ _ e₃))

at_gives : (R : Region) (b : List ℕ) (u v i : ℕ) → T (arc_gives R b u v i) → (R.tail i ≡ u) × (R.head i ≡ v) × (len_at b u + R.weight i ≡ len_at b v)
unfolding arc_gives
at_gives R b u v i t =
    let p = and_both (eqb (R.tail i) u) (eqb (R.head i) v && eqb (len_at b u + R.weight i) (len_at b v)) t in
    let r = and_both (eqb (R.head i) v) (eqb (len_at b u + R.weight i) (len_at b v)) p.1 in
    (eqb→eq _ _ p.0, eqb→eq _ _ r.0, eqb→eq _ _ r.1)

-- a taken node t, and with it every node of every shortest walk to it
pub record Ends (R : Region) (q : ℕ) (s : State) (t : ℕ) : Type 0 where
  pub inv : Inv R q s
  pub got : T (taken s t)
  pub closed : (x a r : ℕ) → Walk (ArcOf R) q x a → Walk (ArcOf R) x t r → Shortest (ArcOf R) q t (a + r) → T (taken s x)

pub listed_ends : (R : Region) (q k : ℕ) (s : State) → Listed R q k s → (t : ℕ) → T (taken s t) → T (is_site R t) → Ends R q s t
listed_ends R q k s L t tk st = record { inv = L.inv; got = tk; closed = L.closed t tk st }

module _ (R : Region) (q : ℕ) (s : State) (t : ℕ) (Y : Ends R q s t) where
  -- v lies on a shortest walk to t
  pub record OnWay (v : ℕ) : Type 0 where
    pub len : ℕ
    pub has : Has s v len
    pub short : Shortest (ArcOf R) q v len
    pub tail : ℕ
    pub rest : Walk (ArcOf R) v t tail
    pub whole : Shortest (ArcOf R) q t (len + tail)
    pub got : T (taken s v)

  pub way_end : OnWay t
  way_end =
      let m = Y.inv.known.settled t Y.got in
      record { len = m.0; has = m.1; short = m.2; tail = 0; rest = here; whole = subst (λ (x : ℕ). Shortest (ArcOf R) q t x) (omega arith) m.2; got = Y.got }

  unfoldable pub way_back_lem : {x v : ℕ} → OnWay v → Gives (ArcOf R) q x v → OnWay x
  way_back_lem {x} {v} W g =
      let e : W.len ≡ g.len + g.weight = shortest_unique W.short g.whole in
      let whole' : Shortest (ArcOf R) q t (g.len + (g.weight + W.tail)) = subst (λ (z : ℕ). Shortest (ArcOf R) q t z) (omega arith) W.whole in
      let walk' : Walk (ArcOf R) x t (g.weight + W.tail) = join (one g.arc) W.rest in
      let got' = Y.closed x g.len (g.weight + W.tail) g.short.walk walk' whole' in
      let m = Y.inv.known.settled x got' in
      let e₂ : m.0 ≡ g.len = shortest_unique m.2 g.short in
      record { len = g.len; has = m.1 ∙ ap suc e₂; short = g.short; tail = g.weight + W.tail; rest = walk'; whole = whole'; got = got' }

  pub at_len : {v : ℕ} (W : OnWay v) → len_at s.best v ≡ W.len
  at_len W = let h = W.has in omega arith

  abbrev ok : ℕ → ℕ → Bool
  ok v u = taken s u && any (arc_gives R s.best u v) R.m

  ok_of : {v : ℕ} → OnWay v → (x : ℕ) → Gives (ArcOf R) q x v → T (ok v x)
  unfolding way_back_lem
  ok_of {v} W x g =
      let X = way_back_lem W g in
      let a = g.arc in
      let e : W.len ≡ g.len + g.weight = shortest_unique W.short g.whole in
      let l₁ = at_len W in
      let l₂ : len_at s.best x ≡ g.len = at_len X in
      let l₃ = a.weighs in
      and_make (taken s x) (any (arc_gives R s.best x v) R.m) X.got (any_of (arc_gives R s.best x v) R.m a.index a.below (gives_at R s.best x v a.index (arc_tail a) (arc_head a) (omega arith)))

  gives_of : {v : ℕ} → OnWay v → (u : ℕ) → T (ok v u) → Gives (ArcOf R) q u v
  gives_of {v} W u o =
      let p = and_both (taken s u) (any (arc_gives R s.best u v) R.m) o in
      let r = any_is (arc_gives R s.best u v) R.m p.1 in
      let g = at_gives R s.best u v r.0 r.2 in
      let m = Y.inv.known.settled u p.0 in
      let l₁ = at_len W in
      let h = m.1 in
      let e = g.2 in
      record {
        len = m.0;
        weight = R.weight r.0;
        short = m.2;
        arc = arc_of r.0 r.1 g.0 g.1 refl;
        whole = subst (λ (z : ℕ). Shortest (ArcOf R) q v z) (omega arith) W.short;
      }

  prev_low : {v : ℕ} → OnWay v → (u : ℕ) → First (ok v) (λ x. 0) R.n u → Lowest (ArcOf R) q u v
  prev_low {v} W u F = record {
    gives = gives_of W u F.holds;
    low = λ x g. F.lower x (Y.inv.nodes x (way_back_lem W g).got) (ok_of W x g) (omega arith);
  }

  -- a shortest walk that is not still has a last arc
  last : {v d : ℕ} → Walk (ArcOf R) q v d → Shortest (ArcOf R) q v d → (v ≡ q) ⊎ ((u : ℕ) × Gives (ArcOf R) q u v)
  last here sh = inl refl
  last (step {u = u} {v = v} {d = d} {w = w} p a) sh = inr (u, record { len = d; weight = w; short = shortest_front p (one a) refl sh; arc = a; whole = sh })

  prev_none : {v : ℕ} → OnWay v → ((u : ℕ) → u < R.n → T (ok v u) → ⊥) → v ≡ q
  prev_none {v} W F = go (last W.short.walk W.short)
    where
      go : (v ≡ q) ⊎ ((u : ℕ) × Gives (ArcOf R) q u v) → v ≡ q
      go (inl e) = e
      go (inr g) = absurd (F g.0 (Y.inv.nodes g.0 (way_back_lem W g.1).got) (ok_of W g.0 g.1))

  module _ (pos : (i : ℕ) → i < R.m → 1 ≤ R.weight i) where
    not_query : {u v : ℕ} → Gives (ArcOf R) q u v → v ≡ q → ⊥
    not_query {u} {v} g e =
        let l = g.whole.least 0 (rw e here) in
        let a = g.arc in
        let p = pos a.index a.below in
        let w = a.weighs in
        omega arith

    back_is : (f v : ℕ) → OnWay v → len_at s.best v < f → (acc : List ℕ) → (p : List ℕ) × RouteTo (ArcOf R) q v p × (back R s f (some v) acc ≡ p ++ acc)
    unfolding back prev way_back_lem
    back_is zero v W l acc = absurd (omega arith)
    back_is (suc f) v W l acc = go (prev R s v) (first_is (ok v) (λ x. 0) R.n) (λ u X k. back_is f u X k (v ∷ acc))
      where
        go : (o : Option ℕ) → IsFirst (ok v) (λ x. 0) R.n o
            → ((u : ℕ) → OnWay u → len_at s.best u < f → (p : List ℕ) × RouteTo (ArcOf R) q u p × (back R s f (some u) (v ∷ acc) ≡ p ++ v ∷ acc))
            → (p : List ℕ) × RouteTo (ArcOf R) q v p × (back R s f o (v ∷ acc) ≡ p ++ acc)
        go none F ih =
            let e = prev_none W F in
            (v ∷ [], rw e at_query, back_none R s f (v ∷ acc))
        go (some u) F ih =
            let low = prev_low W u F in
            let g = low.gives in
            let X = way_back_lem W g in
            let l₁ = at_len W in
            let l₂ : len_at s.best u ≡ g.len = at_len X in
            let e : W.len ≡ g.len + g.weight = shortest_unique W.short g.whole in
            let a = g.arc in
            let ps = pos a.index a.below in
            let aw = a.weighs in
            let r = ih u X (omega arith) in
            (r.0 ++ (v ∷ []), from (not_query g) low r.1, r.2 ∙ sym (append_assoc r.0 (v ∷ []) acc))

    -- the search's route to a taken site is 01's route
    pub route_is : RouteTo (ArcOf R) q t (route R s t)
    unfolding route
    route_is =
        let r = back_is (suc (len_at s.best t)) t way_end (omega arith) [] in
        rw (r.2 ∙ append-nil r.0) r.1

-- ---- a route passes no node twice, so that it fits into n entries

abbrev pub Nearer : Region → ℕ → ℕ → ℕ → Type 0
Nearer R q x y = (d e : ℕ) × Shortest (ArcOf R) q x d × Shortest (ArcOf R) q y e × (d < e)

pub nearer_irr : (R : Region) (q x : ℕ) → Nearer R q x x → ⊥
nearer_irr R q x a = let e = shortest_unique a.2 a.3 in let l = a.4 in omega arith

module _ {R : Region} {est : (ℕ → Bool) → ℕ → ℕ} {q : ℕ} (G : Setting R est q) where
  -- every node of the route, and how far it is
  route_lens : {v : ℕ} {p : List ℕ} → RouteTo (ArcOf R) q v p → (d : ℕ) → Shortest (ArcOf R) q v d → (x : ℕ) → T (memb x p) → (e : ℕ) × Shortest (ArcOf R) q x e × (e ≤ d) × (x < R.n)
  unfolding memb
  route_lens at_query d s x t = go (memb_cases q x [] t)
    where
      go : (q ≡ x) ⊎ T (memb x []) → (e : ℕ) × Shortest (ArcOf R) q x e × (e ≤ d) × (x < R.n)
      go (inl e) = (d, rw (← e) s, omega arith, omega arith)
      go (inr z) = absurd z
  route_lens (from {u = u} {v = v} {way = p} n l r) d s x t = go (memb_snoc p v x t) (λ z. route_lens r l.gives.len l.gives.short x z)
    where
      sum : l.gives.len + l.gives.weight ≡ d
      sum = shortest_unique l.gives.whole s

      head : v < R.n
      head = let a = l.gives.arc in let h = G.valid.heads a.index a.below in let e = arc_head a in omega arith

      go : T (memb x p) ⊎ (v ≡ x) → (T (memb x p) → (e : ℕ) × Shortest (ArcOf R) q x e × (e ≤ l.gives.len) × (x < R.n)) → (e : ℕ) × Shortest (ArcOf R) q x e × (e ≤ d) × (x < R.n)
      go (inl z) ih = let k = ih z in let y = k.2 in (k.0, k.1, omega (arith, sum), k.3)
      go (inr e) ih = (d, rw (← e) s, omega arith, omega (arith, head))

  route_asc : {v : ℕ} {p : List ℕ} → RouteTo (ArcOf R) q v p → Asc (Nearer R q) p
  unfolding memb
  route_asc at_query = (λ y t. absurd t, tt)
  route_asc (from {u = u} {v = v} {way = p} n l r) = asc_snoc (Nearer R q) p v (route_asc r) (λ y t. near y (route_lens r l.gives.len l.gives.short y t))
    where
      near : (y : ℕ) → (e : ℕ) × Shortest (ArcOf R) q y e × (e ≤ l.gives.len) × (y < R.n) → Nearer R q y v
      near y k =
          let g = l.gives in
          let a = g.arc in
          let w = G.positive a.index a.below in
          let z = a.weighs in
          let j = k.2 in
          (k.0, g.len + g.weight, k.1, g.whole, omega arith)

  pub route_fits : {v : ℕ} {p : List ℕ} → RouteTo (ArcOf R) q v p → (d : ℕ) → Shortest (ArcOf R) q v d → length p ≤ R.n
  route_fits {v} {p} r d s = asc_fits (Nearer R q) (nearer_irr R q) R.n p (route_asc r) (λ x t. (route_lens r d s x t).3)
