-- Walks over any arc relation, the shortest length, and what a best-first search with a consistent estimate may conclude. No lists and no
-- tables: `Arc u v w` is any relation, `Has v d` "v is seen at length d", `tk v` "v is taken", `h` the estimate at the present site set.
use mathlib.Core.Path.{◌≡◌, refl, sym, ap, subst}
use mathlib.Core.Logic.{◌⊎◌, inl, inr}
use mathlib.Core.Bool.{Bool, true, false, not}
use Prim.Native.Nat.{ℕ, ◌+◌, ◌≤◌, ◌<◌}
use native.Mathlib.Nat.{le_antisymm, add_assoc, add-zero, zero-add}
use native.Mathlib.Decide.{dec_lt}
use native.Mathlib.Omega.{arith}
use lib.Dec.{T, T_not}
use Rattle.meaning.specs.Walk.{Walk, here, step, Shortest}
use Rattle.meaning.specs.Taking.{bit, key}
use Rattle.meaning.proofs.Bools.{T_true}

module _ {Arc : ℕ → ℕ → ℕ → Type 0} where
  pub walk_to : {q v d e : ℕ} → d ≡ e → Walk Arc q v d → Walk Arc q v e
  walk_to {q} {v} p w = subst (λ (k : ℕ). Walk Arc q v k) p w

  -- one walk after another
  pub join : {q u v d e : ℕ} → Walk Arc q u d → Walk Arc u v e → Walk Arc q v (d + e)
  join {d} a here = walk_to (sym (add-zero d)) a
  join {d} a (step {d = e} {w = w} b r) = walk_to (add_assoc d e w) (step (join a b) r)

  pub one : {u v w : ℕ} → Arc u v w → Walk Arc u v w
  one {w} r = walk_to (zero-add w) (step here r)

  -- where every arc is longer than nothing, a walk of length 0 stands still
  pub still : ((u v w : ℕ) → Arc u v w → 1 ≤ w) → {u v d : ℕ} → Walk Arc u v d → d ≡ 0 → u ≡ v
  still pos here e = refl
  still pos (step {u = u} {v = v} {d = d} {w = w} p a) e = let z = pos u v w a in absurd (omega arith)

  -- any walk up to a node of a shortest walk is as long as the shortest, or longer
  pub shortest_front : {q x v a w d : ℕ} → Walk Arc q x a → Walk Arc x v w → a + w ≡ d → Shortest Arc q v d → Shortest Arc q x a
  shortest_front {a} {w} {d} p r e s = record { walk = p; least = λ b o. let l = s.least (b + w) (join o r) in omega arith }

  pub shortest_unique : {q v d e : ℕ} → Shortest Arc q v d → Shortest Arc q v e → d ≡ e
  shortest_unique {d} {e} a b = le_antisymm (a.least e b.walk) (b.least d a.walk)

pub bit_le : (b : Bool) → bit b ≤ 1
bit_le true = omega arith
bit_le false = omega arith

-- What is asked of an estimate, at one set of sites `S`
pub record Consistent (Arc : ℕ → ℕ → ℕ → Type 0) (S : ℕ → Bool) (h : ℕ → ℕ) : Type 0 where
  pub along : (u v w : ℕ) → Arc u v w → h u ≤ w + h v
  pub at_site : (s : ℕ) → T (S s) → h s ≡ 0

-- What a state of the search knows, whatever the estimate was
pub record Known (Arc : ℕ → ℕ → ℕ → Type 0) (q : ℕ) (Has : ℕ → ℕ → Type 0) (tk : ℕ → Bool) : Type 0 where
  pub begun : Has q 0
  pub sound : (v d : ℕ) → Has v d → Walk Arc q v d
  pub settled : (v : ℕ) → T (tk v) → (d : ℕ) × Has v d × Shortest Arc q v d
  pub relaxed : (u v d w : ℕ) → T (tk u) → Has u d → Arc u v w → (e : ℕ) × Has v e × (e ≤ d + w)
  pub single : (v d e : ℕ) → Has v d → Has v e → d ≡ e

pub record Picked (Has : ℕ → ℕ → Type 0) (tk site : ℕ → Bool) (h : ℕ → ℕ) (v d : ℕ) : Type 0 where
  pub untaken : T (not (tk v))
  pub has : Has v d
  pub least : (u e : ℕ) → T (not (tk u)) → Has u e → key h site v d ≤ key h site u e
  pub lower : (u e : ℕ) → T (not (tk u)) → Has u e → key h site u e ≤ key h site v d → v ≤ u

-- The open node at which a walk to x of length e leaves the taken nodes: it is seen at f
pub record Exit (Has : ℕ → ℕ → Type 0) (tk : ℕ → Bool) (h : ℕ → ℕ) (wmin x e : ℕ) : Type 0 where
  pub node : ℕ
  pub len : ℕ
  pub untaken : T (not (tk node))
  pub has : Has node len
  pub total : len + h node ≤ e + h x
  pub strict : ((node ≡ x) × (len ≤ e)) ⊎ (len + wmin ≤ e)

module _ {Arc : ℕ → ℕ → ℕ → Type 0} {q : ℕ} {Has : ℕ → ℕ → Type 0} {tk : ℕ → Bool} (K : Known Arc q Has tk)
    {S : ℕ → Bool} {h : ℕ → ℕ} (C : Consistent Arc S h)
    (wmin : ℕ) (wpos : (u v w : ℕ) → Arc u v w → wmin ≤ w) where
  exit_at : (x e f : ℕ) → Has x f → f ≤ e → (b : Bool) → tk x ≡ b → T (tk x) ⊎ Exit Has tk h wmin x e
  exit_at x e f k l true p = inl (subst T (sym p) tt)
  exit_at x e f k l false p = inr (record { node = x; len = f; untaken = subst (λ c. T (not c)) (sym p) tt; has = k; total = omega arith; strict = inl (refl, l) })

  exit_on : {u x d w : ℕ} → Arc u x w → Exit Has tk h wmin u d → Exit Has tk h wmin x (d + w)
  exit_on {u} {x} {d} {w} r y =
      let a = C.along u x w r in
      let b = wpos u x w r in
      record { node = y.node; len = y.len; untaken = y.untaken; has = y.has; total = omega arith; strict = inr (go y.strict) }
    where
      go : ((y.node ≡ u) × (y.len ≤ d)) ⊎ (y.len + wmin ≤ d) → y.len + wmin ≤ d + w
      go (inl t) = let b = wpos u x w r in omega arith
      go (inr t) = omega arith

  -- (a), first half: every walk ends in a taken node or passes an open one that is no worse
  pub exit : {x e : ℕ} → Walk Arc q x e → T (tk x) ⊎ Exit Has tk h wmin x e
  exit here = exit_at q 0 0 K.begun (omega arith) (tk q) refl
  exit (step {u = u} {v = x} {d = d} {w = w} p r) = go (exit p)
    where
      go : T (tk u) ⊎ Exit Has tk h wmin u d → T (tk x) ⊎ Exit Has tk h wmin x (d + w)
      go (inl t) =
          let s = K.settled u t in
          let m = s.2.least d p in
          let e = K.relaxed u x s.0 w t s.1 r in
          exit_at x (d + w) e.0 e.1 (omega arith) (tk x) refl
      go (inr y) = inr (exit_on r y)

  -- (a), second half: the picked node's length is shortest
  pub picked_shortest : {site : ℕ → Bool} {v d : ℕ} → Picked Has tk site h v d → Shortest Arc q v d
  picked_shortest {site} {v} {d} P = record { walk = K.sound v d P.has; least = λ e p. go e (exit p) }
    where
      go : (e : ℕ) → T (tk v) ⊎ Exit Has tk h wmin v e → d ≤ e
      go e (inl t) = absurd (T_not (tk v) P.untaken t)
      go e (inr y) =
          let l = P.least y.node y.len y.untaken y.has in
          let g = y.total in
          let b = bit_le (site y.node) in
          omega arith

  -- the estimate along a whole walk
  pub along_walk : {x s r : ℕ} → Walk Arc x s r → h x ≤ r + h s
  along_walk here = omega arith
  along_walk (step {u = u} {v = v} {d = d} {w = w} p r) = let a = along_walk p in let b = C.along u v w r in omega arith

  module _ (site : ℕ → Bool) (aim : (s : ℕ) → T (site s) → T (not (tk s)) → T (S s)) where
    -- an open node whose key is no more than a picked site's, of total at most that site's length, is a site seen at that very length
    pub level : {v d : ℕ} → Picked Has tk site h v d → T (site v) → (y f : ℕ) → T (not (tk y)) → Has y f → f + h y ≤ d → (d ≤ f) × (v ≤ y)
    level {v} {d} P t y f o k g = go (site y) refl
      where
        hv : h v ≡ 0
        hv = C.at_site v (aim v t P.untaken)

        l : key h site v d ≤ key h site y f
        l = P.least y f o k

        bv : bit (site v) ≡ 1
        bv = ap bit (T_true (site v) t)

        go : (b : Bool) → site y ≡ b → (d ≤ f) × (v ≤ y)
        go true e =
            let hy = C.at_site y (aim y (subst T (sym e) tt) o) in
            let by = ap bit e in
            (omega (arith, hv, l, bv), P.lower y f o k (omega (arith, hv, l, bv)))
        go false e = let by = ap bit e in absurd (omega (arith, hv, l, bv))

    -- (b) sites are taken in the order of the list: any site not yet taken comes later
    pub picked_first : {v d : ℕ} → Picked Has tk site h v d → T (site v) → (s e : ℕ) → T (site s) → T (not (tk s)) → 0 < wmin → Walk Arc q s e
        → (d < e) ⊎ ((d ≡ e) × (v ≤ s))
    picked_first {v} {d} P t s e st o pos p = go (exit p)
      where
        hs : h s ≡ 0
        hs = C.at_site s (aim s st o)

        hv : h v ≡ 0
        hv = C.at_site v (aim v t P.untaken)

        bv : bit (site v) ≡ 1
        bv = ap bit (T_true (site v) t)

        at : (y : Exit Has tk h wmin s e) → d ≡ e → (d ≤ y.len) × (v ≤ y.node) → ((y.node ≡ s) × (y.len ≤ e)) ⊎ (y.len + wmin ≤ e) → v ≤ s
        at y c lv (inl z) = omega arith
        at y c lv (inr z) = absurd (omega arith)

        go : T (tk s) ⊎ Exit Has tk h wmin s e → (d < e) ⊎ ((d ≡ e) × (v ≤ s))
        go (inl z) = absurd (T_not (tk s) o z)
        go (inr y) =
            let l = P.least y.node y.len y.untaken y.has in
            let g = y.total in
            let b = bit_le (site y.node) in
            split (omega (arith, hs, hv, bv))
          where
            split : d ≤ e → (d < e) ⊎ ((d ≡ e) × (v ≤ s))
            split le = pick_lt (dec_lt d e)
              where
                pick_lt : Dec (d < e) → (d < e) ⊎ ((d ≡ e) × (v ≤ s))
                pick_lt (yes z) = inl z
                pick_lt (no z) =
                    let c : d ≡ e = omega arith in
                    let g = y.total in
                    inr (c, at y c (level P t y.node y.len y.untaken y.has (omega (arith, hs))) y.strict)

    -- (c) a node before the end of a shortest walk to a picked site has been taken
    pub before_taken : {v d : ℕ} → Picked Has tk site h v d → T (site v) → (x a r : ℕ) → Walk Arc q x a → Walk Arc x v r → 0 < r → a + r ≡ d → T (tk x)
    before_taken {v} {d} P t x a r p rest pos c = go (exit p)
      where
        hv : h v ≡ 0
        hv = C.at_site v (aim v t P.untaken)

        low : (f : ℕ) → d ≤ f → f ≤ a → ⊥
        low f z₁ z₂ = omega arith

        short : (y : Exit Has tk h wmin x a) → ((y.node ≡ x) × (y.len ≤ a)) ⊎ (y.len + wmin ≤ a) → y.len ≤ a
        short y (inl z) = z.1
        short y (inr z) = omega arith

        go : T (tk x) ⊎ Exit Has tk h wmin x a → T (tk x)
        go (inl z) = z
        go (inr y) =
            let g = y.total in
            let b = along_walk rest in
            absurd (low y.len (level P t y.node y.len y.untaken y.has (omega (arith, hv))).0 (short y y.strict))

    -- demand 3: what is picked lies within the length of any site that is left
    pub picked_under : {v d : ℕ} → Picked Has tk site h v d → (s e : ℕ) → T (site s) → T (not (tk s)) → Walk Arc q s e → d + h v ≤ e
    picked_under {v} {d} P s e st o p = go (exit p)
      where
        hs : h s ≡ 0
        hs = C.at_site s (aim s st o)

        go : T (tk s) ⊎ Exit Has tk h wmin s e → d + h v ≤ e
        go (inl z) = absurd (T_not (tk s) o z)
        go (inr y) =
            let l = P.least y.node y.len y.untaken y.has in
            let g = y.total in
            let b = bit_le (site y.node) in
            omega (arith, hs)
