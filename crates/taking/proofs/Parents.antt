-- The numbers that are kept as arcs are followed are those of the nodes before, as the lengths give
-- them.
use mathlib.Core.Path.{◌≡◌, refl, sym, ap, ◌∙◌}
use mathlib.Core.Logic.{◌⊎◌, inl, inr}
use mathlib.Core.Bool.{Bool, true, false, not, cond, ◌||◌, ◌&&◌}
use mathlib.Core.Option.{Option, none, some}
use mathlib.Core.List.{List}
use Prim.Native.Nat.{ℕ, zero, suc, ◌+◌, ◌-◌, ◌≤◌, ◌<◌}
use native.Mathlib.Decide.{dec_lt, ℕ_discrete}
use native.Mathlib.Omega.{arith}
use lib.Dec.{T, T_not, eqb, ltb, eqb→eq, ltb→lt, nltb→le}
use lib.ListN.{length, get_or, set, replicate, length-set, length-replicate, get_or-replicate, get_or-eq_default}
use lib.Seq.{get_or-set_same, get_or-set_other, set-get_or}
use Rattle.meaning.specs.Region.{Region}
use Rattle.meaning.specs.Scan.{any}
use Rattle.meaning.specs.Taking.{State, taken, memb, len_at, lower, looks, relax, relax_to, mark, take1, take_at, start, full, choose, next, after}
use Rattle.meaning.proofs.Arcs.{arc_of}
use Rattle.meaning.proofs.Bools.{T_true, T_false, dec_t, and_both, and_make}
use Rattle.meaning.proofs.Relaxing.{Valid, Setting, Within, relax_to_length, relax_to_keeps, relax_to_taken, relax_to_hits}
use Rattle.meaning.proofs.Routes.{eq→eqb}
use Rattle.meaning.proofs.Scans.{IsFirst, first_is, any_of, any_is}
use Rattle.meaning.proofs.States.{Inv, start_zero, taken_cons, taken_new, taken_old, inv_after}
use Rattle.meaning.proofs.Trace.{arc_gives, prev}
use Rattle.taking.specs.Parents.{parent_at, parent_by, parents_to, parents1, parents_next, parents_after, number_of}

-- ---- one arc

-- the number kept of a node: a is its length, as the lengths have it, and x the number kept so far
abbrev entry_of : Bool → ℕ → ℕ → ℕ → ℕ → ℕ
entry_of gone u reach a x = cond (eqb a reach) (cond (ltb (suc u) x) (suc u) x) (cond (not gone && (eqb a 0 || ltb reach a)) (suc u) x)

-- what an arc of u does to a length and to the number kept: a and x before, a' and x' after. It
-- does nothing, or it gives the same length, or it opens or shortens.
data Turn (hit free : Type 0) (u reach a a' x x' : ℕ) : Type 0 where
  same : a' ≡ a → x' ≡ x → (hit → reach ≡ a → ⊥) → Turn hit free u reach a a' x x'
  level : hit → a' ≡ a → reach ≡ a → x' ≡ cond (ltb (suc u) x) (suc u) x → Turn hit free u reach a a' x x'
  opened : hit → free → a' ≡ reach → (a ≡ 0) ⊎ (reach < a) → x' ≡ suc u → Turn hit free u reach a a' x x'

lower_same : (gone : Bool) (a reach : ℕ) → 0 < a → a ≤ reach → cond gone a (lower a reach) ≡ a
unfolding lower
lower_same true a reach p l = refl
lower_same false zero reach p l = absurd (omega arith)
lower_same false (suc a) reach p l = omega arith

lower_new : (a reach : ℕ) → (a ≡ 0) ⊎ (reach < a) → lower a reach ≡ reach
unfolding lower
lower_new zero reach o = refl
lower_new (suc a) reach (inl e) = absurd (omega arith)
lower_new (suc a) reach (inr l) = omega arith

turn_of : (hit : Type 0) → hit → (gone : Bool) (u reach a x : ℕ) → 0 < reach → Turn hit (T (not gone)) u reach a (cond gone a (lower a reach)) x (entry_of gone u reach a x)
turn_of hit got gone u reach a x p =
    go gone (eqb a reach) (eqb a 0) (ltb reach a) (eqb→eq a reach) (λ t e. T_not (eqb a reach) t (eq→eqb a reach (sym e)))
    (eqb→eq a 0) (λ t e. T_not (eqb a 0) t (eq→eqb a 0 e)) (ltb→lt reach a) (nltb→le reach a)
  where
    go : (gone c e l : Bool) → (T c → a ≡ reach) → (T (not c) → reach ≡ a → ⊥) → (T e → a ≡ 0) → (T (not e) → a ≡ 0 → ⊥) → (T l → reach < a) → (T (not l) → a ≤ reach)
        → Turn hit (T (not gone)) u reach a (cond gone a (lower a reach)) x (cond c (cond (ltb (suc u) x) (suc u) x) (cond (not gone && (e || l)) (suc u) x))
    go gone true e l c₁ c₀ e₁ e₀ l₁ l₀ = let z = c₁ tt in level got (lower_same gone a reach (omega arith) (omega arith)) (omega arith) refl
    go true false e l c₁ c₀ e₁ e₀ l₁ l₀ = same refl refl (λ h. c₀ tt)
    go false false true l c₁ c₀ e₁ e₀ l₁ l₀ = opened got tt (lower_new a reach (inl (e₁ tt))) (inl (e₁ tt)) refl
    go false false false true c₁ c₀ e₁ e₀ l₁ l₀ = opened got tt (lower_new a reach (inr (l₁ tt))) (inr (l₁ tt)) refl
    go false false false false c₁ c₀ e₁ e₀ l₁ l₀ = let z = e₀ tt in same (lower_same false a reach (omega arith) (l₀ tt)) refl (λ h. c₀ tt)

parent_at_set : (tk : ℕ → Bool) (u reach h : ℕ) (best from : List ℕ) → parent_at tk u reach h best from ≡ set from h (entry_of (tk h) u reach (get_or best h 0) (get_or from h 0))
unfolding parent_at
parent_at_set tk u reach h best from =
    go (eqb (get_or best h 0) reach) (ltb (suc u) (get_or from h 0)) (not (tk h) && (eqb (get_or best h 0) 0 || ltb reach (get_or best h 0)))
  where
    go : (c d e : Bool) → cond c (cond d (set from h (suc u)) from) (cond e (set from h (suc u)) from) ≡ set from h (cond c (cond d (suc u) (get_or from h 0)) (cond e (suc u) (get_or from h 0)))
    go true true e = refl
    go true false e = sym (set-get_or from h 0)
    go false d true = refl
    go false d false = sym (set-get_or from h 0)

-- arc i leads from u to v
abbrev Hits : Region → ℕ → ℕ → ℕ → Type 0
Hits R u i v = (R.tail i ≡ u) × (R.head i ≡ v)

-- what arc i does to node v, where u is taken at length d
abbrev Turned : Region → (ℕ → Bool) → ℕ → ℕ → ℕ → List ℕ → List ℕ → ℕ → Type 0
Turned R tk u d i best from v =
    Turn (Hits R u i v) (T (not (tk v))) u (suc (d + R.weight i)) (get_or best v 0) (get_or (relax R tk u d i best) v 0) (get_or from v 0) (get_or (parent_by R tk u d i best from) v 0)

module _ (R : Region) (tk : ℕ → Bool) (u d i : ℕ) (best from : List ℕ) where
  relax_set : T (eqb (R.tail i) u)
      → relax R tk u d i best ≡ set best (R.head i) (cond (tk (R.head i)) (get_or best (R.head i) 0) (lower (get_or best (R.head i) 0) (suc (d + R.weight i))))
  unfolding relax looks
  relax_set t = go (eqb (R.tail i) u) t (tk (R.head i))
    where
      go : (c : Bool) → T c → (g : Bool)
          → cond (c && not g) (set best (R.head i) (lower (get_or best (R.head i) 0) (suc (d + R.weight i)))) best
          ≡ set best (R.head i) (cond g (get_or best (R.head i) 0) (lower (get_or best (R.head i) 0) (suc (d + R.weight i))))
      go true t true = sym (set-get_or best (R.head i) 0)
      go true t false = refl
      go false t g = absurd t

  relax_off : T (not (eqb (R.tail i) u)) → relax R tk u d i best ≡ best
  unfolding relax looks
  relax_off t = rw (T_false (eqb (R.tail i) u) t)

  parent_by_set : T (eqb (R.tail i) u)
      → parent_by R tk u d i best from ≡ set from (R.head i) (entry_of (tk (R.head i)) u (suc (d + R.weight i)) (get_or best (R.head i) 0) (get_or from (R.head i) 0))
  unfolding parent_by
  parent_by_set t = rw (T_true (eqb (R.tail i) u) t) (parent_at_set tk u (suc (d + R.weight i)) (R.head i) best from)

  parent_by_off : T (not (eqb (R.tail i) u)) → parent_by R tk u d i best from ≡ from
  unfolding parent_by
  parent_by_off t = rw (T_false (eqb (R.tail i) u) t)

  parent_by_length : length (parent_by R tk u d i best from) ≡ length from
  parent_by_length = go (dec_t (eqb (R.tail i) u))
    where
      go : T (eqb (R.tail i) u) ⊎ T (not (eqb (R.tail i) u)) → length (parent_by R tk u d i best from) ≡ length from
      go (inl t) = rw (parent_by_set t) (length-set from _ _)
      go (inr t) = ap length (parent_by_off t)

  turn : R.head i < length best → R.head i < length from → (v : ℕ) → Turned R tk u d i best from v
  turn l₁ l₂ v = go (dec_t (eqb (R.tail i) u))
    where
      at : T (eqb (R.tail i) u) → Dec (v ≡ R.head i) → Turned R tk u d i best from v
      at t (yes e) =
          rw (relax_set t, parent_by_set t, e, get_or-set_same best (R.head i) _ 0 l₁, get_or-set_same from (R.head i) _ 0 l₂)
          (turn_of (Hits R u i (R.head i)) (eqb→eq _ _ t, refl) (tk (R.head i)) u (suc (d + R.weight i)) (get_or best (R.head i) 0) (get_or from (R.head i) 0) (omega arith))
      at t (no e) =
          same (rw (relax_set t) (get_or-set_other best (R.head i) v _ 0 e)) (rw (parent_by_set t) (get_or-set_other from (R.head i) v _ 0 e)) (λ h z. e (sym h.1))

      go : T (eqb (R.tail i) u) ⊎ T (not (eqb (R.tail i) u)) → Turned R tk u d i best from v
      go (inl t) = at t (ℕ_discrete v (R.head i))
      go (inr t) = same (rw (relax_off t)) (rw (parent_by_off t)) (λ h z. T_not (eqb (R.tail i) u) t (eq→eqb _ _ h.0))

-- ---- the arcs of one node

-- arc j leads from x to v, and x's length and its weight give v the length that is kept as `at`
record Gives (R : Region) (len : ℕ → ℕ) (at v x j : ℕ) : Type 0 where
  below : j < R.m
  tail : R.tail j ≡ x
  head : R.head j ≡ v
  sum : suc (len x + R.weight j) ≡ at

-- x has such an arc, and it has been followed
abbrev Gave : Region → (ℕ → ℕ → Type 0) → (ℕ → ℕ) → ℕ → ℕ → ℕ → Type 0
Gave R done len at v x = (j : ℕ) × done x j × Gives R len at v x j

-- x is the number of the lowest node with P, and 0 where there is none; a node that was reached by
-- an arc has one
record Told (P : ℕ → Type 0) (a x : ℕ) : Type 0 where
  is : (y : ℕ) → x ≡ suc y → P y
  low : (y : ℕ) → P y → Within x (suc y)
  led : 1 < a → 0 < x

told_as : (P Q : ℕ → Type 0) (a x : ℕ) → ((y : ℕ) → P y → Q y) → ((y : ℕ) → Q y → P y) → Told P a x → Told Q a x
told_as P Q a x to back t = record { is = λ y e. to y (t.is y e); low = λ y p. t.low y (back y p); led = t.led }

-- the arcs followed while u is taken: all those of the nodes taken before, and the first i of u
abbrev Done : (ℕ → Type 0) → ℕ → ℕ → ℕ → ℕ → Type 0
Done old u i x j = old x ⊎ ((x ≡ u) × (j < i))

-- y is u and its arc i gives the length, or an arc followed before does
abbrev Last : Region → (ℕ → Type 0) → (ℕ → ℕ) → ℕ → ℕ → ℕ → ℕ → ℕ → Type 0
Last R old len u i at v y = Gave R (Done old u i) len at v y ⊎ ((y ≡ u) × Hits R u i v × (suc (len u + R.weight i) ≡ at))

module _ (R : Region) (old : ℕ → Type 0) (len : ℕ → ℕ) (u i : ℕ) where
  more : {at v : ℕ} (y : ℕ) → Gave R (Done old u i) len at v y → Gave R (Done old u (suc i)) len at v y
  more y p = (p.0, go p.1, p.2)
    where
      go : Done old u i y p.0 → Done old u (suc i) y p.0
      go (inl o) = inl o
      go (inr z) = let l = z.1 in inr (z.0, omega arith)

  split : {at v : ℕ} (y : ℕ) → Gave R (Done old u (suc i)) len at v y → Last R old len u i at v y
  split {at} {v} y p = go p.1
    where
      last : y ≡ u → Dec (p.0 < i) → p.0 < suc i → Last R old len u i at v y
      last e (yes l) k = inl (p.0, inr (e, l), p.2)
      last e (no l) k =
          let c : p.0 ≡ i = omega arith in
          let g = p.2 in
          inr (e, ((rw (← c, ← e) g.tail), (rw (← c) g.head)), (rw (← c, ← e) g.sum))

      go : Done old u (suc i) y p.0 → Last R old len u i at v y
      go (inl o) = inl (p.0, inl o, p.2)
      go (inr z) = last z.0 (dec_lt p.0 i) z.1

  by_arc : (at v : ℕ) → i < R.m → Hits R u i v → suc (len u + R.weight i) ≡ at → Gave R (Done old u (suc i)) len at v u
  by_arc at v l h e = (i, inr (refl, omega arith), record { below = l; tail = h.0; head = h.1; sum = e })

  module _ (below : i < R.m) (heavy : 1 ≤ R.weight i) (v : ℕ) where
    told_same : (a x : ℕ) → (Hits R u i v → suc (len u + R.weight i) ≡ a → ⊥) → Told (Gave R (Done old u i) len a v) a x → Told (Gave R (Done old u (suc i)) len a v) a x
    told_same a x n t = told_as (Gave R (Done old u i) len a v) (Gave R (Done old u (suc i)) len a v) a x more (λ y p. go y (split y p)) t
      where
        go : (y : ℕ) → Last R old len u i a v y → Gave R (Done old u i) len a v y
        go y (inl p) = p
        go y (inr z) = absurd (n z.1 z.2)

    told_level : (a x : ℕ) → Hits R u i v → suc (len u + R.weight i) ≡ a → Told (Gave R (Done old u i) len a v) a x
        → Told (Gave R (Done old u (suc i)) len a v) a (cond (ltb (suc u) x) (suc u) x)
    told_level a x h e t = go (ltb (suc u) x) (ltb→lt (suc u) x) (nltb→le (suc u) x)
      where
        seen : 0 < x
        seen = t.led (omega arith)

        go : (c : Bool) → (T c → suc u < x) → (T (not c) → x ≤ suc u) → Told (Gave R (Done old u (suc i)) len a v) a (cond c (suc u) x)
        go true c₁ c₀ = record {
          is = λ y z. let c : y ≡ u = omega arith in rw c (by_arc a v below h e);
          low = λ y p. lowest y (split y p);
          led = λ z. omega arith;
        }
          where
            lowest : (y : ℕ) → Last R old len u i a v y → Within (suc u) (suc y)
            lowest y (inl p) = let l = t.low y p in let k = c₁ tt in record { seen = omega arith; most = omega arith }
            lowest y (inr z) = let l = z.0 in record { seen = omega arith; most = omega arith }
        go false c₁ c₀ = record {
          is = λ y z. more y (t.is y z);
          low = λ y p. lowest y (split y p);
          led = λ z. seen;
        }
          where
            lowest : (y : ℕ) → Last R old len u i a v y → Within x (suc y)
            lowest y (inl p) = t.low y p
            lowest y (inr z) = let l = z.0 in let k = c₀ tt in record { seen = seen; most = omega arith }

    -- where nothing before gave the node so short a length, u alone does
    told_opened : Hits R u i v → ((y : ℕ) → Gave R (Done old u i) len (suc (len u + R.weight i)) v y → ⊥)
        → Told (Gave R (Done old u (suc i)) len (suc (len u + R.weight i)) v) (suc (len u + R.weight i)) (suc u)
    told_opened h n = record {
      is = λ y z. let c : y ≡ u = omega arith in rw c (by_arc (suc (len u + R.weight i)) v below h refl);
      low = λ y p. go y (split y p);
      led = λ z. omega arith;
    }
      where
        go : (y : ℕ) → Last R old len u i (suc (len u + R.weight i)) v y → Within (suc u) (suc y)
        go y (inl p) = absurd (n y p)
        go y (inr z) = let l = z.0 in record { seen = omega arith; most = omega arith }

    told_turn : (free : Type 0) (a a' x x' : ℕ) → Turn (Hits R u i v) free u (suc (len u + R.weight i)) a a' x x'
        → (free → (at y : ℕ) → Gave R (Done old u i) len at v y → Within a at)
        → Told (Gave R (Done old u i) len a v) a x → Told (Gave R (Done old u (suc i)) len a' v) a' x'
    told_turn free a a' x x' (same e₁ e₂ n) w t = rw (e₁, e₂) (told_same a x n t)
    told_turn free a a' x x' (level h e₁ e e₂) w t = rw (e₁, e₂) (told_level a x h e t)
    told_turn free a a' x x' (opened h f e₁ o e₂) w t = rw (e₁, e₂) (told_opened h (λ y p. go o (w f (suc (len u + R.weight i)) y p)))
      where
        go : (a ≡ 0) ⊎ (suc (len u + R.weight i) < a) → Within a (suc (len u + R.weight i)) → ⊥
        go (inl z) k = let l = k.seen in omega arith
        go (inr z) k = let l = k.most in omega arith

-- tk tells the nodes taken before and u; every arc of those taken before has been followed
module _ (R : Region) (ok : Valid R) (pos : (i : ℕ) → i < R.m → 1 ≤ R.weight i) (tk : ℕ → Bool) (old : ℕ → Type 0) (len : ℕ → ℕ) (b₀ f₀ : List ℕ) (u : ℕ)
    (size : length b₀ ≡ R.n) (room : length f₀ ≡ R.n)
    (relaxed : (x j : ℕ) → old x → j < R.m → R.tail j ≡ x → Within (get_or b₀ (R.head j) 0) (suc (len x + R.weight j))) where
  reached : (i : ℕ) → i ≤ R.m → (v : ℕ) → T (not (tk v)) → (at y : ℕ) → Gave R (Done old u i) len at v y → Within (get_or (relax_to R tk b₀ u (len u) i) v 0) at
  reached i l v free at y p = rw (← p.2.sum, ← p.2.head) (go p.1)
    where
      go : Done old u i y p.0 → Within (get_or (relax_to R tk b₀ u (len u) i) (R.head p.0) 0) (suc (len y + R.weight p.0))
      go (inl o) = relax_to_keeps R ok tk b₀ u (len u) size i l (R.head p.0) _ (relaxed y p.0 o p.2.below p.2.tail)
      go (inr z) = rw z.0 (relax_to_hits R ok tk b₀ u (len u) size i l p.0 z.1 (p.2.tail ∙ z.0) (rw p.2.head free))

  parents_length : (i : ℕ) → length (parents_to R tk b₀ u (len u) f₀ i) ≡ R.n
  unfolding parents_to
  parents_length zero = room
  parents_length (suc i) = parent_by_length R tk u (len u) i (relax_to R tk b₀ u (len u) i) (parents_to R tk b₀ u (len u) f₀ i) ∙ parents_length i

  told_to : ((v : ℕ) → Told (Gave R (λ x j. old x) len (get_or b₀ v 0) v) (get_or b₀ v 0) (get_or f₀ v 0)) → (i : ℕ) → i ≤ R.m → (v : ℕ)
      → Told (Gave R (Done old u i) len (get_or (relax_to R tk b₀ u (len u) i) v 0) v) (get_or (relax_to R tk b₀ u (len u) i) v 0) (get_or (parents_to R tk b₀ u (len u) f₀ i) v 0)
  unfolding relax_to parents_to
  told_to t zero l v = told_as (Gave R (λ x j. old x) len (get_or b₀ v 0) v) (Gave R (Done old u zero) len (get_or b₀ v 0) v) (get_or b₀ v 0) (get_or f₀ v 0) (λ y p. (p.0, inl p.1, p.2)) (λ y p. go y p p.1) (t v)
    where
      go : (y : ℕ) (p : Gave R (Done old u zero) len (get_or b₀ v 0) v y) → Done old u zero y p.0 → Gave R (λ x j. old x) len (get_or b₀ v 0) v y
      go y p (inl o) = (p.0, o, p.2)
      go y p (inr z) = let k = z.1 in absurd (omega arith)
  told_to t (suc i) l v =
      let h = ok.heads i (omega arith) in
      told_turn R old len u i (omega arith) (pos i (omega arith)) v (T (not (tk v))) _ _ _ _
      (turn R tk u (len u) i (relax_to R tk b₀ u (len u) i) (parents_to R tk b₀ u (len u) f₀ i) (rw (relax_to_length R ok tk b₀ u (len u) size i (omega arith)) h) (rw (parents_length i) h) v)
      (reached i (omega arith) v) (told_to t i (omega arith) v)

-- ---- every state

-- y is taken, and gives v its length
abbrev Leads : Region → State → ℕ → ℕ → Type 0
Leads R s v y = Gave R (λ x j. T (taken s x)) (len_at s.best) (get_or s.best v 0) v y

-- the number kept of each node is that of the lowest such
record Kept (R : Region) (s : State) (from : List ℕ) : Type 0 where
  told : (v : ℕ) → Told (Leads R s v) (get_or s.best v 0) (get_or from v 0)
  room : length from ≡ R.n

pub blank : (n v : ℕ) → get_or (replicate {A = ℕ} n 0) v 0 ≡ 0
blank n v = go (dec_lt v n)
  where
    go : Dec (v < n) → get_or (replicate {A = ℕ} n 0) v 0 ≡ 0
    go (yes l) = get_or-replicate n v 0 0 l
    go (no l) = get_or-eq_default (replicate {A = ℕ} n 0) 0 (rw length-replicate (omega arith))

kept_start : (R : Region) (q : ℕ) → q < R.n → Kept R (start R q) (replicate R.n 0)
unfolding start taken memb
kept_start R q l = record {
  told = λ v. record {
    is = λ y e. let z = blank R.n v in absurd (omega arith);
    low = λ y p. absurd p.1;
    led = λ a. let z = start_zero R q l v (get_or (start R q).best v 0 - 1) (omega arith) in absurd (omega arith);
  };
  room = length-replicate R.n 0;
}

module _ (R : Region) (ok : Valid R) (pos : (i : ℕ) → i < R.m → 1 ≤ R.weight i) (q : ℕ) (s : State) (I : Inv R q s) (from : List ℕ) (K : Kept R s from) (u : ℕ) where
  followed : (x j : ℕ) → T (taken s x) → j < R.m → R.tail j ≡ x → Within (get_or s.best (R.head j) 0) (suc (len_at s.best x + R.weight j))
  followed x j t l e =
      let m = I.known.settled x t in
      let r = I.known.relaxed x (R.head j) m.0 (R.weight j) t m.1 (arc_of j l e refl refl) in
      let h = m.1 in
      let a = r.1 in
      let b = r.2 in
      record { seen = omega arith; most = omega arith }

  -- a taken node keeps its length
  settled : (x : ℕ) → T (taken (mark s u) x) → len_at (take1 R s u).best x ≡ len_at s.best x
  unfolding take1
  settled x t = ap (λ a. a - 1) (relax_to_taken R ok (taken (mark s u)) s.best u (len_at s.best u) I.size R.m (omega arith) x t)

  to : (at v y : ℕ) → Gave R (Done (λ x. T (taken s x)) u R.m) (len_at s.best) at v y → Gave R (λ x j. T (taken (mark s u) x)) (len_at (take1 R s u).best) at v y
  to at v y p =
      let t = go p.1 in
      let g = p.2 in
      (p.0, t, record { below = g.below; tail = g.tail; head = g.head; sum = rw (settled y t) g.sum })
    where
      go : Done (λ x. T (taken s x)) u R.m y p.0 → T (taken (mark s u) y)
      go (inl t) = taken_old s u y t
      go (inr e) = taken_new s u y (sym e.0)

  fro : (at v y : ℕ) → Gave R (λ x j. T (taken (mark s u) x)) (len_at (take1 R s u).best) at v y → Gave R (Done (λ x. T (taken s x)) u R.m) (len_at s.best) at v y
  fro at v y p =
      let g = p.2 in
      (p.0, go (taken_cons s u y p.1), record { below = g.below; tail = g.tail; head = g.head; sum = rw (settled y p.1) at g.sum })
    where
      go : (u ≡ y) ⊎ T (taken s y) → Done (λ x. T (taken s x)) u R.m y p.0
      go (inl e) = inr (sym e, p.2.below)
      go (inr t) = inl t

  kept_take : Kept R (take1 R s u) (parents1 R s u from)
  unfolding take1 parents1 taken
  kept_take = record {
    told = λ v.
        told_as (Gave R (Done (λ x. T (taken s x)) u R.m) (len_at s.best) (get_or (take1 R s u).best v 0) v)
        (Gave R (λ x j. T (taken (mark s u) x)) (len_at (take1 R s u).best) (get_or (take1 R s u).best v 0) v) (get_or (take1 R s u).best v 0) (get_or (parents1 R s u from) v 0)
        (to (get_or (take1 R s u).best v 0) v) (fro (get_or (take1 R s u).best v 0) v)
        (told_to R ok pos (taken (mark s u)) (λ x. T (taken s x)) (len_at s.best) s.best from u I.size K.room followed K.told R.m (omega arith) v);
    room = parents_length R ok pos (taken (mark s u)) (λ x. T (taken s x)) (len_at s.best) s.best from u I.size K.room followed R.m;
  }

-- ---- the node before, from the lengths

told_first : (P : ℕ → Type 0) (test : ℕ → Bool) (n a x : ℕ) → ((y : ℕ) → P y → (y < n) × T (test y)) → ((y : ℕ) → T (test y) → P y) → Told P a x
    → (o : Option ℕ) → IsFirst test (λ y. 0) n o → x ≡ number_of o
told_first P test n a zero to fro t none F = refl
told_first P test n a (suc x) to fro t none F = let p = to x (t.is x refl) in absurd (F x p.0 p.1)
told_first P test n a zero to fro t (some y) F = let w = t.low y (fro y F.holds) in absurd (omega arith)
told_first P test n a (suc x) to fro t (some y) F =
    let w = t.low y (fro y F.holds) in
    let p = to x (t.is x refl) in
    let l = F.lower x p.0 p.1 (omega arith) in
    omega arith

-- as a test
abbrev leads_to : Region → State → ℕ → ℕ → Bool
leads_to R s v y = taken s y && any (arc_gives R s.best y v) R.m

module _ (R : Region) (ok : Valid R) (s : State) (v : ℕ) where
  leads_test : (y : ℕ) → Leads R s v y → (y < R.n) × T (leads_to R s v y)
  unfolding arc_gives
  leads_test y p =
      let g = p.2 in
      let z = g.sum in
      let e : len_at s.best y + R.weight p.0 ≡ len_at s.best v = omega arith in
      let b = ok.tails p.0 g.below in
      let c = g.tail in (
        omega arith,
        and_make (taken s y) (any (arc_gives R s.best y v) R.m) p.1 (any_of (arc_gives R s.best y v) R.m p.0 g.below
            (and_make (eqb (R.tail p.0) y) (eqb (R.head p.0) v && eqb (len_at s.best y + R.weight p.0) (len_at s.best v)) (eq→eqb _ _ g.tail)
            (and_make (eqb (R.head p.0) v) (eqb (len_at s.best y + R.weight p.0) (len_at s.best v)) (eq→eqb _ _ g.head) (eq→eqb _ _ e)))),
      )

  test_leads : 0 < get_or s.best v 0 → (y : ℕ) → T (leads_to R s v y) → Leads R s v y
  unfolding arc_gives
  test_leads seen y t =
      let p = and_both (taken s y) (any (arc_gives R s.best y v) R.m) t in
      let r = any_is (arc_gives R s.best y v) R.m p.1 in
      let a = and_both (eqb (R.tail r.0) y) (eqb (R.head r.0) v && eqb (len_at s.best y + R.weight r.0) (len_at s.best v)) r.2 in
      let b = and_both (eqb (R.head r.0) v) (eqb (len_at s.best y + R.weight r.0) (len_at s.best v)) a.1 in
      let e = eqb→eq (len_at s.best y + R.weight r.0) (len_at s.best v) b.1 in
      (r.0, p.0, record { below = r.1; tail = eqb→eq _ _ a.0; head = eqb→eq _ _ b.0; sum = omega arith })

module _ {R : Region} {est : (ℕ → Bool) → ℕ → ℕ} {q : ℕ} (G : Setting R est q) (k : ℕ) where
  kept_next : (s : State) → Inv R q s → (from : List ℕ) → Kept R s from → (b : Bool) (o : Option ℕ) → Kept R (take_at R s b o) (parents_next R s from b o)
  unfolding take_at parents_next
  kept_next s I from K true o = K
  kept_next s I from K false none = K
  kept_next s I from K false (some u) = kept_take R G.valid G.positive q s I from K u

  kept_after : (i : ℕ) → Kept R (after R est k q i) (parents_after R est k q i)
  unfolding after next parents_after
  kept_after zero = kept_start R q G.below
  kept_after (suc i) = kept_next (after R est k q i) (inv_after G k i) (parents_after R est k q i) (kept_after i) (full R k (after R est k q i)) (choose R est (after R est k q i))

  pub parents_size : (i : ℕ) → length (parents_after R est k q i) ≡ R.n
  parents_size i = (kept_after i).room

  pub parents_below : (i v : ℕ) → get_or (parents_after R est k q i) v 0 ≤ R.n
  parents_below i v = go (get_or (parents_after R est k q i) v 0) ((kept_after i).told v).is
    where
      go : (x : ℕ) → ((y : ℕ) → x ≡ suc y → Leads R (after R est k q i) v y) → x ≤ R.n
      go zero is = omega arith
      go (suc y) is =
          let p = is y refl in
          let l = G.valid.tails p.0 p.2.below in
          let e = p.2.tail in
          omega arith

  pub parents_are : (i v : ℕ) → v < R.n → 0 < get_or (after R est k q i).best v 0 → get_or (parents_after R est k q i) v 0 ≡ number_of (prev R (after R est k q i) v)
  unfolding prev
  parents_are i v l seen =
      let s = after R est k q i in
      told_first (Leads R s v) (leads_to R s v) R.n (get_or s.best v 0) (get_or (parents_after R est k q i) v 0)
      (leads_test R G.valid s v) (test_leads R G.valid s v seen) ((kept_after i).told v) (prev R s v)
      (first_is (leads_to R s v) (λ u. 0) R.n)
