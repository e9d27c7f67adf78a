-- Stores one after another.
use mathlib.Core.List.{List, [], ◌∷◌, ◌++◌}
use mathlib.Core.Path.{◌≡◌, refl, ap, ◌∙◌}
use Prim.Native.Nat.{ℕ, suc, ◌+◌, ◌≤◌, ◌<◌}
use native.Mathlib.Nat.{add-zero, add-suc, suc-add, zero-add}
use native.Mathlib.Omega.{arith}
use lib.ListN.{length, set, drop}
use lib.Seq.{sets, sets-eq, set_comm}
use Rattle.meaning.specs.Search.{over}

set_sets : (l : List ℕ) (i j a : ℕ) (vs : List ℕ) → i < j → set (sets l j vs) i a ≡ sets (set l i a) j vs
set_sets l i j a [] h = refl
set_sets l i j a (v ∷ vs) h =
    set_sets (set l j v) i (suc j) a vs (omega arith)
    ∙ ap (λ (k : List ℕ). sets k (suc j) vs) (set_comm l j i v a (λ e. omega arith))

-- one in front of those made
pub sets_front : (l : List ℕ) (i a : ℕ) (vs : List ℕ) → set (sets l (suc i) vs) i a ≡ sets l i (a ∷ vs)
sets_front l i a vs = set_sets l i (suc i) a vs (omega arith)

-- some after those made
pub sets_append : (l : List ℕ) (i : ℕ) (xs ys : List ℕ) → sets l i (xs ++ ys) ≡ sets (sets l i xs) (i + length xs) ys
sets_append l i [] ys = rw add-zero
sets_append l i (x ∷ xs) ys = rw (add-suc, ← suc-add) (sets_append (set l i x) (suc i) xs ys)

-- from the first entry on
pub sets_over : (b vs : List ℕ) → length vs ≤ length b → sets b 0 vs ≡ over vs b
sets_over b vs h = sets-eq vs b 0 (omega arith) ∙ ap (λ (k : ℕ). vs ++ drop k b) (zero-add (length vs))
