-- What the scans of 0 to n-1 find.
use mathlib.Core.Path.{◌≡◌, ap, subst}
use mathlib.Core.Logic.{◌⊎◌, inl, inr}
use mathlib.Core.Bool.{Bool, true, false, not, ◌||◌, cond}
use mathlib.Core.Option.{Option, none, some}
use Prim.Native.Nat.{ℕ, zero, suc, ◌≤◌, ◌<◌}
use native.Mathlib.Decide.{dec_lt}
use native.Mathlib.Omega.{arith}
use Rattle.meaning.specs.Scan.{any, better, first}
use Rattle.meaning.proofs.Bools.{T_false, or_left, or_right, or_cases}
use lib.Dec.{T, T_not, ltb, ltb→lt, nltb→le}

pub cond_false : {A : Type 0} (b : Bool) → T (not b) → (x y : A) → cond b x y ≡ y
cond_false b t x y = ap (λ c. cond c x y) (T_false b t)

pub record First (ok : ℕ → Bool) (f : ℕ → ℕ) (n v : ℕ) : Type 0 where
  pub below : v < n
  pub holds : T (ok v)
  pub least : (u : ℕ) → u < n → T (ok u) → f v ≤ f u
  pub lower : (u : ℕ) → u < n → T (ok u) → f u ≤ f v → v ≤ u

abbrev pub IsFirst : (ℕ → Bool) → (ℕ → ℕ) → ℕ → Option ℕ → Type 0
IsFirst ok f n none = (u : ℕ) → u < n → T (ok u) → ⊥
IsFirst ok f n (some v) = First ok f n v

module _ (ok : ℕ → Bool) (f : ℕ → ℕ) where
  up_to : (P : ℕ → Type 0) (i : ℕ) → ((u : ℕ) → u < i → P u) → P i → (u : ℕ) → u < suc i → P u
  up_to P i below at u l = go (dec_lt u i)
    where
      go : Dec (u < i) → P u
      go (yes z) = below u z
      go (no z) = subst P (omega arith) at

  skip : (i : ℕ) (r : Option ℕ) → (T (ok i) → ⊥) → IsFirst ok f i r → IsFirst ok f (suc i) r
  skip i none z h = up_to (λ u. T (ok u) → ⊥) i h z
  skip i (some v) z h = record {
    below = let b = h.below in omega arith;
    holds = h.holds;
    least = up_to (λ u. T (ok u) → f v ≤ f u) i h.least (λ t. absurd (z t));
    lower = up_to (λ u. T (ok u) → f u ≤ f v → v ≤ u) i h.lower (λ t. absurd (z t));
  }

  look : (i : ℕ) (r : Option ℕ) → T (ok i) → IsFirst ok f i r → IsFirst ok f (suc i) (better f i r)
  unfolding better
  look i none t h = record {
    below = omega arith;
    holds = t;
    least = up_to (λ u. T (ok u) → f i ≤ f u) i (λ u l s. absurd (h u l s)) (λ s. omega arith);
    lower = up_to (λ u. T (ok u) → f u ≤ f i → i ≤ u) i (λ u l s. absurd (h u l s)) (λ s e. omega arith);
  }
  look i (some j) t h = go (ltb (f i) (f j)) (λ s. ltb→lt (f i) (f j) s) (λ s. nltb→le (f i) (f j) s)
    where
      go : (b : Bool) → (T b → f i < f j) → (T (not b) → f j ≤ f i) → IsFirst ok f (suc i) (cond b (some i) (some j))
      go true yes' no' =
          let lt = yes' tt in
          record {
            below = omega arith;
            holds = t;
            least = up_to (λ u. T (ok u) → f i ≤ f u) i (λ u l s. let z = h.least u l s in omega arith) (λ s. omega arith);
            lower = up_to (λ u. T (ok u) → f u ≤ f i → i ≤ u) i (λ u l s e. let z = h.least u l s in absurd (omega arith)) (λ s e. omega arith);
          }
      go false yes' no' =
          let ge = no' tt in
          record {
            below = let b = h.below in omega arith;
            holds = h.holds;
            least = up_to (λ u. T (ok u) → f j ≤ f u) i h.least (λ s. ge);
            lower = up_to (λ u. T (ok u) → f u ≤ f j → j ≤ u) i h.lower (λ s e. let b = h.below in omega arith);
          }

  pub first_is : (n : ℕ) → IsFirst ok f n (first ok f n)
  unfolding first better
  first_is zero = λ u l t. absurd (omega arith)
  first_is (suc i) = go (first_is i) (ok i) (λ t. t) (λ t z. T_not (ok i) t z)
    where
      go : IsFirst ok f i (first ok f i) → (b : Bool) → (T b → T (ok i)) → (T (not b) → T (ok i) → ⊥) → IsFirst ok f (suc i) (cond b (better f i (first ok f i)) (first ok f i))
      go h true y z = look i (first ok f i) (y tt) h
      go h false y z = skip i (first ok f i) (z tt) h

pub any_of : (ok : ℕ → Bool) (n v : ℕ) → v < n → T (ok v) → T (any ok n)
unfolding any
any_of ok zero v l t = absurd (omega arith)
any_of ok (suc i) v l t = go (dec_lt v i) (any_of ok i v)
  where
    go : Dec (v < i) → (v < i → T (ok v) → T (any ok i)) → T (any ok i || ok i)
    go (yes z) ih = or_left (any ok i) (ok i) (ih z t)
    go (no z) ih = let e : v ≡ i = omega arith in or_right (any ok i) (ok i) (rw e at t)

pub any_is : (ok : ℕ → Bool) (n : ℕ) → T (any ok n) → (v : ℕ) × (v < n) × T (ok v)
unfolding any
any_is ok zero t = absurd t
any_is ok (suc i) t = go (or_cases (any ok i) (ok i) t) (any_is ok i)
  where
    go : T (any ok i) ⊎ T (ok i) → (T (any ok i) → (v : ℕ) × (v < i) × T (ok v)) → (v : ℕ) × (v < suc i) × T (ok v)
    go (inl z) ih = let r = ih z in let l = r.1 in (r.0, omega arith, r.2)
    go (inr z) ih = (i, omega arith, z)
