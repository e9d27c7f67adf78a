-- Counting the numbers below a bound that pass a test: n numbers below n are all of them.
use Prim.Native.Nat.{ℕ, zero, suc, ◌≤◌, ◌<◌}
use mathlib.Core.Path.{◌≡◌, refl}
use mathlib.Core.Bool.{Bool, true, false, cond}
use native.Mathlib.Decide.{dec_lt}
use native.Mathlib.Omega.{arith}

unfoldable pub count : (ℕ → Bool) → ℕ → ℕ
count ok zero = 0
count ok (suc i) = cond (ok i) (suc (count ok i)) (count ok i)

pub count_none : (ok : ℕ → Bool) (n : ℕ) → ((v : ℕ) → ok v ≡ false) → count ok n ≡ 0
unfolding count
count_none ok zero h = refl
count_none ok (suc i) h = rw (h i) (count_none ok i h)

pub count_le : (ok : ℕ → Bool) (n : ℕ) → count ok n ≤ n
unfolding count
count_le ok zero = omega arith
count_le ok (suc i) = at (ok i) (count_le ok i)
  where
    at : (b : Bool) → count ok i ≤ i → cond b (suc (count ok i)) (count ok i) ≤ suc i
    at true l = omega arith
    at false l = omega arith

count_same : (P Q : ℕ → Bool) (n : ℕ) → ((v : ℕ) → v < n → Q v ≡ P v) → count Q n ≡ count P n
unfolding count
count_same P Q zero h = refl
count_same P Q (suc i) h = rw (h i (omega arith), count_same P Q i (λ v l. h v (omega arith)))

-- a test that one number more passes counts one more
pub count_more : (P Q : ℕ → Bool) (u n : ℕ) → u < n → P u ≡ false → Q u ≡ true → ((v : ℕ) → (v ≡ u → ⊥) → Q v ≡ P v) → count Q n ≡ suc (count P n)
unfolding count
count_more P Q u zero l p q h = absurd (omega arith)
count_more P Q u (suc i) l p q h = at (dec_lt u i) (λ z. count_more P Q u i z p q h)
  where
    at : Dec (u < i) → (u < i → count Q i ≡ suc (count P i)) → cond (Q i) (suc (count Q i)) (count Q i) ≡ suc (cond (P i) (suc (count P i)) (count P i))
    at (yes z) ih = rw (h i (λ e. omega arith), ih z) (on (P i))
      where
        on : (b : Bool) → cond b (suc (suc (count P i))) (suc (count P i)) ≡ suc (cond b (suc (count P i)) (count P i))
        on true = refl
        on false = refl
    at (no z) ih =
        let c : u ≡ i = omega arith in
        let a : P i ≡ false = rw c at p in
        let b : Q i ≡ true = rw c at q in
        rw (a, b, count_same P Q i (λ v m. h v (λ e. omega arith)))

pub count_full : (ok : ℕ → Bool) (n : ℕ) → count ok n ≡ n → (v : ℕ) → v < n → ok v ≡ true
unfolding count
count_full ok zero e v l = absurd (omega arith)
count_full ok (suc i) e v l = at (ok i) refl (dec_lt v i) (count_full ok i)
  where
    at : (b : Bool) → ok i ≡ b → Dec (v < i) → (count ok i ≡ i → (v : ℕ) → v < i → ok v ≡ true) → ok v ≡ true
    at true t (yes z) ih = let s : suc (count ok i) ≡ suc i = rw t at e in ih (omega arith) v z
    at true t (no z) ih = let c : v ≡ i = omega arith in rw c t
    at false t z ih = let s : count ok i ≡ suc i = rw t at e in let m = count_le ok i in absurd (omega arith)
