-- Scans of 0 to n-1 that compute: is there one, and which comes first.
use Rattle.std.specs.Prelude.{Bool, false, cond, ◌||◌, ℕ, zero, suc, ltb}
use Rattle.std.proofs.Math.Option.{Option, none, some}

-- whether `ok` holds of some i below n
unfoldable pub any : (ℕ → Bool) → ℕ → Bool
any ok zero = false
any ok (suc i) = any ok i || ok i

-- i instead of the one found so far, if its key is less
unfoldable pub better : (ℕ → ℕ) → ℕ → Option ℕ → Option ℕ
better key i none = some i
better key i (some j) = cond (ltb (key i) (key j)) (some i) (some j)

-- of those below n with `ok`, the lowest that has the least key
unfoldable pub first : (ℕ → Bool) → (ℕ → ℕ) → ℕ → Option ℕ
unfolding better
first ok key zero = none
first ok key (suc i) = cond (ok i) (better key i (first ok key i)) (first ok key i)
