-- Newton's method for the root: the first guess is above the root, and the next guess from any is
-- no less than it.
use mathlib.Core.Path.{◌≡◌, sym, subst, ◌∙◌}
use Prim.Native.Nat.{ℕ, zero, suc, ◌+◌, ◌-◌, ◌*◌, ◌/◌, ◌%◌, ◌^◌, ◌≤◌, ◌<◌}
use native.Mathlib.Nat.{le_of_eq, lt_of_lt_of_le, le_trans, one-mul, div-lt_iff_lt-mul, le-div_iff_mul-le}
use native.Mathlib.Numerals.{add-one}
use native.Mathlib.Omega.{arith}
use lib.Count.{count_leading_zeros, leading_length}
use lib.Dec.{lit<}
use lib.Pow.{pow_mono, pow-add, shl_exact}
use Rattle.meaning.specs.Straight.{root}
use Rattle.meaning.proofs.Roots.{sq_le, cauchy, floor_unique, root_floor}

-- what is known of a guess: the root is no more
pub record Guess (x g : ℕ) : Type 0 where
  pub above : x < (g + 1) * (g + 1)
  pub small : g ≤ 4294967296

-- the first guess, as the code has it
abbrev pub begin : ℕ → ℕ
begin x = 1 * 2 ^ ((65 - count_leading_zeros 64 x) / 2) % 2 ^ 64

-- 2 ^ s, for s half of the number of bits, rounded up
from_bits : (x m s : ℕ) → x < 2 ^ m → m ≤ s + s → s ≤ 32 → Guess x (2 ^ s)
from_bits x m s h l b =
    let t : x < 2 ^ s * 2 ^ s = lt_of_lt_of_le h (le_trans (pow_mono l) (le_of_eq (pow-add 2 s s))) in
    record { above = omega arith; small = pow_mono b }

pub shift_small : (x : ℕ) → x < 2 ^ 64 → (65 - count_leading_zeros 64 x) / 2 ≤ 32
shift_small x h = let l = leading_length 64 x h in omega (arith, l.1)

pub begin_fits : (x : ℕ) → x < 2 ^ 64 → Guess x (begin x)
begin_fits x h =
    let l = leading_length 64 x h in
    let b = shift_small x h in
    let s : ℕ = (65 - count_leading_zeros 64 x) / 2 in
    let e : begin x ≡ 2 ^ s = shl_exact {a = 1} 1 s 64 (lit< tt) (omega arith) ∙ one-mul (2 ^ s) in
    subst (Guess x) (sym e) (from_bits x l.0 s l.2 (omega (arith, l.1)) b)

-- the mean of two numbers is no less than the root of their product
mean_above : (x g q m : ℕ) → x < suc q * g → g + q < m + m → x < m * m
mean_above x g q m h l =
    let t = cauchy g 1 (suc q) 1 in
    let s = sq_le (g + suc q) (m + m) (omega arith) in
    omega arith

pub positive : (x g : ℕ) → (x ≡ 0 → ⊥) → Guess x g → 1 ≤ g
positive x zero n h = absurd (n (let l = h.above in omega arith))
positive x (suc g) n h = omega arith

-- the next guess, where q is x / g and g was too large
module _ (x g q : ℕ) (n : x ≡ 0 → ⊥) (h : Guess x g) (e : q ≡ x / g) where
  pub next_fits : q < g → Guess x ((g + q) / 2)
  next_fits l = record {
    above = mean_above x g q ((g + q) / 2 + 1) ((div-lt_iff_lt-mul (positive x g n h)).0 (omega arith)) (omega arith);
    small = let b = h.small in omega arith;
  }

  -- and the last, which is not too large
  pub last_is : g ≤ q → g ≡ root x
  last_is l = floor_unique x g (root x) (record { low = (le-div_iff_mul-le (positive x g n h)).0 (omega arith); high = rw add-one at h.above }) (root_floor x)
