-- The bit that a mark sets, and no other.
use Prim.Native.Nat.{ℕ, zero, suc, ◌+◌, ◌-◌, ◌*◌, ◌/◌, ◌%◌, ◌^◌, ◌≤◌, ◌<◌}
use mathlib.Core.Path.{◌≡◌, refl, ap, sym, ◌∙◌}
use mathlib.Core.List.{List}
use mathlib.Core.Bool.{Bool, true, false, ◌||◌}
use lib.ListN.{length, get_or, set, length-set}
use lib.Seq.{get_or-set_same, get_or-set_other}
use lib.Dec.{eqb, ltb}
use lib.Bits.{bit_or, or_shr, or_mod, or_zero_r, shifted_even}
use lib.Pow.{pow-lt, shl-shr, pow-add}
use native.Mathlib.Nat.{div-eq_of_lt, one-mul}
use native.Mathlib.Omega.{arith}
use borrow.Author.Tests.{eqb-true, eqb-false, ltb-true, ltb-false}
use Rattle.reading.specs.Marks.{is_marked, Added}

-- the one bit of 2 ^ b
over : (j d : ℕ) → 2 ^ (suc d + j) / 2 ^ j % 2 ≡ 0
over j d = rw (pow-add 2 (suc d) j, shl-shr (2 ^ suc d) j) (ap (λ (x : ℕ). x % 2) (sym (one-mul (2 ^ suc d))) ∙ shifted_even 1 d)

bit_other_by : (b j : ℕ) (t : Bool) → ltb j b ≡ t → (j ≡ b → ⊥) → 2 ^ b / 2 ^ j % 2 ≡ 0
bit_other_by b j true e h =
    let l : j < b = ltb-true j b e in
    let m : b ≡ suc (b - suc j) + j = omega arith in
    rw m (over j (b - suc j))
bit_other_by b j false e h =
    let l : b ≤ j = ltb-false j b e in
    let m : b < j = omega arith in
    rw (div-eq_of_lt (pow-lt m))

bit_other : (b j : ℕ) → (j ≡ b → ⊥) → 2 ^ b / 2 ^ j % 2 ≡ 0
bit_other b j h = bit_other_by b j (ltb j b) refl h

bit_same : (b : ℕ) → 2 ^ b / 2 ^ b % 2 ≡ 1
bit_same b = ap (λ (x : ℕ). x / 2 ^ b % 2) (sym (one-mul (2 ^ b))) ∙ ap (λ (x : ℕ). x % 2) (shl-shr 1 b)

or_one : (x : ℕ) → x < 2 → bit_or x 1 ≡ 1
or_one zero h = refl
or_one (suc zero) h = refl
or_one (suc (suc x)) h = absurd (omega arith)

or_bit : (w v j : ℕ) → bit_or w v / 2 ^ j % 2 ≡ bit_or (w / 2 ^ j % 2) (v / 2 ^ j % 2)
or_bit w v j = ap (λ (x : ℕ). x % 2) (or_shr w v j) ∙ or_mod (w / 2 ^ j) (v / 2 ^ j) 1

pub or_same : (w b : ℕ) → bit_or w (2 ^ b) / 2 ^ b % 2 ≡ 1
or_same w b = or_bit w (2 ^ b) b ∙ ap (bit_or (w / 2 ^ b % 2)) (bit_same b) ∙ or_one (w / 2 ^ b % 2) (omega arith)

pub or_other : (w b j : ℕ) → (j ≡ b → ⊥) → bit_or w (2 ^ b) / 2 ^ j % 2 ≡ w / 2 ^ j % 2
or_other w b j h = or_bit w (2 ^ b) j ∙ ap (bit_or (w / 2 ^ j % 2)) (bit_other b j h) ∙ or_zero_r (w / 2 ^ j % 2)

module _ (m : List ℕ) (k : ℕ) (h : k < 32 * length m) where
  abbrev put : List ℕ
  put = set m (k / 32) (bit_or (get_or m (k / 32) 0) (2 ^ (k % 32)))

  bits_same : is_marked put k ≡ true
  bits_same =
      rw (get_or-set_same m (k / 32) (bit_or (get_or m (k / 32) 0) (2 ^ (k % 32))) 0 (omega arith), or_same (get_or m (k / 32) 0) (k % 32))

  bits_near : (j : ℕ) → j / 32 ≡ k / 32 → (j ≡ k → ⊥) → is_marked put j ≡ is_marked m j
  bits_near j e n =
      rw (
        e,
        get_or-set_same m (k / 32) (bit_or (get_or m (k / 32) 0) (2 ^ (k % 32))) 0 (omega arith),
        or_other (get_or m (k / 32) 0) (k % 32) (j % 32) (λ q. n (omega arith)),
      )

  bits_far : (j : ℕ) → (j / 32 ≡ k / 32 → ⊥) → is_marked put j ≡ is_marked m j
  bits_far j n = rw (get_or-set_other m (k / 32) (j / 32) (bit_or (get_or m (k / 32) 0) (2 ^ (k % 32))) 0 n)

  bits_other : (j : ℕ) (t : Bool) → eqb (j / 32) (k / 32) ≡ t → (j ≡ k → ⊥) → is_marked put j ≡ is_marked m j
  bits_other j true e n = bits_near j (eqb-true _ _ e) n
  bits_other j false e n = bits_far j (eqb-false _ _ e)

  bits_all : (j : ℕ) (t : Bool) → eqb j k ≡ t → is_marked put j ≡ (t || is_marked m j)
  bits_all j true e = rw (eqb-true j k e) bits_same
  bits_all j false e = bits_other j (eqb (j / 32) (k / 32)) refl (eqb-false j k e)

  pub added : Added m k put
  added = record { bits = λ j. bits_all j (eqb j k) refl; size = length-set m (k / 32) _ }
