-- How large a straight line can be, and its square; and what the machine reads back of coordinates.
use mathlib.Core.List.{List}
use mathlib.Core.Path.{◌≡◌, refl, ap, ap₂, ◌∙◌}
use Prim.Native.Nat.{ℕ, zero, suc, ◌+◌, ◌*◌, ◌≤◌, ◌<◌}
use native.Mathlib.Nat.{lt_of_le_of_lt}
use native.Mathlib.Omega.{arith}
use lib.Dec.{lit<}
use lib.IntN.{ℤ, pos, negsuc, nat_abs, neg_ℤ, +ℤ_idl, +ℤ_idr}
use lib.Signed.{mag}
use mir.Syntax.{w32}
use mir.Val.{SFits, to_z, of_z}
use mir.Facts.{to_z-of_z}
use Rattle.meaning.specs.Straight.{gap, root, squares}
use Rattle.meaning.proofs.Estimates.{gap_triangle}
use Rattle.meaning.proofs.Roots.{root_floor, sq_le, sq_lt_inv}
use Rattle.straight.specs.Points.{Placed, entry, farthest}

pub root_small : (x : ℕ) → x ≤ farthest → root x ≤ 1000000000
root_small x l =
    let low = (root_floor x).low in
    let below : root x < 1000000000 = sq_lt_inv (root x) 1000000000 (omega arith) in
    omega arith

-- ---- how far two coordinates are apart, by how large they are

gap_to : (z : ℤ) → gap z (pos 0) ≡ nat_abs z
unfolding gap
gap_to z = ap nat_abs (+ℤ_idr z)

neg_abs : (z : ℤ) → nat_abs (neg_ℤ z) ≡ nat_abs z
neg_abs (pos zero) = refl
neg_abs (pos (suc n)) = refl
neg_abs (negsuc n) = refl

gap_from : (z : ℤ) → gap (pos 0) z ≡ nat_abs z
unfolding gap
gap_from z = ap nat_abs (+ℤ_idl (neg_ℤ z)) ∙ neg_abs z

module _ (a b : ℤ) (m : ℕ) where
  pub gap_small : nat_abs a + nat_abs b ≤ m → gap a b ≤ m
  gap_small l = let t = gap_triangle a (pos 0) b in let d = gap_to a in let e = gap_from b in omega arith

  pub square_small : nat_abs a + nat_abs b ≤ m → gap a b * gap a b ≤ m * m
  square_small l = sq_le (gap a b) m (gap_small l)

  pub square_large : nat_abs a + m ≤ nat_abs b → m * m ≤ gap a b * gap a b
  square_large l = sq_le m (gap a b) (let t = gap_triangle (pos 0) a b in let d = gap_from a in let e = gap_from b in omega arith)

pub squares_small : {xs ys : List ℤ} {a b : ℕ} → Placed xs ys a → Placed xs ys b → squares (entry xs) (entry ys) a b ≤ farthest
squares_small {xs} {ys} {a} {b} p q =
    let l = square_small (entry xs a) (entry xs b) 400000000 (omega (arith, p.x_near, q.x_near)) in
    let m = square_small (entry ys a) (entry ys b) 400000000 (omega (arith, p.y_near, q.y_near)) in
    omega arith

-- ---- a number of 32 bits that was passed on: what the machine reads back is the number itself

abbrev pub back : ℤ → ℤ
back z = to_z w32 (of_z w32 z)

mag_abs : (z : ℤ) → mag z ≤ nat_abs z
mag_abs (pos n) = omega arith
mag_abs (negsuc n) = omega arith

-- a coordinate in range, or where a place that doesn't count is put
near_fits : (z : ℤ) → nat_abs z ≤ 1000000000 → SFits w32 z
near_fits z l = record { sfits = lt_of_le_of_lt (mag_abs z) (lt_of_le_of_lt l (lit< tt)) }

pub back_near : (z : ℤ) → nat_abs z ≤ 1000000000 → back z ≡ z
back_near z l = to_z-of_z (near_fits z l)

abbrev pub Square : ℕ → ℤ → ℤ → Type 0
Square r a b = r ≡ gap a b * gap a b

pub square_back : {r : ℕ} {a b : ℤ} → SFits w32 a → SFits w32 b → Square r (back a) (back b) → Square r a b
square_back f g e = rw (to_z-of_z f, to_z-of_z g) at e

pub square_near : (a b : ℤ) {r : ℕ} → nat_abs a ≤ 1000000000 → nat_abs b ≤ 1000000000 → Square r (back a) (back b) → Square r a b
square_near a b l m = square_back (near_fits a l) (near_fits b m)

-- the two squares of two nodes, of which the coordinates were passed on
module _ {xs ys : List ℤ} {a b r s : ℕ} (p : Placed xs ys a) (q : Placed xs ys b)
    (d : Square r (back (entry xs a)) (back (entry xs b))) (e : Square s (back (entry ys a)) (back (entry ys b))) where
  pub sum_is : r + s ≡ squares (entry xs) (entry ys) a b
  sum_is =
      ap₂ ◌+◌ (square_near (entry xs a) (entry xs b) (omega (arith, p.x_near)) (omega (arith, q.x_near)) d)
      (square_near (entry ys a) (entry ys b) (omega (arith, p.y_near)) (omega (arith, q.y_near)) e)

  pub sum_small : r + s ≤ farthest
  sum_small = rw sum_is (squares_small p q)
