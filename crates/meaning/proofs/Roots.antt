-- The whole root, rounded down: it is the largest, and the only one; and its triangle inequality.
use mathlib.Core.Path.{◌≡◌}
use mathlib.Core.Bool.{Bool, true, false, not, cond}
use Prim.Native.Nat.{ℕ, zero, suc, ◌+◌, ◌-◌, ◌*◌, ◌≤◌, ◌<◌}
use native.Mathlib.Nat.{mul-le-mul}
use native.Mathlib.Decide.{dec_lt, dec_le}
use native.Mathlib.Omega.{arith}
use lib.Dec.{T, leb, leb→le, nleb→lt}
use Rattle.meaning.specs.Straight.{root, root_to}

-- r is the largest whole number whose square is at most a
pub record Floor (a r : ℕ) : Type 0 where
  pub low : r * r ≤ a
  pub high : a < suc r * suc r

pub sq_le : (x y : ℕ) → x ≤ y → x * x ≤ y * y
sq_le x y l = mul-le-mul l l

pub sq_le_inv : (x y : ℕ) → x * x ≤ y * y → x ≤ y
sq_le_inv x y h = go (dec_lt y x)
  where
    go : Dec (y < x) → x ≤ y
    go (yes l) = let s = sq_le (suc y) x l in absurd (omega arith)
    go (no n) = omega arith

pub sq_lt_inv : (x y : ℕ) → x * x < y * y → x < y
sq_lt_inv x y h = go (dec_lt x y)
  where
    go : Dec (x < y) → x < y
    go (yes l) = l
    go (no n) = let s = sq_le y x (omega arith) in absurd (omega arith)

pub floor_unique : (a r s : ℕ) → Floor a r → Floor a s → r ≡ s
floor_unique a r s f g =
    let x = sq_lt_inv r (suc s) (let p = f.low in let q = g.high in omega arith) in
    let y = sq_lt_inv s (suc r) (let p = g.low in let q = f.high in omega arith) in
    omega arith

-- 2xy ≤ x² + y²
twice_step : (y z : ℕ) → 2 * ((y + z) * y) ≤ (y + z) * (y + z) + y * y
twice_step y z = omega arith

twice : (x y : ℕ) → 2 * (x * y) ≤ x * x + y * y
twice x y = go (dec_le y x)
  where
    go : Dec (y ≤ x) → 2 * (x * y) ≤ x * x + y * y
    go (yes l) = let e : y + (x - y) ≡ x = omega arith in rw e at (twice_step y (x - y))
    go (no n) = let e : x + (y - x) ≡ y = omega arith in let s = rw e at (twice_step x (y - x)) in omega arith

-- Cauchy and Schwarz
pub cauchy : (a b c d : ℕ) → (a * b + c * d) * (a * b + c * d) ≤ (a * a + c * c) * (b * b + d * d)
cauchy a b c d = let t = twice (a * d) (c * b) in omega arith

-- a, c: the first leg; b, d: the second; x, y: the whole way, no more than both
pub triangle : (a b c d x y w t : ℕ) → x ≤ a + b → y ≤ c + d → a * a + c * c ≤ w * w → b * b + d * d ≤ t * t
    → x * x + y * y ≤ w * w + 2 * (w * t) + (b * b + d * d)
triangle a b c d x y w t hx hy hw ht =
    let sx = sq_le x (a + b) hx in
    let sy = sq_le y (c + d) hy in
    let k = cauchy a b c d in
    let m = mul-le-mul hw ht in
    let p = sq_le_inv (a * b + c * d) (w * t) (omega arith) in
    omega arith

-- the whole way's root is at most the first leg's weight and the second leg's root
pub floor_triangle : (a b c d x y w t r : ℕ) → x ≤ a + b → y ≤ c + d → a * a + c * c ≤ w * w → Floor (b * b + d * d) t → Floor (x * x + y * y) r → r ≤ w + t
floor_triangle a b c d x y w t r hx hy hw ht hr =
    let g = ht.high in
    let l = hr.low in
    let k = triangle a b c d x y w (suc t) hx hy hw (omega arith) in
    let s = sq_lt_inv r (w + suc t) (omega arith) in
    omega arith

root_low : (a c : ℕ) → root_to a c * root_to a c ≤ a
unfolding root_to
root_low a zero = omega arith
root_low a (suc c) = go (leb (suc c * suc c) a) (λ t. leb→le _ _ t) (root_low a c)
  where
    go : (b : Bool) → (T b → suc c * suc c ≤ a) → root_to a c * root_to a c ≤ a → cond b (suc c) (root_to a c) * cond b (suc c) (root_to a c) ≤ a
    go true h ih = h tt
    go false h ih = ih

root_max : (a c x : ℕ) → x ≤ c → x * x ≤ a → x ≤ root_to a c
unfolding root_to
root_max a zero x l h = l
root_max a (suc c) x l h = go (leb (suc c * suc c) a) (λ t. nleb→lt _ _ t) (root_max a c x)
  where
    go : (b : Bool) → (T (not b) → a < suc c * suc c) → (x ≤ c → x * x ≤ a → x ≤ root_to a c) → x ≤ cond b (suc c) (root_to a c)
    go true n ih = l
    go false n ih = ih (let s = sq_lt_inv x (suc c) (let z = n tt in omega arith) in omega arith) h

below_sq : (x : ℕ) → x ≤ x * x
below_sq zero = omega arith
below_sq (suc x) = omega arith

pub root_floor : (a : ℕ) → Floor a (root a)
unfolding root
root_floor a = record { low = root_low a a; high = go (dec_lt a (suc (root_to a a) * suc (root_to a a))) }
  where
    go : Dec (a < suc (root_to a a) * suc (root_to a a)) → a < suc (root_to a a) * suc (root_to a a)
    go (yes l) = l
    go (no n) =
        let b = below_sq (suc (root_to a a)) in
        let m = root_max a a (suc (root_to a a)) (omega arith) (omega arith) in
        absurd (omega arith)
