-- Where test 10 passes, the straight line rounded down gives a consistent estimate.
use mathlib.Core.Path.{◌≡◌, refl, ◌∙◌}
use mathlib.Core.Bool.{Bool, true, false, not, cond}
use mathlib.Core.Option.{Option, none, some}
use Prim.Native.Nat.{ℕ, zero, suc, ◌+◌, ◌-◌, ◌*◌, ◌≤◌, ◌<◌}
use native.Mathlib.Omega.{arith}
use lib.Dec.{T, eqb, eqb→eq, ltb, ltb→lt, nltb→le}
use lib.IntN.{ℤ, pos, negsuc, nat_abs, sub_ℕ}
use Rattle.meaning.specs.Region.{Region, ArcOf, is_site}
use Rattle.meaning.specs.Scan.{first}
use Rattle.meaning.specs.Straight.{gap, root, root_to, squares, straight}
use Rattle.meaning.specs.Taking.{least_at, to_sites}
use Rattle.meaning.proofs.Arcs.{arc_tail, arc_head}
use Rattle.meaning.proofs.Relaxing.{Estimate}
use Rattle.meaning.proofs.Roots.{root_floor, floor_triangle}
use Rattle.meaning.proofs.Scans.{IsFirst, first_is, any_is}

-- how far two whole numbers, and two coordinates, are apart, by cases
abbrev far : ℕ → ℕ → ℕ
far a b = (a - b) + (b - a)

abbrev apart : ℤ → ℤ → ℕ
apart (pos a) (pos b) = far a b
apart (pos a) (negsuc b) = a + suc b
apart (negsuc a) (pos b) = suc a + b
apart (negsuc a) (negsuc b) = far a b

far_sub : (a b : ℕ) → nat_abs (sub_ℕ a b) ≡ far a b
far_sub a b = go (ltb a b) (λ t. ltb→lt a b t) (λ t. nltb→le a b t)
  where
    go : (c : Bool) → (T c → a < b) → (T (not c) → b ≤ a) → nat_abs (cond c (negsuc (b - suc a)) (pos (a - b))) ≡ far a b
    go true h k = let l = h tt in omega arith
    go false h k = let l = k tt in omega arith

gap_is : (x y : ℤ) → gap x y ≡ apart x y
unfolding gap
gap_is (pos a) (pos zero) = omega arith
gap_is (pos a) (pos (suc b)) = far_sub a (suc b)
gap_is (pos a) (negsuc b) = refl
gap_is (negsuc a) (pos zero) = far_sub 0 (suc a) ∙ omega arith
gap_is (negsuc a) (pos (suc b)) = omega arith
gap_is (negsuc a) (negsuc b) = far_sub (suc b) (suc a) ∙ omega arith

apart_triangle : (x y z : ℤ) → apart x z ≤ apart x y + apart y z
apart_triangle (pos a) (pos b) (pos c) = omega arith
apart_triangle (pos a) (pos b) (negsuc c) = omega arith
apart_triangle (pos a) (negsuc b) (pos c) = omega arith
apart_triangle (pos a) (negsuc b) (negsuc c) = omega arith
apart_triangle (negsuc a) (pos b) (pos c) = omega arith
apart_triangle (negsuc a) (pos b) (negsuc c) = omega arith
apart_triangle (negsuc a) (negsuc b) (pos c) = omega arith
apart_triangle (negsuc a) (negsuc b) (negsuc c) = omega arith

apart_self : (x : ℤ) → apart x x ≡ 0
apart_self (pos a) = omega arith
apart_self (negsuc a) = omega arith

pub gap_triangle : (x y z : ℤ) → gap x z ≤ gap x y + gap y z
gap_triangle x y z = rw (gap_is x z, gap_is x y, gap_is y z) (apart_triangle x y z)

pub gap_self : (x : ℤ) → gap x x ≡ 0
gap_self x = gap_is x x ∙ apart_self x

-- what a measure between nodes must give
pub record Measure (R : Region) (d : ℕ → ℕ → ℕ) : Type 0 where
  pub along : (u v w s : ℕ) → ArcOf R u v w → d u s ≤ w + d v s
  pub self : (s : ℕ) → d s s ≡ 0

-- test 10, for every arc
abbrev pub Long : Region → (ℕ → ℤ) → (ℕ → ℤ) → Type 0
Long R x y = (i : ℕ) → i < R.m → squares x y (R.tail i) (R.head i) ≤ R.weight i * R.weight i

module _ (R : Region) (x y : ℕ → ℤ) (long : Long R x y) where
  arc_long : (u v w : ℕ) → ArcOf R u v w → squares x y u v ≤ w * w
  arc_long u v w a = rw (← (arc_tail a), ← (arc_head a), ← a.weighs) (long a.index a.below)

  pub straight_measure : Measure R (straight x y)
  unfolding straight root root_to
  straight_measure = record {
    along = λ u v w s a. floor_triangle _ _ _ _ _ _ w _ _ (gap_triangle (x u) (x v) (x s)) (gap_triangle (y u) (y v) (y s)) (arc_long u v w a) (root_floor _) (root_floor _);
    self = λ s. rw (gap_self (x s), gap_self (y s));
  }

-- ---- the estimate: the least measure to a site of S

module _ (R : Region) (d : ℕ → ℕ → ℕ) (M : Measure R d) where
  sites_along : (S : ℕ → Bool) (u v w : ℕ) → ArcOf R u v w → to_sites R d S u ≤ w + to_sites R d S v
  unfolding to_sites least_at
  sites_along S u v w a = go (first (ok) (f u) R.s) (first_is ok (f u) R.s) (first ok (f v) R.s) (first_is ok (f v) R.s)
    where
      ok : ℕ → Bool
      ok j = S (R.site j)

      f : ℕ → ℕ → ℕ
      f x j = d x (R.site j)

      go : (p : Option ℕ) → IsFirst ok (f u) R.s p → (q : Option ℕ) → IsFirst ok (f v) R.s q → least_at (f u) p ≤ w + least_at (f v) q
      go none P q Q = omega arith
      go (some i) P none Q = absurd (Q i P.below P.holds)
      go (some i) P (some j) Q =
          let a1 = P.least j Q.below Q.holds in
          let a2 = M.along u v w (R.site j) a in
          omega arith

  sites_self : (S : ℕ → Bool) → ((s : ℕ) → T (S s) → T (is_site R s)) → (s : ℕ) → T (S s) → to_sites R d S s ≡ 0
  unfolding to_sites least_at is_site
  sites_self S sub s t = go (first (λ j. S (R.site j)) (λ j. d s (R.site j)) R.s) (first_is (λ j. S (R.site j)) (λ j. d s (R.site j)) R.s) (any_is (λ j. eqb (R.site j) s) R.s (sub s t))
    where
      go : (p : Option ℕ) → IsFirst (λ j. S (R.site j)) (λ j. d s (R.site j)) R.s p → (j : ℕ) × (j < R.s) × T (eqb (R.site j) s) → least_at (λ j. d s (R.site j)) p ≡ 0
      go none P r = refl
      go (some i) P r =
          let e = eqb→eq (R.site r.0) s r.2 in
          let l = P.least r.0 r.1 (rw e t) in
          let z : d s (R.site r.0) ≡ 0 = rw e (M.self s) in
          omega arith

  pub sites_estimate : Estimate R (to_sites R d)
  sites_estimate S sub = record { along = sites_along S; at_site = sites_self S sub }

-- fewer sites, a larger estimate
pub sites_mono : (R : Region) (d : ℕ → ℕ → ℕ) (S S' : ℕ → Bool) → ((s : ℕ) → T (S s) → T (is_site R s)) → ((s : ℕ) → T (S' s) → T (S s)) → (t : ℕ) → T (S' t) → (v : ℕ) → to_sites R d S v ≤ to_sites R d S' v
unfolding to_sites least_at is_site
sites_mono R d S S' sub less t h v = go (first all f R.s) (first_is all f R.s) (first some' f R.s) (first_is some' f R.s)
  where
    all : ℕ → Bool
    all j = S (R.site j)

    some' : ℕ → Bool
    some' j = S' (R.site j)

    f : ℕ → ℕ
    f j = d v (R.site j)

    go : (p : Option ℕ) → IsFirst all f R.s p → (q : Option ℕ) → IsFirst some' f R.s q → least_at f p ≤ least_at f q
    go none P q Q = omega arith
    go (some i) P none Q =
        let r = any_is (λ j. eqb (R.site j) t) R.s (sub t (less t h)) in
        absurd (Q r.0 r.1 (rw (eqb→eq (R.site r.0) t r.2) h))
    go (some i) P (some j) Q = P.least j Q.below (less (R.site j) Q.holds)

pub sites_under : (R : Region) (d : ℕ → ℕ → ℕ) (S : ℕ → Bool) → ((s : ℕ) → T (S s) → T (is_site R s)) → (t : ℕ) → T (S t) → (v : ℕ) → to_sites R d (is_site R) v ≤ to_sites R d S v
sites_under R d S sub t h v = sites_mono R d (is_site R) S (λ s z. z) sub t h v
