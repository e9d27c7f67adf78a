-- The sites one by one: whether a node is one, and the closest that isn't taken.
use mathlib.Core.Bool.{Bool, true, false, cond}
use mathlib.Core.List.{List}
use mathlib.Core.Path.{◌≡◌, refl, sym, ap, ap₂, ◌∙◌}
use Prim.Native.Nat.{ℕ, zero, suc, ◌+◌, ◌-◌, ◌*◌, ◌≤◌, ◌<◌}
use native.Mathlib.Decide.{dec_lt, ℕ_discrete}
use native.Mathlib.Numerals.{add-one}
use native.Mathlib.Omega.{arith}
use borrow.Author.Tests.{eq-eqb, ne_eqb, lt-ltb, le-ltb}
use lib.Dec.{T, eqb, eqb→eq, eqb-suc-zero, ltb}
use lib.IntN.{ℤ, pos, nat_abs}
use lib.ListN.{get_or, take}
use Rattle.std.specs.List.{list_any}
use Rattle.std.proofs.lemmas.List.Folds.{list_any_more}
use Rattle.meaning.specs.Limits.{base}
use Rattle.meaning.specs.Region.{Tables, x_at, y_at}
use Rattle.meaning.specs.Scan.{any}
use Rattle.meaning.specs.Straight.{gap, root, root_to, squares}
use Rattle.meaning.proofs.Estimates.{gap_self}
use Rattle.meaning.proofs.Scans.{any_is}
use Rattle.straight.specs.Points.{farthest}
use Rattle.straight.proofs.Laws.{root_small, square_small, square_large, squares_small, back, back_near, Square, square_near}
use Rattle.memory.specs.Memory.{is_taken}
use Rattle.memory.specs.Aim.{Ground, SideBySide, Sized, node_of, site_in, closer_of, least_to, line_to, line_most, far_off, nearer}
use Rattle.memory.proofs.Columns.{site_below}

-- ---- a node's number among those of the sites

number_is : (x v : ℕ) → 1 ≤ x → eqb x (v + 1) ≡ eqb (x - 1) v
number_is x v l = go (ℕ_discrete x (v + 1))
  where
    go : Dec (x ≡ v + 1) → eqb x (v + 1) ≡ eqb (x - 1) v
    go (yes e) = eq-eqb _ _ e ∙ sym (eq-eqb (x - 1) v (omega arith))
    go (no z) = ne_eqb _ _ z ∙ sym (ne_eqb (x - 1) v (λ e. z (omega arith)))

module _ {t : Tables} (G : Ground t) (v : ℕ) where
  among_first : (s : ℕ) → s ≤ t.s → list_any (λ x. eqb x (v + 1)) (take s t.sites) ≡ any (λ j. eqb (node_of t j) v) s
  unfolding any
  among_first zero l = refl
  among_first (suc s) l =
      rw (← number_is (get_or t.sites s 0) v (G.low s (omega arith)), ← among_first s (omega arith), ← add-one s)
      (list_any_more (λ x. eqb x (v + 1)) t.sites s 0 (omega (arith, G.room)))

  pub site_among : list_any (λ x. eqb x (v + 1)) (take t.s t.sites) ≡ site_in t v
  site_among = among_first t.s (omega arith)

-- ---- the code's square, of two numbers of each column that were passed on

module _ {x y a b : ℤ} (S : Sized x y a b) {p q : ℕ} (e : Square p (back x) (back a)) (f : Square q (back y) (back b)) where
  sum_is : p + q ≡ gap x a * gap x a + gap y b * gap y b
  sum_is =
      ap₂ ◌+◌ (square_near x a (omega (arith, S.near_x)) (omega (arith, S.near_a)) e)
      (square_near y b (omega (arith, S.near_y)) (omega (arith, S.near_b)) f)

  pub sum_fits : p + q ≤ 2880000000000000000
  sum_fits =
      let i = sum_is in
      let l = square_small x a 1200000000 (omega (arith, S.near_x, S.near_a)) in
      let m = square_small y b 1200000000 (omega (arith, S.near_y, S.near_b)) in
      omega arith

-- ---- the least square of the code: above every square between nodes while no site has been found

abbrev pub square_of : ℕ → ℕ
square_of least = cond (eqb least 0) (suc farthest) (least - 1)

square_suc : (q : ℕ) → square_of (suc q) ≡ q
square_suc q = rw (eqb-suc-zero q) (omega arith)

square_below : (least : ℕ) → least ≤ suc farthest → square_of least ≤ suc farthest
square_below zero l = omega arith
square_below (suc b) l = rw (square_suc b) (omega arith)

closer_small : (gone : Bool) (q least : ℕ) → q ≤ farthest → least ≤ suc farthest → closer_of gone q least ≤ suc farthest
unfolding closer_of
closer_small true q least l m = m
closer_small false q least l m = go (eqb least 0) (ltb (suc q) least)
  where
    go : (a b : Bool) → cond a (suc q) (cond b (suc q) least) ≤ suc farthest
    go true b = omega arith
    go false true = omega arith
    go false false = m

-- a site far off changes nothing, and another the same as in the definition
closer_far : (q least : ℕ) → suc farthest ≤ q → least ≤ suc farthest → cond (ltb q (square_of least)) q (square_of least) ≡ square_of least
closer_far q least l m = let k = square_below least m in rw (le-ltb q (square_of least) (omega arith))

closer_is : (q least : ℕ) → q ≤ farthest → cond (ltb q (square_of least)) q (square_of least) ≡ square_of (closer_of false q least)
unfolding closer_of
closer_is q zero l = rw (lt-ltb q (suc farthest) (omega arith)) (sym (square_suc q))
closer_is q (suc b) l = rw (square_suc b, eqb-suc-zero b) (go (dec_lt q b))
  where
    go : Dec (q < b) → cond (ltb q b) q b ≡ square_of (cond (ltb (suc q) (suc b)) (suc q) (suc b))
    go (yes h) = rw (lt-ltb q b h, lt-ltb (suc q) (suc b) (omega arith)) (sym (square_suc q))
    go (no h) = rw (le-ltb q b (omega arith), le-ltb (suc q) (suc b) (omega arith)) (sym (square_suc b))

module _ {t : Tables} {w : List ℕ} {ax ay : List ℤ} (G : Ground t) (A : SideBySide t w ax ay) (v j : ℕ) (l : v < t.n) (k : j < t.s) where
  abbrev node : ℕ
  node = node_of t j

  pub site_sized : Sized (x_at t v) (y_at t v) (get_or ax j (pos 0)) (get_or ay j (pos 0))
  site_sized =
      let p = G.points v l in
      let q = G.points node (site_below G j k) in
      record {
        near_x = p.x_near;
        near_y = p.y_near;
        near_a = rw (A.across j k) (go (is_taken t.n w node) q.x_near);
        near_b = rw (A.upward j k) (omega (arith, q.y_near));
      }
    where
      go : (gone : Bool) → nat_abs (x_at t node) ≤ base.coordinate → nat_abs (cond gone far_off (x_at t node)) ≤ nat_abs far_off
      go true h = omega arith
      go false h = omega arith

  abbrev least : ℕ
  least = least_to t w v j

  abbrev square : ℕ
  square = squares (x_at t) (y_at t) v node

  next_is : least ≤ suc farthest → square ≤ farthest → (gone : Bool)
      → nearer (x_at t v) (y_at t v) (cond gone far_off (x_at t node)) (y_at t node) (square_of least) ≡ square_of (closer_of gone square least)
  unfolding closer_of
  next_is h m true =
      let f = square_large (x_at t v) far_off 800000000 (omega (arith, (G.points v l).x_near)) in
      closer_far (gap (x_at t v) far_off * gap (x_at t v) far_off + gap (y_at t v) (y_at t node) * gap (y_at t v) (y_at t node)) least (omega arith) h
  next_is h m false = closer_is square least m

  pub least_next : {best r : ℕ} → best ≡ square_of least → least ≤ suc farthest
      → r ≡ nearer (back (x_at t v)) (back (y_at t v)) (back (get_or ax j (pos 0))) (back (get_or ay j (pos 0))) best
      → (r ≡ square_of (least_to t w v (j + 1))) × (least_to t w v (j + 1) ≤ suc farthest)
  unfolding least_to
  least_next e h is =
      let S = site_sized in
      let m : square ≤ farthest = squares_small (G.points v l) (G.points node (site_below G j k)) in
      let x = back_near (x_at t v) (omega (arith, S.near_x)) in
      let y = back_near (y_at t v) (omega (arith, S.near_y)) in
      let a = back_near (get_or ax j (pos 0)) (omega (arith, S.near_a)) in
      let b = back_near (get_or ay j (pos 0)) (omega (arith, S.near_b)) in
      rw (is, e, x, y, a, b, add-one, A.across j k, A.upward j k) (next_is h m (is_taken t.n w node), closer_small (is_taken t.n w node) square least m h)

-- at the end: no site has been found, or the closest
pub line_none : (best least : ℕ) → best ≡ square_of least → least ≤ suc farthest → best ≡ suc farthest → 0 ≡ root (least - 1)
unfolding root root_to
line_none best zero e l f = refl
line_none best (suc b) e l f = let h = square_suc b in absurd (omega arith)

pub line_found : {best r : ℕ} (least : ℕ) → best ≡ square_of least → least ≤ suc farthest → (best ≡ suc farthest → ⊥) → r ≡ root best
    → (r ≡ root (least - 1)) × (r ≤ line_most)
line_found zero e l z f = absurd (z e)
line_found {best} {r} (suc b) e l z f =
    let h = square_suc b in
    let i : best ≡ suc b - 1 = omega arith in
    (f ∙ ap root i, rw f (root_small best (omega arith)))

-- ---- a site's own line

-- nothing is closer than no distance
closer_none : (gone : Bool) (square : ℕ) → closer_of gone square 1 ≡ 1
unfolding closer_of
closer_none true square = refl
closer_none false square = rw (le-ltb (suc square) 1 (omega arith))

closer_self : (best : ℕ) → closer_of false 0 best ≡ 1
unfolding closer_of
closer_self zero = refl
closer_self (suc zero) = refl
closer_self (suc (suc b)) = rw (ne_eqb (suc (suc b)) 0 (λ e. omega arith), lt-ltb 1 (suc (suc b)) (omega arith))

module _ (t : Tables) (w : List ℕ) (v : ℕ) (e : is_taken t.n w v ≡ false) where
  -- a site that isn't taken is at no distance from itself
  pub least_self : (j : ℕ) → node_of t j ≡ v → (s : ℕ) → j < s → least_to t w v s ≡ 1
  unfolding least_to
  least_self j i zero l = absurd (omega arith)
  least_self j i (suc s) l = go (dec_lt j s) (least_self j i s)
    where
      go : Dec (j < s) → (j < s → least_to t w v s ≡ 1) → least_to t w v (suc s) ≡ 1
      go (yes z) ih = rw (ih z) (closer_none (is_taken t.n w (node_of t s)) (squares (x_at t) (y_at t) v (node_of t s)))
      go (no z) ih =
          let h : s ≡ j = omega arith in
          rw (h, i, e, gap_self (x_at t v), gap_self (y_at t v)) (closer_self (least_to t w v j))

  -- so a node that isn't taken, with a line that isn't 0, is no site
  pub no_site : (line_to t w v ≡ 0 → ⊥) → false ≡ site_in t v
  unfolding line_to root root_to
  no_site z = go (site_in t v) (λ h. any_is (λ j. eqb (node_of t j) v) t.s h)
    where
      go : (b : Bool) → (T b → (j : ℕ) × (j < t.s) × T (eqb (node_of t j) v)) → false ≡ b
      go false f = refl
      go true f = let r = f tt in absurd (z (rw (least_self r.0 (eqb→eq _ _ r.2) t.s r.1)))
