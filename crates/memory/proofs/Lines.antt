-- The estimate from the memory is the taking rule's: the least of the roots is the root of the
-- least.
use mathlib.Core.Path.{◌≡◌, refl}
use mathlib.Core.Bool.{Bool, true, false, not, cond}
use mathlib.Core.List.{List}
use mathlib.Core.Option.{Option, none, some}
use Prim.Native.Nat.{ℕ, zero, suc, ◌-◌, ◌≤◌, ◌<◌}
use native.Mathlib.Decide.{dec_lt}
use native.Mathlib.Omega.{arith}
use borrow.Author.Tests.{lt-ltb, le-ltb, ltb-true, ltb-false}
use lib.Dec.{eqb, eqb_refl, eqb-suc-zero, ltb}
use Rattle.meaning.specs.Region.{Tables, Region, region_of, is_site, x_at, y_at}
use Rattle.meaning.specs.Scan.{better, first}
use Rattle.meaning.specs.Straight.{root, root_to, squares, straight}
use Rattle.meaning.specs.Taking.{State, taken, aimed, least_at, to_sites}
use Rattle.meaning.specs.Search.{aim_of}
use Rattle.meaning.proofs.Bools.{T_true}
use Rattle.meaning.proofs.Roots.{root_floor, sq_lt_inv}
use Rattle.meaning.proofs.Scans.{any_of}
use Rattle.memory.specs.Memory.{Holds, is_taken}
use Rattle.memory.specs.Aim.{Ground, node_of, closer_of, least_to, line_to}
use Rattle.memory.proofs.Holds.{taken_is}

root_mono : (a b : ℕ) → a ≤ b → root a ≤ root b
root_mono a b l =
    let p = (root_floor a).low in
    let q = (root_floor b).high in
    let s = sq_lt_inv (root a) (suc (root b)) (omega arith) in
    omega arith

-- b is 0 where no site has been found, and else one more than a square whose root is the key of the
-- one found
abbrev Beside : (ℕ → ℕ) → Option ℕ → ℕ → Type 0
Beside f none b = b ≡ 0
Beside f (some i) b = (c : ℕ) × (b ≡ suc c) × (root c ≡ f i)

module _ (f : ℕ → ℕ) (j q : ℕ) (e : f j ≡ root q) where
  -- where the square q of j is less than c, its root may still be the same: then i stays, with the
  -- same root
  nearer : (i c : ℕ) → root c ≡ f i → Beside f (cond (ltb (f j) (f i)) (some j) (some i)) (cond (ltb (suc q) (suc c)) (suc q) (suc c))
  nearer i c r = go (dec_lt q c) (ltb (f j) (f i)) refl
    where
      go : Dec (q < c) → (b : Bool) → ltb (f j) (f i) ≡ b → Beside f (cond b (some j) (some i)) (cond (ltb (suc q) (suc c)) (suc q) (suc c))
      go (yes l) true h = (q, rw (lt-ltb (suc q) (suc c) (omega arith)), cc)
      go (yes l) false h =
          let m = root_mono q c (omega arith) in
          let k = ltb-false (f j) (f i) h in
          (q, rw (lt-ltb (suc q) (suc c) (omega arith)), omega arith)
      go (no l) true h = let m = root_mono c q (omega arith) in let k = ltb-true (f j) (f i) h in absurd (omega arith)
      go (no l) false h = (c, rw (le-ltb (suc q) (suc c) (omega arith)), r)

  beside_next : (gone : Bool) (o : Option ℕ) (b : ℕ) → Beside f o b → Beside f (cond (not gone) (better f j o) o) (closer_of gone q b)
  unfolding better closer_of
  beside_next true o b h = h
  beside_next false none b h = (q, rw h, cc)
  beside_next false (some i) b h = rw (h.1, eqb-suc-zero h.0) (nearer i h.0 h.2)

-- each of the sites is aimed at until it is taken
site_aimed : (R : Region) (s : State) (j : ℕ) → j < R.s → aimed R s (R.site j) ≡ not (taken s (R.site j))
unfolding aimed is_site
site_aimed R s j l = rw (T_true (is_site R (R.site j)) (any_of (λ i. eqb (R.site i) (R.site j)) R.s j l (eqb_refl (R.site j))))

module _ (t : Tables) {line : ℕ → ℕ} {s : State} {from rest w : List ℕ} (G : Ground t)
    (H : Holds t.n (is_site (region_of t)) line s from rest w) (v : ℕ) where
  abbrev line_of : ℕ → ℕ
  line_of j = straight (x_at t) (y_at t) v (node_of t j)

  abbrev closest : ℕ → Option ℕ
  closest j = first (λ i. aimed (region_of t) s (node_of t i)) line_of j

  abbrev least : ℕ → ℕ
  least j = least_to t w v j

  found : (j : ℕ) → j ≤ t.s → Beside line_of (closest j) (least j)
  unfolding first least_to straight
  found zero l = refl
  found (suc j) l =
      let a = G.low j (omega arith) in
      let b = G.high j (omega arith) in
      rw (site_aimed (region_of t) s j (omega arith), ← (taken_is H (node_of t j) (omega arith)))
      (beside_next line_of j (squares (x_at t) (y_at t) v (node_of t j)) refl (is_taken t.n w (node_of t j)) (closest j) (least j) (found j (omega arith)))

  pub line_is : line_to t w v ≡ aim_of t (aimed (region_of t) s) v
  unfolding line_to to_sites least_at root root_to
  line_is = go (closest t.s) (least t.s) (found t.s (omega arith))
    where
      go : (o : Option ℕ) (b : ℕ) → Beside line_of o b → root (b - 1) ≡ least_at line_of o
      go none b h = rw h
      go (some i) b h = let e : b - 1 ≡ h.0 = omega (arith, h.1) in rw e h.2
