-- 01's walk: the length is the sum of the least weights among the parallel arcs used. Shortest lengths are the same as over all arcs.
use mathlib.Core.Path.{refl}
use mathlib.Core.Logic.{◌↔◌}
use mathlib.Core.Option.{Option, none, some}
use Prim.Native.Nat.{ℕ, ◌+◌, ◌≤◌}
use native.Mathlib.Omega.{arith}
use Rattle.meaning.specs.Region.{Region, joins, ArcOf, LeastArc}
use Rattle.meaning.specs.Scan.{first}
use Rattle.meaning.specs.Walk.{Walk, here, step, Shortest}
use Rattle.meaning.proofs.Exits.{walk_to}
use Rattle.meaning.proofs.Scans.{IsFirst, first_is}

module _ (R : Region) where
  least_arc : (u v w : ℕ) → ArcOf R u v w → (x : ℕ) × LeastArc R u v x × (x ≤ w)
  least_arc u v w a = go (first (joins R u v) R.weight R.m) (first_is (joins R u v) R.weight R.m)
    where
      go : (o : Option ℕ) → IsFirst (joins R u v) R.weight R.m o → (x : ℕ) × LeastArc R u v x × (x ≤ w)
      go none F = absurd (F a.index a.below a.ends)
      go (some i) F =
          let l = F.least a.index a.below a.ends in
          let e = a.weighs in (
            R.weight i,
            record {
              arc = record { index = i; below = F.below; ends = F.holds; weighs = refl };
              least = λ x b. let m = F.least b.index b.below b.ends in let c = b.weighs in omega arith;
            },
            omega arith,
          )

  pub any_walk : {q v d : ℕ} → Walk (LeastArc R) q v d → Walk (ArcOf R) q v d
  any_walk here = here
  any_walk (step p a) = step (any_walk p) a.arc

  pub least_walk : {q v d : ℕ} → Walk (ArcOf R) q v d → (e : ℕ) × Walk (LeastArc R) q v e × (e ≤ d)
  least_walk here = (0, here, omega arith)
  least_walk (step {u = u} {v = v} {d = d} {w = w} p a) =
      let r = least_walk p in
      let s = least_arc u v w a in
      let l = r.2 in
      let m = s.2 in
      (r.0 + s.0, step r.1 s.1, omega arith)

  pub shortest_same : (q v d : ℕ) → Shortest (ArcOf R) q v d ↔ Shortest (LeastArc R) q v d
  shortest_same q v d = (to, of)
    where
      to : Shortest (ArcOf R) q v d → Shortest (LeastArc R) q v d
      to s =
          let r = least_walk s.walk in
          let l = r.2 in
          let m = s.least r.0 (any_walk r.1) in
          record { walk = walk_to (omega arith) r.1; least = λ e p. s.least e (any_walk p) }

      of : Shortest (LeastArc R) q v d → Shortest (ArcOf R) q v d
      of s = record { walk = any_walk s.walk; least = λ e p. let r = least_walk p in let l = r.2 in let m = s.least r.0 r.1 in omega arith }
