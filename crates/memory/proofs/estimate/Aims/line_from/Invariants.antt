use mathlib.Core.Path.{◌≡◌}
use Prim.Native.Nat.{suc, ◌≤◌}
use Rattle.straight.specs.Points.{farthest}
use Rattle.memory.specs.Aim.{least_to}
use Rattle.memory.proofs.Closest.{square_of}
use Rattle.memory.proofs.estimate.Aims.line_from.Given as goal

abbrev pub invariant-loop-j : goal.invariant-loop-j
invariant-loop-j l =
    (l.best ≡ square_of (least_to l.r l.work l.v l.j))
    × (least_to l.r l.work l.v l.j ≤ suc farthest)
