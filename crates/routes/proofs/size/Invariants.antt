use Prim.Native.Nat.{ℕ}
use mathlib.Core.List.{List}
use Rattle.routes.proofs.Ways.{Walked}
use Rattle.routes.proofs.size.Given as goal

abbrev pub invariant-loop-count : goal.invariant-loop-count
invariant-loop-count l = (way : List ℕ) × Walked l.n l.work l.v l.here l.count way
