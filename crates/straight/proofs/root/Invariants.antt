use mathlib.Core.Path.{◌≡◌}
use Prim.Native.Nat.{◌/◌}
use Rattle.straight.proofs.Newton.{Guess}
use Rattle.straight.proofs.root.Given as goal

abbrev pub invariant-loop-share : goal.invariant-loop-share
invariant-loop-share l = Guess l.x l.guess × (l.share ≡ l.x / l.guess)

abbrev pub decreases-loop-share : goal.decreases-loop-share
decreases-loop-share l = l.guess
