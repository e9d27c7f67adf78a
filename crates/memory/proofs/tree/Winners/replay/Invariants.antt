use Rattle.memory.proofs.TreeReplay.{Going}
use Rattle.memory.proofs.tree.Winners.replay.Given as goal

abbrev pub invariant-loop-i : goal.invariant-loop-i
invariant-loop-i l = Going l.n l.work l.initial.ranks l.i l.ranks

abbrev pub decreases-loop-i : goal.decreases-loop-i
decreases-loop-i l = l.i
