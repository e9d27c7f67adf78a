use Rattle.meaning.proofs.Counting.{count}
use Rattle.taking.proofs.Choosing.{stale, Keeping}
use Rattle.taking.proofs.choose.Given as goal

-- The loop's invariant: the same state is held. Each turn one node fewer is held under an estimate
-- that isn't its present one.
abbrev pub invariant-loop-v : goal.invariant-loop-v
invariant-loop-v l = Keeping l.r l.initial.work l.work l.initial.guide l.guide

abbrev pub decreases-loop-v : goal.decreases-loop-v
decreases-loop-v l = count (stale l.r l.work) l.r.n
