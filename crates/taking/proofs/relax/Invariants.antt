use Rattle.taking.proofs.Following.{Following, left}
use Rattle.taking.proofs.relax.Given as goal

-- The loop's invariant: the arcs before some arc have been followed, or are other nodes', and `arc`
-- is the next from there on.
abbrev pub invariant-loop-arc : goal.invariant-loop-arc
invariant-loop-arc l = Following l.network.region l.u l.initial.work l.work l.initial.guide l.guide l.arc

abbrev pub decreases-loop-arc : goal.decreases-loop-arc
decreases-loop-arc l = left l.network.region.m l.arc
