use Prim.Native.Nat.{◌+◌}
use native.Mathlib.Omega.{arith}
use lib.ListN.{set}
use Rattle.memory.specs.Aim.{SameTaken}
use Rattle.memory.proofs.Columns.{aims_same}
use Rattle.taking.proofs.Reaching.{rival_taken}
use Rattle.taking.proofs.fresh.Goals as goal
use Rattle.taking.proofs.fresh.Goals.{After-replay}

-- no node is taken
same : (c : After-replay)
    → SameTaken c.args.r.now.n c.args.work.now
    (set c.args.work.now (c.nodes-n.result + c.args.v) c.aim-rival.result)
same c =
    rw c.nodes-n.ensures.count
    (rival_taken c.args.r.now.n c.args.v c.aim-rival.result c.args.work.now
    c.requires.v_in_bounds.1 (omega arith) c.requires.untaken (omega (arith, c.aim-rival.ensures)))

pub returns-clause-guided_after : goal.returns-clause-guided_after
returns-clause-guided_after c = record {
  aims = aims_same c.nodes-n.ensures.sound.ground c.requires.guided.aims
      (same (goal.at.returns-clause-guided_after c).After-replay);
  tree = rw (← c.nodes-n.ensures.count) c.replay.ensures;
}
