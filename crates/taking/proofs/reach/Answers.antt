use native.Mathlib.Omega.{arith}
use Rattle.memory.proofs.Columns.{aims_same}
use Rattle.taking.proofs.Reaching.{longer, arrived_live, opened, opened_taken}
use Rattle.taking.proofs.reach.Goals as goal

pub returns-then-old-eq0-clause-guided_after : goal.returns-then-old-eq0-clause-guided_after
returns-then-old-eq0-clause-guided_after c =
    let same = opened_taken c.args.r.now.n c.args.u c.args.h c.args.len c.aim-rival.result
    c.args.work.now c.requires.head_is_node (omega arith) c.if-old-eq0.true
    (omega (arith, c.aim-rival.ensures)) in
    record {
      aims = aims_same c.nodes-n.ensures.sound.ground c.requires.guided.aims
          (rw c.nodes-n.ensures.count same);
      tree = rw (← c.nodes-n.ensures.count) c.replay.ensures;
    }

pub returns-then-old-eq0-clause-reached : goal.returns-then-old-eq0-clause-reached
returns-then-old-eq0-clause-reached c =
    rw c.nodes-n.ensures.count
    (opened _ c.args.u c.args.h c.args.len c.args.work.now c.nodes-n.ensures.sound.ground
    c.requires.head_is_node c.if-old-eq0.true c.aim-rival.result c.aim-rival.ensures)

pub returns-then-old-len-clause-reached : goal.returns-then-old-len-clause-reached
returns-then-old-len-clause-reached c =
    arrived_live _ c.args.u c.args.h c.args.len c.args.work.now _
    (rw c.if-old-len.true at c.lower.ensures.arrived)

pub returns-then-len-old-clause-reached : goal.returns-then-len-old-clause-reached
returns-then-len-old-clause-reached c =
    arrived_live _ c.args.u c.args.h c.args.len c.args.work.now _ c.shorten.ensures.arrived

pub returns-else-len-old-clause-reached : goal.returns-else-len-old-clause-reached
returns-else-len-old-clause-reached c =
    arrived_live _ c.args.u c.args.h c.args.len c.args.work.now _
    (longer c.args.r.now.n c.args.u c.args.h c.args.len c.args.work.now c.requires.head_is_node
    c.if-old-eq0.false (omega arith))
