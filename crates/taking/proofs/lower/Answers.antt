use Rattle.taking.proofs.Reaching.{lower_here, lower_not}
use Rattle.taking.proofs.lower.Goals as goal

pub returns-then-lower-clause-arrived : goal.returns-then-lower-clause-arrived
returns-then-lower-clause-arrived c =
    let n = c.nodes-n.ensures.count in
    rw n (lower_here c.args.r.now.n c.args.u c.args.h c.args.work.now c.requires.head_is_node
    (rw n at c.if-lower.true))

pub returns-else-lower-clause-arrived : goal.returns-else-lower-clause-arrived
returns-else-lower-clause-arrived c =
    let n = c.nodes-n.ensures.count in
    lower_not c.args.r.now.n c.args.u c.args.h c.args.work.now c.requires.head_is_node
    (rw n at c.if-lower.false)
