use Rattle.taking.proofs.Reaching.{shorten_open, shorten_not}
use Rattle.taking.proofs.shorten.Goals as goal

pub returns-then-is_open-clause-arrived : goal.returns-then-is_open-clause-arrived
returns-then-is_open-clause-arrived c =
    let n = c.nodes-n.ensures.count in
    rw n
    (shorten_open c.args.r.now.n c.args.u c.args.h c.args.len c.args.work.now
    c.requires.head_is_node c.requires.shorter
    (rw n at c.if-is_open.true))

pub returns-else-is_open-clause-arrived : goal.returns-else-is_open-clause-arrived
returns-else-is_open-clause-arrived c =
    let n = c.nodes-n.ensures.count in
    shorten_not c.args.r.now.n c.args.u c.args.h c.args.len c.args.work.now c.requires.head_is_node
    c.requires.shorter
    (rw n at c.if-is_open.false)
