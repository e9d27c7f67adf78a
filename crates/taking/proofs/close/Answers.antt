use Rattle.taking.proofs.Closing.{closed}
use Rattle.taking.proofs.close.Goals as goal

pub returns-clause-closed : goal.returns-clause-closed
returns-clause-closed c =
    rw c.nodes-n.ensures.count
    (closed c.args.r.now.n c.args.u c.args.work.now c.requires.u_in_bounds.1)
