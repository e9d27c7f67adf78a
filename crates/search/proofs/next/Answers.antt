use Rattle.search.proofs.Runs.{picked}
use Rattle.search.proofs.next.Goals as goal

pub returns-clause-picked : goal.returns-clause-picked
returns-clause-picked c =
    picked c.args.r.now _ _ _ _ c.choose.result c.if-k-sites.false
    (rw c.sites.ensures at c.if-all_listed.false) c.choose.ensures.stays c.choose.ensures.chosen
