use Rattle.meaning.specs.Region.{tables_of}
use Rattle.search.specs.Run.{Ran}
use Rattle.search.proofs.Checked.{sound}
use Rattle.search.proofs.Outcome.{passes, may_run, may_write, found}
use Rattle.search.proofs.search.Goals as goal
use Rattle.search.proofs.search.Goals.{After-run-tally}

pub invariant_of-link : goal.invariant_of-link
invariant_of-link c = sound (passes _ _ _ _ c.inspect.ensures c.in_ok-inspect.was)

pub run-tally-requires-clause-bare : goal.run-tally-requires-clause-bare
run-tally-requires-clause-bare c =
    c.new-guide.ensures _ c.link-network.result.sound.few_nodes

pub run-tally-requires-clause-room : goal.run-tally-requires-clause-room
run-tally-requires-clause-room c =
    rw c.link-network.ensures (may_run _ _ _ _ c.inspect.ensures c.in_ok-inspect.was)

-- the run is over the lent tables
ran : (c : After-run-tally)
    → Ran (tables_of c.args.t.now) c.args.query c.args.k c.args.t.now.n c.args.work.now
    c.args.listed.now c.args.lengths.now c.run-tally.new.work c.run-tally.new.listed
    c.run-tally.new.lengths c.run-tally.result.sites c.run-tally.result.taken
ran c = rw c.link-network.ensures at c.run-tally.ensures

pub write_routes-requires-clause-leads : goal.write_routes-requires-clause-leads
write_routes-requires-clause-leads c =
    (may_write _ _ _ _ c.inspect.ensures c.in_ok-inspect.was
    (ran (goal.at.write_routes-requires-clause-leads c).After-run-tally)).0

pub write_routes-requires-clause-count_in_bounds :
    goal.write_routes-requires-clause-count_in_bounds
write_routes-requires-clause-count_in_bounds c =
    (may_write _ _ _ _ c.inspect.ensures c.in_ok-inspect.was
    (ran (goal.at.write_routes-requires-clause-count_in_bounds c).After-run-tally)).1

pub returns : goal.returns
returns c =
    found _ _ _ _ c.inspect.ensures c.in_ok-inspect.was (ran (goal.at.returns c).After-run-tally)
    c.clear.ensures c.write_routes.ensures.ends_after c.write_routes.ensures.routes_after
