use Prim.Native.Nat.{◌+◌, ◌<◌}
use native.Mathlib.Omega.{arith}
use lib.ListN.{length}
use Rattle.search.specs.Run.{Ran}
use Rattle.search.proofs.Checked.{query_low, query_below}
use Rattle.search.proofs.Runs.{begun, aiming, in_bounds, bounded, opened}
use Rattle.search.proofs.Runs.{stepped, few_taken, stopped}
use Rattle.search.proofs.run.Goals as goal
use Rattle.search.proofs.run.Goals.{After-list-sites}

pub overflow_sub-query : goal.overflow_sub-query
overflow_sub-query c = query_low c.requires.passed

pub start-requires-clause-q_in_bounds : goal.start-requires-clause-q_in_bounds
start-requires-clause-q_in_bounds c = (c.requires.room.0, query_below c.requires.passed)

pub loop-u-init : goal.loop-u-init
loop-u-init c = record { ran = begun c.start.ensures.live; guided = c.start.ensures.guided }

pub next-requires-clause-aiming : goal.next-requires-clause-aiming
next-requires-clause-aiming c =
    λ left. aiming c.requires.passed c.loop-u.invariant.ran left

pub take-site-requires-clause-u_in_bounds : goal.take-site-requires-clause-u_in_bounds
take-site-requires-clause-u_in_bounds c =
    in_bounds c.requires.passed c.loop-u.invariant.ran c.in-Some.ensures.picked

pub take-site-requires-clause-bounded : goal.take-site-requires-clause-bounded
take-site-requires-clause-bounded c =
    bounded c.requires.passed c.loop-u.invariant.ran c.in-Some.ensures.picked

pub take-site-requires-clause-open_site : goal.take-site-requires-clause-open_site
take-site-requires-clause-open_site c =
    opened c.requires.passed c.loop-u.invariant.ran c.in-Some.ensures.picked

pub list-sites-requires-clause-v_in_bounds : goal.list-sites-requires-clause-v_in_bounds
list-sites-requires-clause-v_in_bounds c =
    let here = in_bounds c.requires.passed c.loop-u.invariant.ran c.in-Some.ensures.picked in
    omega (arith, here.1)

step : (c : After-list-sites)
    → Ran c.args.network.now.region c.args.query c.args.k (c.loop-u.taken + 1) c.args.work.now
    c.args.listed.now c.args.lengths.now c.take-site.new.work c.list-sites.new.listed
    c.list-sites.new.lengths c.list-sites.result (c.loop-u.taken + 1)
step c =
    let picks = c.in-Some.ensures.picked in
    let wanted = picks.wanted in
    let listed : c.loop-u.sites < length c.args.listed.now = omega arith in
    let lengths : c.loop-u.sites < length c.args.lengths.now = omega arith in
    stepped c.requires.passed c.loop-u.invariant.ran picks listed lengths
    c.take-site.ensures.site_told c.take-site.ensures.took c.list-sites.ensures

pub overflow_add-taken : goal.overflow_add-taken
overflow_add-taken c =
    let few = few_taken c.requires.passed (step (goal.at.overflow_add-taken c).After-list-sites) in
    omega arith

pub loop-u-smaller : goal.loop-u-smaller
loop-u-smaller c =
    let few = few_taken c.requires.passed (step (goal.at.loop-u-smaller c).After-list-sites) in
    omega arith

pub loop-u-preserved : goal.loop-u-preserved
loop-u-preserved c = record {
  ran = step (goal.at.loop-u-preserved c).After-list-sites;
  guided = c.take-site.ensures.guided_after;
}

pub returns : goal.returns
returns c =
    stopped c.requires.passed c.loop-u.invariant.ran c.in_default.ensures.picked
    c.args.network.now.region.n (few_taken c.requires.passed c.loop-u.invariant.ran)
