use Prim.Native.Nat.{◌<◌}
use native.Mathlib.Omega.{arith}
use Rattle.taking.proofs.Following.{follow_none, follow_below, follow_one, follow_less, follow_all}
use Rattle.taking.proofs.relax.Goals as goal
use Rattle.taking.proofs.relax.Goals.{In-Some}

-- an arc is followed
below : (c : In-Some) → c.in-Some.i < c.args.network.now.region.m
below c = follow_below c.args.network.now.sound.arcs c.loop-arc.invariant c.in-Some.is

pub loop-arc-init : goal.loop-arc-init
loop-arc-init c = follow_none c.requires.guided c.first-arc.ensures

pub overflow_add-len : goal.overflow_add-len
overflow_add-len c =
    omega (
      arith,
      c.requires.bounded c.args.u c.requires.u_in_bounds.1,
      c.args.network.now.sound.arcs.light _ (below (goal.at.overflow_add-len c).In-Some),
    )

pub weight-requires : goal.weight-requires
weight-requires c = below (goal.at.weight-requires c).In-Some

pub head-requires : goal.head-requires
head-requires c = below (goal.at.head-requires c).In-Some

pub next-arc-requires : goal.next-arc-requires
next-arc-requires c = below (goal.at.next-arc-requires c).In-Some

pub loop-arc-smaller : goal.loop-arc-smaller
loop-arc-smaller c =
    follow_less c.args.network.now.sound.arcs c.loop-arc.invariant c.in-Some.is c.next-arc.result
    c.next-arc.ensures

pub loop-arc-preserved : goal.loop-arc-preserved
loop-arc-preserved c =
    follow_one c.args.network.now.sound.arcs c.loop-arc.invariant c.in-Some.is
    c.requires.u_in_bounds.1 c.head.result c.head.ensures.value c.next-arc.ensures
    c.reach.auto.work c.reach.ensures.guided_after c.reach.ensures.aims_stay (rw c.weight.ensures at c.reach.ensures.reached)

pub returns-clause-relaxed : goal.returns-clause-relaxed
returns-clause-relaxed c =
    follow_all c.args.network.now.sound.arcs c.loop-arc.invariant c.in_default.is
