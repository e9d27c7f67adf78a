use native.Mathlib.Omega.{arith}
use Rattle.taking.proofs.Chaining.{link_none, link_before, link_all}
use Rattle.taking.proofs.network.Network.link.Goals as goal

pub loop-i-init : goal.loop-i-init
loop-i-init c =
    link_none _ _ _ (omega (arith, c.region.invariant.few_nodes))
    (omega (arith, c.region.invariant.few_arcs)) (rw (← c.region.view_is) at c.requires)

pub loop-i-preserved : goal.loop-i-preserved
loop-i-preserved c =
    rw c.from-node.ensures
    (link_before c.loop-i.i c.loop-i-test.true c.loop-i.auto.i c.region.invariant.arcs
    c.loop-i.invariant)

pub invariant_of-result : goal.invariant_of-result
invariant_of-result c =
    rw (← c.region.view_is)
    record { sound = c.region.invariant; linked = link_all c.loop-i-test.false c.loop-i.invariant }
