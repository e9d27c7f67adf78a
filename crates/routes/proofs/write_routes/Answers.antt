use native.Mathlib.Omega.{arith}
use Rattle.routes.proofs.Lines.{lined_small, lined_on, ends_written, routes_written}
use Rattle.routes.proofs.write_routes.Goals as goal

pub overflow_cast-ends : goal.overflow_cast-ends
overflow_cast-ends c =
    omega (
      arith,
      lined_small c.requires.leads c.loop-i.invariant c.loop-i-test.true
          c.write_route-end.result (rw c.from-number.ensures at c.write_route-end.ensures.value),
    )

pub loop-i-preserved : goal.loop-i-preserved
loop-i-preserved c =
    lined_on c.requires.leads c.loop-i.invariant c.loop-i-test.true c.write_route-end.result _
    (rw c.from-number.ensures at c.write_route-end.ensures.value)
    (rw c.from-number.ensures at c.write_route-end.ensures.routes_after)

pub returns-clause-ends_after : goal.returns-clause-ends_after
returns-clause-ends_after c =
    ends_written c.requires.leads c.loop-i.invariant c.loop-i-test.false
    c.requires.count_in_bounds.0

pub returns-clause-routes_after : goal.returns-clause-routes_after
returns-clause-routes_after c =
    routes_written c.requires.leads c.loop-i.invariant c.loop-i-test.false
    c.requires.count_in_bounds.1
