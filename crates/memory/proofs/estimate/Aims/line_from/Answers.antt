use mathlib.Core.Path.{◌≡◌, refl}
use native.Mathlib.Omega.{arith}
use Rattle.memory.specs.Aim.{least_to, line_to}
use Rattle.memory.proofs.Closest.{least_next, line_none, line_found}
use Rattle.memory.proofs.estimate.Aims.line_from.Goals as goal

pub loop-j-init : goal.loop-j-init
unfolding least_to
loop-j-init c = (refl, omega arith)

pub loop-j-preserved : goal.loop-j-preserved
loop-j-preserved c =
    let l = c.loop-j in
    let is = c.r.view_is in
    rw (← is)
    (least_next c.r.invariant.ground (rw (← is) at c.requires.aims) c.args.v l.j
    (rw (← is) at c.requires.v_in_bounds) c.loop-j-test.true (rw (← is) at l.invariant.0)
    (rw (← is) at l.invariant.1) c.closer-best.ensures)

pub returns-then-best-eq-BEYOND : goal.returns-then-best-eq-BEYOND
unfolding line_to
returns-then-best-eq-BEYOND c =
    let l = c.loop-j in
    let all : l.j ≡ c.args.r.now.s = rw (← c.r.view_is) (omega arith) in (
      rw all at (line_none l.best _ l.invariant.0 l.invariant.1 c.if-best-eq-BEYOND.true),
      omega arith,
    )

pub overflow_cast-result : goal.overflow_cast-result
overflow_cast-result c =
    let l = c.loop-j in
    omega (
      arith,
      (line_found _ l.invariant.0 l.invariant.1 c.if-best-eq-BEYOND.false c.root.ensures).1,
    )

pub returns : goal.returns
unfolding line_to
returns c =
    let l = c.loop-j in
    let all : l.j ≡ c.args.r.now.s = rw (← c.r.view_is) (omega arith) in
    rw all at (line_found _ l.invariant.0 l.invariant.1 c.if-best-eq-BEYOND.false c.root.ensures)
