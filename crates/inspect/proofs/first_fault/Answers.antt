use mathlib.Core.Path.{refl, ap, ◌∙◌}
use Rattle.std.proofs.Common.{Err}
use Rattle.meaning.specs.Checks.{first_fault}
use Rattle.inspect.proofs.Faults.{first_more, first_at}
use Rattle.inspect.proofs.first_fault.Goals as goal

pub loop-i-init : goal.loop-i-init
unfolding first_fault
loop-i-init g c = λ says h. refl

pub returns-in-Err : goal.returns-in-Err
returns-in-Err g c = λ says h.
    ap Err c.at.ensures
    ∙ first_at says c.loop-i.i c.args.n c.in-Err.fault c.loop-i-test.true (c.loop-i.invariant says h) (h _ c.loop-i-test.true _ c.in-Err.ensures)

pub loop-i-preserved : goal.loop-i-preserved
loop-i-preserved g c = λ says h.
    first_more says c.loop-i.i (c.loop-i.invariant says h) (h _ c.loop-i-test.true _ c.in_default.ensures)
