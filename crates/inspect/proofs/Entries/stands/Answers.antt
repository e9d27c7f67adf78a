use mathlib.Core.Path.{◌≡◌, refl, sym, ap, ◌∙◌}
use native.Mathlib.Omega.{arith}
use Rattle.std.proofs.Common.{Err}
use Rattle.meaning.specs.Checks.{first_fault}
use Rattle.inspect.proofs.Faults.{first_more, first_at}
use Rattle.inspect.proofs.Sites.{among_none, among_more, among_hit, site_outside, site_twice, site_fine}
use Rattle.inspect.proofs.Entries.stands.Goals as goal

pub entries-init : goal.entries-init
unfolding first_fault
entries-init c = (omega arith, refl)

pub loop-i-init : goal.loop-i-init
loop-i-init c = among_none _ _

pub loop-i-preserved : goal.loop-i-preserved
loop-i-preserved c = among_more _ _ c.loop-i.i c.loop-i.invariant c.if-again.false

pub entries-preserved : goal.entries-preserved
entries-preserved c =
    let all : c.loop-i.i ≡ c.entries.j = omega arith in (
      omega arith,
      first_more _ _ c.entries.invariant.1
          (site_fine _ _ (sym (rw c.from.ensures at c.within.ensures) ∙ c.if-not-within.false) (rw all at c.loop-i.invariant)),
    )

pub returns-then-not-within : goal.returns-then-not-within
returns-then-not-within c =
    ap Err c.at.ensures
    ∙ first_at _ _ _ _ c.if-t-j.false c.entries.invariant.1
    (site_outside _ _ (sym (rw c.from.ensures at c.within.ensures) ∙ c.if-not-within.true))

pub returns-then-again : goal.returns-then-again
returns-then-again c =
    ap Err c.at-then-again.ensures
    ∙ first_at _ _ _ _ c.if-t-j.false c.entries.invariant.1
    (site_twice _ _ (sym (rw c.from.ensures at c.within.ensures) ∙ c.if-not-within.false)
    (among_hit _ _ c.loop-i.i _ c.loop-i-test.true c.if-again.true))
