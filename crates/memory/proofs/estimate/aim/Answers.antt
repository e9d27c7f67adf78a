use mathlib.Core.Path.{ap₂, ◌∙◌}
use borrow.Author.Tests.{ne_eqb}
use Rattle.memory.specs.Memory.{rival_of}
use Rattle.memory.proofs.Closest.{no_site}
use Rattle.memory.proofs.estimate.aim.Goals as goal
use Rattle.memory.proofs.estimate.aim.Goals.{then-line-eq0, else-line-eq0}

pub returns : goal.returns
returns c =
    let e = c.line_from-line.ensures.0 in
    c.rival.ensures
    ∙ ap₂ rival_of e
    (elim c.if-line-eq0.branch [
      | then-line-eq0 w ↦ w.site-is ∙ w.is_site-site.ensures
      | else-line-eq0 w ↦ w.site-is ∙ ne_eqb _ _ w.if-line-eq0.false
          ∙ no_site c.args.r.now c.args.work.now c.args.v c.requires.untaken
          (λ z. w.if-line-eq0.false (e ∙ z))
    ])
