use mathlib.Core.Path.{sym, ◌∙◌}
use Rattle.memory.proofs.Columns.{aims_shut, aims_kept}
use Rattle.taking.proofs.Following.{took}
use Rattle.taking.proofs.take.Goals as goal
use Rattle.taking.proofs.take.Goals.{then-site, else-site}

pub relax-requires-clause-guided : goal.relax-requires-clause-guided
relax-requires-clause-guided c =
    let ground = c.args.network.now.sound.ground in
    let aims = c.requires.guided.aims in
    let shut = c.close-site.ensures.shut in
    elim c.if-site.branch [
      | then-site w ↦ rw w.guide-is (record {
        aims = rw w.forget.ensures.upward (aims_shut ground aims shut w.forget.ensures.across);
        tree = c.close-site.ensures.tree_after;
      })
      | else-site w ↦ rw w.guide-is (record {
        aims = aims_kept ground aims c.args.u shut
            (sym c.requires.open_site.told ∙ sym c.close-site.ensures.value ∙ w.if-site.false);
        tree = c.close-site.ensures.tree_after;
      })
    ]

pub returns-clause-took : goal.returns-clause-took
returns-clause-took c =
    took c.args.network.now.region c.args.u c.args.work.now c.close-site.new.work c.relax.new.work
    c.close-site.ensures.closed c.relax.ensures.relaxed
