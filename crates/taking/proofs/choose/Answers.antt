use mathlib.Core.Path.{sym, ◌∙◌}
use Rattle.meaning.proofs.Scans.{First}
use Rattle.memory.specs.Memory.{key_at}
use Rattle.memory.specs.Tree.{open_at}
use Rattle.taking.proofs.Choosing.{top_is, open_not_taken, held, raised, fewer}
use Rattle.taking.proofs.Choosing.{chosen_none, chosen_node, chosen_exact}
use Rattle.taking.proofs.choose.Goals as goal
use Rattle.taking.proofs.choose.Goals.{In_ok-v, then-not-missed-via-then-not-missed}
use Rattle.taking.proofs.choose.Goals.{then-not-missed-via-else-not-missed+then-fresh}

-- the node at the top
top : (c : In_ok-v)
    → First (open_at c.args.r.now.n c.loop-v.work) (key_at c.args.r.now.n c.loop-v.work)
    c.args.r.now.n c.in_ok-v.v
top c =
    let topped = rw c.nodes-n.ensures.count at c.first_open.ensures in
    top_is c.args.r.now.n c.loop-v.work _
    (sym (c.in_ok-v.was) ∙ topped c.loop-v.work c.loop-v.invariant.guided.tree)

pub returns-in_err-v-clause-chosen : goal.returns-in_err-v-clause-chosen
returns-in_err-v-clause-chosen c =
    let inv = c.loop-v.invariant in
    let topped = rw c.nodes-n.ensures.count at c.first_open.ensures in
    let top = topped c.loop-v.work inv.guided.tree in
    λ state from rest j m told L. c.from_residual.ensures
    ∙ chosen_none _ c.nodes-n.ensures.sound.ground (inv.stays state from rest j m L)
    (sym (c.in_err-v.was) ∙ top)

pub fresh-requires-clause-v_in_bounds : goal.fresh-requires-clause-v_in_bounds
fresh-requires-clause-v_in_bounds c = (
  (held _ c.requires.aiming c.loop-v.invariant).holds.room,
  (top (goal.at.fresh-requires-clause-v_in_bounds c).In_ok-v).below,
)

pub fresh-requires-clause-untaken : goal.fresh-requires-clause-untaken
fresh-requires-clause-untaken c =
    open_not_taken c.args.r.now.n c.loop-v.work _
    (top (goal.at.fresh-requires-clause-untaken c).In_ok-v).holds

pub returns-then-not-missed-clause-chosen : goal.returns-then-not-missed-clause-chosen
returns-then-not-missed-clause-chosen c =
    let inv = c.loop-v.invariant in
    let first = top (goal.at.returns-then-not-missed-clause-chosen c).In_ok-v in
    λ state from rest j m told L. elim c.then-not-missed.branch [
      | then-not-missed-via-then-not-missed w ↦ chosen_exact _ c.nodes-n.ensures.sound.ground
          (inv.stays state from rest j m L) _ first (told w.if-not-missed.true)
      | then-not-missed-via-else-not-missed+then-fresh w ↦ chosen_node _
          c.nodes-n.ensures.sound.ground (inv.stays state from rest j m L) _ first j m
          (w.fresh.ensures.looked.kept w.if-fresh.true).1
    ]

pub loop-v-smaller : goal.loop-v-smaller
loop-v-smaller c =
    let k = c.fresh.ensures.looked.new c.if-fresh.false in
    fewer _ c.nodes-n.ensures.sound.ground (held _ c.requires.aiming c.loop-v.invariant) _
    (top (goal.at.loop-v-smaller c).In_ok-v) k.0 k.1

pub loop-v-preserved : goal.loop-v-preserved
loop-v-preserved c =
    let inv = c.loop-v.invariant in
    let k = (c.fresh.ensures.looked.new c.if-fresh.false).0 in
    record {
      size = c.fresh.auto.work ∙ inv.size;
      guided = c.fresh.ensures.guided_after;
      aims = c.fresh.ensures.aims_stay ∙ inv.aims;
      same = λ v l. c.fresh.ensures.same_taken v l ∙ inv.same v l;
      stays = λ state from rest j m L. raised _ c.nodes-n.ensures.sound.ground
          (inv.stays state from rest j m L) _ (top (goal.at.loop-v-preserved c).In_ok-v) k;
    }
