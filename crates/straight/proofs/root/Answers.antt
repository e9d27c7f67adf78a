use mathlib.Core.Path.{refl, sym, ap}
use Rattle.meaning.specs.Straight.{root, root_to}
use Rattle.straight.proofs.Newton.{begin_fits, next_fits, last_is}
use Rattle.straight.proofs.root.Goals as goal

pub returns-then-x-eq0 : goal.returns-then-x-eq0
unfolding root root_to
returns-then-x-eq0 c = ap root (sym c.if-x-eq0.true)

pub loop-share-init : goal.loop-share-init
loop-share-init c = (begin_fits c.args.x c.ranges.x.fits, refl)

pub loop-share-preserved : goal.loop-share-preserved
loop-share-preserved c =
    let x = c.args.x in
    let l = c.loop-share in
    (next_fits x l.guess l.share c.if-x-eq0.false l.invariant.0 l.invariant.1 c.loop-share-test.true, refl)

pub returns : goal.returns
returns c =
    let x = c.args.x in
    let l = c.loop-share in
    last_is x l.guess l.share c.if-x-eq0.false l.invariant.0 l.invariant.1 c.loop-share-test.false
