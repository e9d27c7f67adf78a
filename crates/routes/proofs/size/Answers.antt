use mathlib.Core.List.{[]}
use native.Mathlib.Omega.{arith}
use mathlib.Core.Path.{◌≡◌, sym, ◌∙◌}
use Rattle.memory.proofs.Places.{place_some, place_none}
use Rattle.routes.proofs.Ways.{walked_start, walked_more, walked_size, walked_on}
use Rattle.routes.proofs.size.Goals as goal

pub loop-count-init : goal.loop-count-init
loop-count-init c = ([], walked_start c.requires.linked c.requires.v_is_node)

pub returns-in_default : goal.returns-in_default
returns-in_default c =
    let none = place_none _ (sym c.before-in-loop-count.ensures ∙ c.in_default.is) in
    walked_size c.loop-count.invariant.1 (λ g. omega (arith, g.given))

pub loop-count-preserved : goal.loop-count-preserved
loop-count-preserved c =
    let before = place_some _ _ (sym c.before-in-loop-count.ensures ∙ c.in-Some.is) in
    let goes = walked_more c.loop-count.invariant.1 c.loop-count-test.true (omega arith) in
    (_, walked_on c.loop-count.invariant.1 c.requires.linked goes c.in-Some.u before)

pub returns : goal.returns
returns c =
    let all : c.loop-count.count ≡ c.args.n = omega (arith, c.requires.linked.one) in
    sym all ∙ walked_size c.loop-count.invariant.1
    (λ g. omega (arith, g.fuel, c.loop-count.invariant.1.sum))
