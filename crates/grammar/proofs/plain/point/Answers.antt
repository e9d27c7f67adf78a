use Rattle.std.proofs.Common.{rules, w32, to_z-of_z}
use mir.Val.{SFits}
use Rattle.grammar.proofs.Lines.{point_said}
use Rattle.grammar.proofs.plain.point.Goals as goal

pub returns : goal.returns
returns c =
    let x : SFits w32 c.in_ok-x.x = search rules in
    let y : SFits w32 c.in_ok-y.y = search rules in
    simp to_z-of_z
    (point_said c.in_ok-rest.ensures c.in_ok-node.ensures.said
    c.in_ok-x.ensures c.in_ok-y.ensures)
