use Rattle.grammar.proofs.Lines.{arc_said}
use Rattle.grammar.proofs.plain.arc.Goals as goal

pub returns : goal.returns
returns c =
    arc_said c.in_ok-rest.ensures
    c.in_ok-tail.ensures.said c.in_ok-head.ensures.said c.in_ok-weight.ensures.said
