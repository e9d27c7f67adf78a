use Rattle.grammar.proofs.Lines.{site_said}
use Rattle.grammar.proofs.plain.site.Goals as goal

pub returns : goal.returns
returns c = site_said c.in_ok-rest.ensures c.in_ok-node.ensures.said
