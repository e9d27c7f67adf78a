use mathlib.Core.Path.{◌∙◌}
use Rattle.memory.proofs.Closest.{site_among}
use Rattle.memory.proofs.estimate.is_site.Goals as goal

pub returns : goal.returns
returns c = rw (← c.r.view_is) (c.contains.ensures.value ∙ site_among c.r.invariant.ground c.args.v)
