use Rattle.meaning.proofs.Boundary.{sites_fits}
use Rattle.panel.proofs.wick_read_sites.Goals as goal

pub read_code-requires : goal.read_code-requires
read_code-requires c = sites_fits c.read_sites.ensures
