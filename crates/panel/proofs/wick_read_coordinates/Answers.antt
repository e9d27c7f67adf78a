use Rattle.meaning.proofs.Boundary.{coordinates_fits}
use Rattle.panel.proofs.wick_read_coordinates.Goals as goal

pub read_code-requires : goal.read_code-requires
read_code-requires c = coordinates_fits c.read_coordinates.ensures
