use Rattle.meaning.proofs.Boundary.{graph_fits}
use Rattle.panel.proofs.wick_read_graph.Goals as goal

pub read_code-requires : goal.read_code-requires
read_code-requires c = graph_fits c.read_graph.ensures
