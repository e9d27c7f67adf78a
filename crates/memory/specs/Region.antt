-- A region whose tables passed the checks: what they have shown of its counts, its arcs and its
-- points.
use Rattle.std.specs.Prelude.{ℕ, ◌≤◌, ◌<◌, length, get_or}
use Rattle.meaning.specs.Limits.{base}
use Rattle.meaning.specs.Region.{Tables}
use Rattle.memory.specs.Aim.{Ground}

-- the first m arcs join nodes, and their weights are in range
pub record Arcs (t : Tables) : Type 0 where
  pub nodes : t.n ≤ base.nodes
  pub tail_room : t.m ≤ length t.tails
  pub head_room : t.m ≤ length t.heads
  pub weight_room : t.m ≤ length t.weights
  pub tail_low : (i : ℕ) → i < t.m → 1 ≤ get_or t.tails i 0
  pub tail_high : (i : ℕ) → i < t.m → get_or t.tails i 0 ≤ t.n
  pub head_low : (i : ℕ) → i < t.m → 1 ≤ get_or t.heads i 0
  pub head_high : (i : ℕ) → i < t.m → get_or t.heads i 0 ≤ t.n
  pub light : (i : ℕ) → i < t.m → get_or t.weights i 0 ≤ base.weight

-- the tables passed the checks
pub record Sound (t : Tables) : Type 0 where
  pub some_node : 1 ≤ t.n
  pub few_nodes : t.n ≤ base.nodes
  pub few_arcs : t.m ≤ base.arcs
  pub few_sites : t.s ≤ base.sites
  pub ground : Ground t
  pub arcs : Arcs t
