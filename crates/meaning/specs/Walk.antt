-- Walks over any arcs: `Arc u v w` says that an arc leads from u to v and weighs w.
use Rattle.std.specs.Prelude.{ℕ, ◌+◌, ◌≤◌}

-- "A walk is a sequence of nodes, each joined to the next by an arc; its length is the sum of the weights. One node alone is a walk of length 0."
pub data Walk (Arc : ℕ → ℕ → ℕ → Type 0) (q : ℕ) : ℕ → ℕ → Type 0 where
  here : Walk Arc q q 0
  step : {u v d w : ℕ} → Walk Arc q u d → Arc u v w → Walk Arc q v (d + w)

-- d is the length of a shortest walk from q to v
pub record Shortest (Arc : ℕ → ℕ → ℕ → Type 0) (q v d : ℕ) : Type 0 where
  pub walk : Walk Arc q v d
  pub least : (e : ℕ) → Walk Arc q v e → d ≤ e
