-- "The route is found backwards from the site", over any arcs and by shortest lengths alone.
use Rattle.std.specs.Prelude.{◌≢◌, List, [], ◌∷◌, ◌++◌, ℕ, ◌+◌, ◌≤◌}
use Rattle.meaning.specs.Walk.{Shortest}

-- "nodes whose shortest length plus an arc to the present node gives that node's shortest length": u is one, and v the present node
pub record Gives (Arc : ℕ → ℕ → ℕ → Type 0) (q u v : ℕ) : Type 0 where
  pub len : ℕ
  pub weight : ℕ
  pub short : Shortest Arc q u len
  pub arc : Arc u v weight
  pub whole : Shortest Arc q v (len + weight)

-- "step to the lowest numbered"
pub record Lowest (Arc : ℕ → ℕ → ℕ → Type 0) (q u v : ℕ) : Type 0 where
  pub gives : Gives Arc q u v
  pub low : (x : ℕ) → Gives Arc q x v → u ≤ x

-- "end at the query node": the route to v is the nodes from the query to v
pub data RouteTo (Arc : ℕ → ℕ → ℕ → Type 0) (q : ℕ) : ℕ → List ℕ → Type 0 where
  at_query : RouteTo Arc q q (q ∷ [])
  from : {u v : ℕ} {way : List ℕ} → v ≢ q → Lowest Arc q u v → RouteTo Arc q u way → RouteTo Arc q v (way ++ v ∷ [])
