-- "The list", over any arcs and any sites. It does not mention the search.
use Rattle.std.specs.Prelude.{◌≡◌, ◌⊎◌, ◌≢◌, Bool, List, [], ◌∷◌, ℕ, ◌≤◌, ◌<◌, T, length}
use Rattle.meaning.specs.Lists.{All}
use Rattle.meaning.specs.Walk.{Walk, Shortest}
use Rattle.meaning.specs.Route.{RouteTo}

-- a line of the list: the site's node, its length and its route
pub record Stop : Type 0 where
  pub node : ℕ
  pub len : ℕ
  pub way : List ℕ

-- "Sites are ordered by shortest length, then node number": a at d comes before b at e
abbrev pub Before : ℕ → ℕ → ℕ → ℕ → Type 0
Before a d b e = (d < e) ⊎ ((d ≡ e) × (a < b))

-- each line comes before all that follow it
abbrev pub Ordered : List Stop → Type 0
Ordered [] = Unit {0}
Ordered (a ∷ list) = All (λ b. Before a.node a.len b.node b.len) list × Ordered list

-- a line is right: a site, "Each listed length is that of a shortest directed walk, each route is the one walk the papers choose"
pub record Right (Arc : ℕ → ℕ → ℕ → Type 0) (site : ℕ → Bool) (q : ℕ) (l : Stop) : Type 0 where
  pub names_site : T (site l.node)
  pub short : Shortest Arc q l.node l.len
  pub route : RouteTo Arc q l.node l.way

-- "The list is the first k of those reached by any walk, fewer if there aren't k."
pub record Listing (Arc : ℕ → ℕ → ℕ → Type 0) (site : ℕ → Bool) (q k : ℕ) (list : List Stop) : Type 0 where
  pub right : All (Right Arc site q) list
  pub ordered : Ordered list
  pub most : length list ≤ k
  -- a site that some walk reaches is missing only where k lines come before it
  pub missing : (v e : ℕ) → T (site v) → Walk Arc q v e → All (λ l. l.node ≢ v) list
      → (length list ≡ k) × All (λ l. Before l.node l.len v e) list
