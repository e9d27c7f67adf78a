-- The routes as the memory leads back: entry n + n + v is the number of the node before v.
use Rattle.std.specs.Prelude.{cond, List, [], ◌∷◌, ℕ, zero, suc, ◌+◌, ◌-◌, ◌*◌, ◌≤◌, ◌<◌, eqb, length, get_or}
use Rattle.meaning.specs.Limits.{base}
use Rattle.meaning.specs.Listing.{Stop}

-- v and what comes before it, at most f nodes, in front of what has been found already
unfoldable pub way_back : ℕ → List ℕ → ℕ → ℕ → List ℕ → List ℕ
way_back n w zero v way = v ∷ way
way_back n w (suc f) v way = cond (eqb (get_or w (n + n + v) 0) 0) (v ∷ way) (way_back n w f (get_or w (n + n + v) 0 - 1) (v ∷ way))

-- the route to v
unfoldable pub way_in : ℕ → List ℕ → ℕ → List ℕ
way_in n w v = way_back n w (n - 1) v []

-- a line for each of the site numbers
unfoldable pub lines_in : ℕ → List ℕ → List ℕ → List Stop
lines_in n w [] = []
lines_in n w (x ∷ xs) = record { node = x - 1; len = get_or w (x - 1) 0 - 1; way = way_in n w (x - 1) } ∷ lines_in n w xs

-- the memory leads back to nodes
pub record Linked (n : ℕ) (w : List ℕ) : Type 0 where
  pub one : 1 ≤ n
  pub nodes : n ≤ base.nodes
  pub room : 4 * n ≤ length w
  pub back : (v : ℕ) → v < n → get_or w (n + n + v) 0 ≤ n

-- what writing the first `count` routes asks: the memory leads back to nodes, and the listed sites
-- are nodes
pub record Leads (n : ℕ) (w listed : List ℕ) (count : ℕ) : Type 0 where
  pub linked : Linked n w
  pub few : count ≤ base.k
  pub lines : count ≤ length listed
  pub low : (i : ℕ) → i < count → 1 ≤ get_or listed i 0
  pub high : (i : ℕ) → i < count → get_or listed i 0 ≤ n
