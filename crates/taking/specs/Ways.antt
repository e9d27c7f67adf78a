-- How a node's arcs are linked, and how far the lengths in the memory can be.
use Rattle.std.specs.Prelude.{cond, List, ◌≡◌, ℕ, zero, suc, ◌-◌, ◌≤◌, ◌<◌, eqb, length, get_or}
use Rattle.meaning.specs.Region.{Tables}

-- with an arc's weight added, an entry of as much fits in 32 bits
abbrev pub entry_most : ℕ
entry_most = 4000000000

-- no node's entry is above that
abbrev pub Bounded : Tables → List ℕ → Type 0
Bounded t w = (v : ℕ) → v < t.n → get_or w v 0 ≤ entry_most

-- ---- the arcs of a node in a chain

-- of k arcs from arc i on the first that leaves `number`, as one more than its place; 0 where none
-- does
unfoldable pub seek : List ℕ → ℕ → ℕ → ℕ → ℕ
seek tails number i zero = 0
seek tails number i (suc k) = cond (eqb (get_or tails i 0) number) (suc i) (seek tails number (suc i) k)

-- node u's first arc
abbrev pub seek_first : Tables → ℕ → ℕ
seek_first t u = seek t.tails (suc u) 0 t.m

-- the next after arc i with the same tail
abbrev pub seek_next : Tables → ℕ → ℕ
seek_next t i = seek t.tails (get_or t.tails i 0) (suc i) (t.m - suc i)

-- no arc is linked
abbrev pub Unlinked : ℕ → List ℕ → Type 0
Unlinked n starts = (v : ℕ) → v < n → get_or starts v 0 ≡ 0

-- the first arc of each node, and after each arc the next with the same tail
pub record Linked (t : Tables) (starts nexts : List ℕ) : Type 0 where
  pub start_room : t.n ≤ length starts
  pub next_room : t.m ≤ length nexts
  pub first : (v : ℕ) → v < t.n → get_or starts v 0 ≡ seek_first t v
  pub next : (i : ℕ) → i < t.m → get_or nexts i 0 ≡ seek_next t i
