-- The work memory of a search, in four quarters of n entries. Of node v: entry v is one more than
-- its best length so far, and 0 while it has not been seen; entry n + v is what it is compared by
-- beside its length while it is open, and 0 while it isn't; entry n + n + v is the number of the
-- node before it on the route, and 0 where there is none. The last quarter isn't used. The open
-- nodes stand in a tree beside the memory (Tree).
use Rattle.std.specs.Prelude.{Option, Some, None, Bool, not, cond, ◌&&◌, List, ◌≡◌, ℕ, zero, suc, ◌+◌, ◌-◌, ◌*◌, ◌/◌, ◌%◌, ◌≤◌, ◌<◌, T, eqb, length, get_or, drop}
use Rattle.std.proofs.Math.Option.{Option as Found, none, some}
use Rattle.meaning.specs.Taking.{State, taken, is_open, total, bit}

-- what is held of an open node: its estimate, and whether it is a site, which goes after an equal
-- total that isn't one
abbrev pub rival_of : ℕ → Bool → ℕ
rival_of line site = suc (line * 2 + bit site)

-- seen, and no longer open
abbrev pub is_taken : ℕ → List ℕ → ℕ → Bool
is_taken n w v = not (eqb (get_or w v 0) 0) && eqb (get_or w (n + v) 0) 0

-- what open nodes are compared by
abbrev pub key_at : ℕ → List ℕ → ℕ → ℕ
key_at n w v = total (get_or w v 0 - 1) ((get_or w (n + v) 0 - 1) / 2) * 2 + (get_or w (n + v) 0 - 1) % 2

-- the node that a scan finds, as the code has it
abbrev pub next_of : Found ℕ → Option ℕ
next_of none = None
next_of (some v) = Some v

-- what an entry that is one more than a place stands for, where 0 stands for none
abbrev pub place_of : ℕ → Option ℕ
place_of zero = None
place_of (suc v) = Some v

-- The memory w holds the state s of a search, where `site` tells the sites, `line` is the estimate
-- last made of each open node, `from` has the number of the node before each node, and `rest` is
-- what follows the four quarters.
pub record Holds (n : ℕ) (site : ℕ → Bool) (line : ℕ → ℕ) (s : State) (from rest w : List ℕ) : Type 0 where
  pub room : 4 * n ≤ length w
  pub size : length s.best ≡ n
  pub leads : length from ≡ n
  pub lens : (v : ℕ) → v < n → get_or w v 0 ≡ get_or s.best v 0
  pub rivals : (v : ℕ) → v < n → get_or w (n + v) 0 ≡ cond (is_open s v) (rival_of (line v) (site v)) 0
  pub before : (v : ℕ) → v < n → get_or w (n + n + v) 0 ≡ get_or from v 0
  pub seen : (v : ℕ) → T (taken s v) → 0 < get_or s.best v 0
  pub past : drop (4 * n) w ≡ rest

-- r tells whether v, open in whatever state the memory holds, is a site
abbrev pub SiteTold : ℕ → List ℕ → ℕ → Bool → Type 0
SiteTold n w v r = (site : ℕ → Bool) (line : ℕ → ℕ) (s : State) (from rest : List ℕ) → Holds n site line s from rest w → T (is_open s v) → r ≡ site v
