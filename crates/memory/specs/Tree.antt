-- The open nodes in a winner tree over n leaves, in a list of its own. Place n + v is the leaf of
-- node v, and place j, from 1 to n - 1, has the larger of what stands at places 2j and 2j + 1. At a
-- leaf stands the more the sooner its node goes, and 0 where the node isn't open.
use Rattle.std.specs.Prelude.{Option, Bool, not, cond, List, ◌≡◌, ℕ, ◌+◌, ◌-◌, ◌*◌, ◌≤◌, ◌<◌, max, T, eqb, length, get_or}
use Rattle.meaning.specs.Scan.{first}
use Rattle.memory.specs.Memory.{key_at, next_of}

-- whether node v is open: only open nodes compete
abbrev pub open_at : ℕ → List ℕ → ℕ → Bool
open_at n w v = not (eqb (get_or w (n + v) 0) 0)

-- every key is below this, and every node's number below that
abbrev pub keys : ℕ
keys = 17179869184

abbrev pub numbers : ℕ
numbers = 65536

-- a lower key goes sooner, and among equal keys a lower number
abbrev pub rank_of : ℕ → List ℕ → ℕ → ℕ
rank_of n w v = cond (open_at n w v) ((keys - key_at n w v) * numbers + (numbers - 1 - v)) 0

-- r is the rank of node v
pub record Ranked (n : ℕ) (w : List ℕ) (v r : ℕ) : Type 0 where
  pub is : r ≡ rank_of n w v
  pub near : T (open_at n w v) → key_at n w v < keys

pub record Tree (n : ℕ) (w t : List ℕ) : Type 0 where
  pub room : n + n ≤ length t
  pub near : (v : ℕ) → v < n → T (open_at n w v) → key_at n w v < keys
  pub leaves : (v : ℕ) → v < n → get_or t (n + v) 0 ≡ rank_of n w v
  pub settled : (j : ℕ) → 1 ≤ j → j < n → get_or t j 0 ≡ max (get_or t (2 * j) 0) (get_or t (2 * j + 1) 0)

-- the tree but for the leaf of node v, whose entries were written
pub record But (n : ℕ) (w : List ℕ) (v : ℕ) (t : List ℕ) : Type 0 where
  pub room : n + n ≤ length t
  pub near : (x : ℕ) → x < n → (x ≡ v → ⊥) → T (open_at n w x) → key_at n w x < keys
  pub leaves : (x : ℕ) → x < n → (x ≡ v → ⊥) → get_or t (n + x) 0 ≡ rank_of n w x
  pub settled : (j : ℕ) → 1 ≤ j → j < n → get_or t j 0 ≡ max (get_or t (2 * j) 0) (get_or t (2 * j + 1) 0)

-- nothing stands anywhere
pub record Bare (n : ℕ) (t : List ℕ) : Type 0 where
  pub room : n + n ≤ length t
  pub none : (j : ℕ) → j < n + n → get_or t j 0 ≡ 0

-- r is the open node that goes next in whatever memory the tree is of
abbrev pub Topped : ℕ → List ℕ → Option ℕ → Type 0
Topped n t r = (w : List ℕ) → Tree n w t → r ≡ next_of (first (open_at n w) (key_at n w) n)

-- what nodes are compared by is the same in w' as in w
pub record SameKeys (n : ℕ) (w w' : List ℕ) : Type 0 where
  pub lens : (x : ℕ) → x < n → get_or w' x 0 ≡ get_or w x 0
  pub rivals : (x : ℕ) → x < n → get_or w' (n + x) 0 ≡ get_or w (n + x) 0

-- the same, but for node v
pub record Elsewhere (n v : ℕ) (w w' : List ℕ) : Type 0 where
  pub lens : (x : ℕ) → x < n → (x ≡ v → ⊥) → get_or w' x 0 ≡ get_or w x 0
  pub rivals : (x : ℕ) → x < n → (x ≡ v → ⊥) → get_or w' (n + x) 0 ≡ get_or w (n + x) 0
