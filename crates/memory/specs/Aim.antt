-- The estimate, from the memory: of the squared distances to the sites that aren't taken the least
-- is kept, and one root is taken.
use Rattle.std.specs.Prelude.{Bool, false, cond, List, ◌≡◌, ℕ, zero, suc, ◌+◌, ◌-◌, ◌*◌, ◌≤◌, ◌<◌, eqb, ltb, ℤ, pos, nat_abs, length, get_or}
use Rattle.meaning.specs.Limits.{base}
use Rattle.meaning.specs.Region.{Tables, x_at, y_at}
use Rattle.meaning.specs.Scan.{any}
use Rattle.meaning.specs.Straight.{gap, root, squares}
use Rattle.straight.specs.Points.{Placed}
use Rattle.memory.specs.Memory.{is_taken}

-- what the checks have shown of the points and the sites
pub record Ground (t : Tables) : Type 0 where
  pub points : (v : ℕ) → v < t.n → Placed t.xs t.ys v
  pub room : t.s ≤ length t.sites
  pub low : (j : ℕ) → j < t.s → 1 ≤ get_or t.sites j 0
  pub high : (j : ℕ) → j < t.s → get_or t.sites j 0 ≤ t.n

-- the node of the site j
abbrev pub node_of : Tables → ℕ → ℕ
node_of t j = get_or t.sites j 0 - 1

-- whether v is one of the sites: meaning's is_site, over the column
abbrev pub site_in : Tables → ℕ → Bool
site_in t v = any (λ j. eqb (node_of t j) v) t.s

-- the least so far, 0 for none or one more than the square, and the square to one more site; a
-- taken site doesn't count
unfoldable pub closer_of : Bool → ℕ → ℕ → ℕ
closer_of gone square best = cond gone best (cond (eqb best 0) (suc square) (cond (ltb (suc square) best) (suc square) best))

-- the least from v to one of the first j sites
unfoldable pub least_to : Tables → List ℕ → ℕ → ℕ → ℕ
least_to t w v zero = 0
least_to t w v (suc j) =
    closer_of (is_taken t.n w (node_of t j)) (squares (x_at t) (y_at t) v (node_of t j)) (least_to t w v j)

-- the straight line from v to the closest site that isn't taken
unfoldable pub line_to : Tables → List ℕ → ℕ → ℕ
line_to t w v = root (least_to t w v t.s - 1)

-- no line between nodes is longer
abbrev pub line_most : ℕ
line_most = 1000000000

-- ---- the sites side by side, in the code

-- where a taken site is put: farther from any node than another node is
abbrev pub far_off : ℤ
far_off = pos 1000000000

-- the coordinates stand in ax and ay, in the order of the table, and a taken site far off
pub record SideBySide (t : Tables) (w : List ℕ) (ax ay : List ℤ) : Type 0 where
  pub room_x : t.s ≤ length ax
  pub room_y : t.s ≤ length ay
  pub across : (j : ℕ) → j < t.s → get_or ax j (pos 0) ≡ cond (is_taken t.n w (node_of t j)) far_off (x_at t (node_of t j))
  pub upward : (j : ℕ) → j < t.s → get_or ay j (pos 0) ≡ y_at t (node_of t j)

abbrev pub NoneTaken : ℕ → List ℕ → Type 0
NoneTaken n w = (v : ℕ) → v < n → is_taken n w v ≡ false

-- the same nodes are taken
abbrev pub SameTaken : ℕ → List ℕ → List ℕ → Type 0
SameTaken n w w' = (v : ℕ) → v < n → is_taken n w' v ≡ is_taken n w v

-- the site v is put far off
pub record Forgotten (t : Tables) (v : ℕ) (ax ax' : List ℤ) : Type 0 where
  pub size : length ax' ≡ length ax
  pub across : (j : ℕ) → j < t.s → get_or ax' j (pos 0) ≡ cond (eqb (node_of t j) v) far_off (get_or ax j (pos 0))

-- a node at x, y, and a site at a, b, which may be put far off
pub record Sized (x y a b : ℤ) : Type 0 where
  pub near_x : nat_abs x ≤ base.coordinate
  pub near_y : nat_abs y ≤ base.coordinate
  pub near_a : nat_abs a ≤ nat_abs far_off
  pub near_b : nat_abs b ≤ nat_abs far_off

-- the least square so far, with one more
abbrev pub nearer : ℤ → ℤ → ℤ → ℤ → ℕ → ℕ
nearer x y a b best = cond (ltb (gap x a * gap x a + gap y b * gap y b) best) (gap x a * gap x a + gap y b * gap y b) best
