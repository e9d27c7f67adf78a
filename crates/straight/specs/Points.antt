-- Coordinates in range, as the checks leave them.
use Rattle.std.specs.Prelude.{List, ℕ, ◌≤◌, ◌<◌, ℤ, pos, nat_abs, length, get_or}

-- a node's entry in a column of coordinates
abbrev pub entry : List ℤ → ℕ → ℤ
entry column v = get_or column v (pos 0)

-- node v has coordinates in range
pub record Placed (xs ys : List ℤ) (v : ℕ) : Type 0 where
  pub x_room : v < length xs
  pub y_room : v < length ys
  pub x_near : nat_abs (entry xs v) ≤ 200000000
  pub y_near : nat_abs (entry ys v) ≤ 200000000

-- the largest dx squared plus dy squared
abbrev pub farthest : ℕ
farthest = 320000000000000000
