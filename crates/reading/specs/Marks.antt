-- One bit for each number, 32 to a word.
use Rattle.std.specs.Prelude.{ℕ, ◌/◌, ◌%◌, ◌^◌, List, Bool, ◌||◌, ◌≡◌, length, get_or, eqb}

-- whether the bit of k is set
abbrev pub is_marked : List ℕ → ℕ → Bool
is_marked m k = eqb (get_or m (k / 32) 0 / 2 ^ (k % 32) % 2) 1

-- the marks n are the marks m and k's
pub record Added (m : List ℕ) (k : ℕ) (n : List ℕ) : Type 0 where
  pub bits : (j : ℕ) → is_marked n j ≡ (eqb j k || is_marked m j)
  pub size : length n ≡ length m
