-- What one bit per node says of the sites.
use Rattle.std.specs.Prelude.{◌≡◌, Ok, Bool, true, false, List, ℕ, ◌-◌}
use Rattle.meaning.specs.Limits.{base}
use Rattle.meaning.specs.Files.{within}
use Rattle.meaning.specs.Region.{Tables}
use Rattle.meaning.specs.Checks.{first_fault, site_fault}
use Rattle.reading.specs.Marks.{is_marked, Added}

-- a node that was not marked before, and is after
pub record New (before : List ℕ) (number n : ℕ) (after : List ℕ) : Type 0 where
  pub node : within 1 number n ≡ true
  pub unmarked : is_marked before (number - 1) ≡ false
  pub added : Added before (number - 1) after

-- nothing is said of what a refused site leaves: the search for its place does not look at the
-- marks
abbrev pub IsNew : List ℕ → ℕ → ℕ → Bool → List ℕ → Type 0
IsNew before number n r after = r ≡ true → New before number n after

-- where the bits find no fault there is none; where they find one it is looked for again
abbrev pub AllStand : Tables → Bool → Type 0
AllStand t r = r ≡ true → first_fault (site_fault base t) t.s ≡ Ok tt
