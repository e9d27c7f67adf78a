-- A run of the taking rule over tables that passed the checks.
use Rattle.std.specs.Prelude.{Option, Some, None, Ok, Bool, cond, List, map, ◌≡◌, length, set, drop}
use Rattle.std.specs.Prelude.{ℕ, suc, ◌-◌, ◌*◌, ◌≤◌, ◌<◌, ltb}
use Rattle.meaning.specs.Limits.{base}
use Rattle.meaning.specs.Region.{Tables, Rooms, region_of}
use Rattle.meaning.specs.Checks.{inspect}
use Rattle.meaning.specs.Taking.{State, len_at, sites_of, after}
use Rattle.meaning.specs.Search.{over, aim_of}
use Rattle.taking.specs.Parents.{parents_after}
use Rattle.taking.specs.Steps.{Live, Stays, Chosen}

-- the checks passed, with some rooms
pub record Passed (t : Tables) (q k : ℕ) : Type 0 where
  pub rooms : Rooms
  pub fine : inspect base t q k rooms ≡ Ok tt

-- the state after i steps from the query node q
abbrev pub state_at : Tables → ℕ → ℕ → ℕ → State
state_at t q k i = after (region_of t) (aim_of t) k (q - 1) i

-- its sites, in the order in which they were taken
abbrev pub sites_at : Tables → State → List ℕ
sites_at t s = sites_of (region_of t) s.order

-- why no node is next where c sites are listed, and the memory w' then, which was w
pub data Ends (t : Tables) (k c : ℕ) (w w' : List ℕ) : Type 0 where
  filled : k ≤ c → w' ≡ w → Ends t k c w w'
  done : t.s ≤ c → w' ≡ w → Ends t k c w w'
  closed : c < t.s → Stays t w w' → Chosen t (ltb 0 c) w None → Ends t k c w w'

-- why the node u is
pub record Picks (t : Tables) (k c : ℕ) (w w' : List ℕ) (u : ℕ) : Type 0 where
  pub wanted : c < k
  pub left : c < t.s
  pub stays : Stays t w w'
  pub chosen : Chosen t (ltb 0 c) w (Some u)

abbrev pub Picked : Tables → ℕ → ℕ → List ℕ → List ℕ → Option ℕ → Type 0
Picked t k c w w' None = Ends t k c w w'
Picked t k c w w' (Some u) = Picks t k c w w' u

-- a taken node goes to the end of a list of c entries if it is a site, at its length d; any other
-- node leaves the list as it is
pub record Put (site : Bool) (v d c : ℕ) (listed lengths listed' lengths' : List ℕ) (c' : ℕ)
    : Type 0 where
  pub count_is : c' ≡ cond site (suc c) c
  pub listed_is : listed' ≡ cond site (set listed c (suc v)) listed
  pub lengths_is : lengths' ≡ cond site (set lengths c d) lengths

-- i steps have been made: what was lent at first, and what stands there now
pub record Ran (t : Tables) (q k i : ℕ) (work listed lengths work' listed' lengths' : List ℕ)
    (sites taken : ℕ)
    : Type 0 where
  pub sites_are : sites ≡ length (sites_at t (state_at t q k i))
  pub taken_are : taken ≡ length (state_at t q k i).order
  pub live : Live t (state_at t q k i) (parents_after (region_of t) (aim_of t) k (q - 1) i)
      (drop (4 * t.n) work) work'
  pub listed_are : listed' ≡ over (map suc (sites_at t (state_at t q k i))) listed
  pub lengths_are : lengths'
      ≡ over (map (len_at (state_at t q k i).best) (sites_at t (state_at t q k i))) lengths
