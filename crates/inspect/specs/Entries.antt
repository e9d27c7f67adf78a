-- What the checks of the entries rest on, and the three of them in order.
use Rattle.std.specs.Prelude.{ℕ, ◌≤◌, ◌<◌, length}
use Rattle.meaning.specs.Limits.{base, and_then}
use Rattle.meaning.specs.Region.{Tables}
use Rattle.meaning.specs.Checks.{Verdict, first_fault, point_fault, arc_fault, site_fault}
use Rattle.meaning.specs.declared.Limits.{Limits}
use Rattle.straight.specs.Points.{Placed}

-- the counts are within their limits, and every column has its count
pub record Long (t : Tables) : Type 0 where
  pub few_nodes : t.n ≤ base.nodes
  pub few_arcs : t.m ≤ base.arcs
  pub few_sites : t.s ≤ base.sites
  pub tails : t.m ≤ length t.tails
  pub heads : t.m ≤ length t.heads
  pub weights : t.m ≤ length t.weights
  pub xs : t.n ≤ length t.xs
  pub ys : t.n ≤ length t.ys
  pub sites : t.s ≤ length t.sites

-- all coordinates are in range, once all points have passed
abbrev pub AllPlaced : Tables → Type 0
AllPlaced t = (v : ℕ) → v < t.n → Placed t.xs t.ys v

-- "then coordinates by node .. then arcs in order .. then sites in order"
unfoldable pub of_entries : Limits → Tables → Verdict
of_entries L t =
    and_then (first_fault (point_fault L t) t.n)
    (and_then (first_fault (arc_fault L t) t.m) (first_fault (site_fault L t) t.s))
