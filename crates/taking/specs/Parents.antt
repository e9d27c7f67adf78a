-- The number of the node before each node on the route, kept as arcs are followed: the lowest of
-- the taken nodes that give the node its length.
use Rattle.std.specs.Prelude.{Bool, true, false, not, cond, ◌||◌, ◌&&◌, List, ℕ, zero, suc, ◌+◌, eqb, ltb, get_or, set, replicate}
use Rattle.std.proofs.Math.Option.{Option, none, some}
use Rattle.meaning.specs.Region.{Region}
use Rattle.meaning.specs.Taking.{State, taken, len_at, relax_to, mark, full, choose, after}

-- u's arc reaches h, at `reach`, one more than the length: where it opens or shortens, u comes
-- before h; where it gives the same length, the lower number does
unfoldable pub parent_at : (ℕ → Bool) → ℕ → ℕ → ℕ → List ℕ → List ℕ → List ℕ
parent_at tk u reach h best from =
    cond (eqb (get_or best h 0) reach) (cond (ltb (suc u) (get_or from h 0)) (set from h (suc u)) from)
    (cond (not (tk h) && (eqb (get_or best h 0) 0 || ltb reach (get_or best h 0))) (set from h (suc u)) from)

-- arc i is followed, if it leaves u, taken at length d
unfoldable pub parent_by : Region → (ℕ → Bool) → ℕ → ℕ → ℕ → List ℕ → List ℕ → List ℕ
parent_by R tk u d i best from = cond (eqb (R.tail i) u) (parent_at tk u (suc (d + R.weight i)) (R.head i) best from) from

-- after the first i arcs
unfoldable pub parents_to : Region → (ℕ → Bool) → List ℕ → ℕ → ℕ → List ℕ → ℕ → List ℕ
parents_to R tk best u d from zero = from
parents_to R tk best u d from (suc i) = parent_by R tk u d i (relax_to R tk best u d i) (parents_to R tk best u d from i)

-- after u is taken
unfoldable pub parents1 : Region → State → ℕ → List ℕ → List ℕ
parents1 R s u from = parents_to R (taken (mark s u)) s.best u (len_at s.best u) from R.m

-- after a step
unfoldable pub parents_next : Region → State → List ℕ → Bool → Option ℕ → List ℕ
parents_next R s from true o = from
parents_next R s from false none = from
parents_next R s from false (some u) = parents1 R s u from

-- after i steps of the taking rule
unfoldable pub parents_after : Region → ((ℕ → Bool) → ℕ → ℕ) → ℕ → ℕ → ℕ → List ℕ
parents_after R est k q zero = replicate R.n 0
parents_after R est k q (suc i) = let s = after R est k q i in parents_next R s (parents_after R est k q i) (full R k s) (choose R est s)

-- a node's number, and 0 for none
abbrev pub number_of : Option ℕ → ℕ
number_of none = 0
number_of (some u) = suc u
