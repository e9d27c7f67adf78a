-- The search's own list, computed from the lengths of its last state.
use mathlib.Core.Bool.{Bool, ◌&&◌}
use mathlib.Core.Option.{Option, none, some}
use mathlib.Core.List.{List, [], ◌∷◌}
use Prim.Native.Nat.{ℕ, zero, suc, ◌+◌}
use lib.Dec.{eqb}
use Rattle.meaning.specs.Region.{Region}
use Rattle.meaning.specs.Scan.{any, first}
use Rattle.meaning.specs.Taking.{State, taken, len_at, sites_of, final}
use Rattle.meaning.specs.Listing.{Stop}

-- the route, from the lengths of the taken nodes
unfoldable pub arc_gives : Region → List ℕ → ℕ → ℕ → ℕ → Bool
arc_gives R b u v i = eqb (R.tail i) u && (eqb (R.head i) v && eqb (len_at b u + R.weight i) (len_at b v))

unfoldable pub prev : Region → State → ℕ → Option ℕ
prev R s v = first (λ u. taken s u && any (arc_gives R s.best u v) R.m) (λ u. 0) R.n

unfoldable pub back : Region → State → ℕ → Option ℕ → List ℕ → List ℕ
back R s zero o acc = acc
back R s (suc f) none acc = acc
back R s (suc f) (some v) acc = back R s f (prev R s v) (v ∷ acc)

unfoldable pub route : Region → State → ℕ → List ℕ
route R s v = back R s (suc (len_at s.best v)) (some v) []

-- a line for each of the nodes vs
unfoldable pub stops : Region → State → List ℕ → List Stop
stops R s [] = []
stops R s (v ∷ vs) = record { node = v; len = len_at s.best v; way = route R s v } ∷ stops R s vs

-- the search's list
unfoldable pub list_of : Region → ((ℕ → Bool) → ℕ → ℕ) → ℕ → ℕ → List Stop
list_of R est k q = let s = final R est k q in stops R s (sites_of R s.order)
