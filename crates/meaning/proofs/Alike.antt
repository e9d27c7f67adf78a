-- Arcs that are alike have the same lists and routes: the least among parallel arcs, and the same arcs in another order.
use mathlib.Core.Logic.{◌↔◌}
use mathlib.Core.Bool.{Bool}
use mathlib.Core.List.{List}
use Prim.Native.Nat.{ℕ, ◌+◌}
use native.Mathlib.Omega.{arith}
use lib.Dec.{T}
use Rattle.meaning.specs.Region.{Region, ArcOf, LeastArc}
use Rattle.meaning.specs.Walk.{Walk, here, step, Shortest}
use Rattle.meaning.specs.Route.{Gives, RouteTo, at_query, from}
use Rattle.meaning.specs.Listing.{Stop, Right, Listing}
use Rattle.meaning.proofs.Alls.{all_map}
use Rattle.meaning.proofs.Parallel.{any_walk, shortest_same}

-- what makes the arcs B as good as the arcs A, from the query q
pub record Alike (A B : ℕ → ℕ → ℕ → Type 0) (q : ℕ) : Type 0 where
  pub short : (v d : ℕ) → Shortest A q v d → Shortest B q v d
  pub walk : (v d : ℕ) → Walk B q v d → Walk A q v d
  pub gives : (u v : ℕ) → Gives A q u v ↔ Gives B q u v

module _ {A B : ℕ → ℕ → ℕ → Type 0} {q : ℕ} (like : Alike A B q) where
  pub route_alike : {v : ℕ} {way : List ℕ} → RouteTo A q v way → RouteTo B q v way
  route_alike at_query = at_query
  route_alike (from {u = u} {v = v} n l r) =
      from n (record { gives = (like.gives u v).0 l.gives; low = λ x g. l.low x ((like.gives x v).1 g) }) (route_alike r)

  pub listing_alike : {site site' : ℕ → Bool} → ((v : ℕ) → T (site v) ↔ T (site' v)) → {k : ℕ} {list : List Stop} → Listing A site q k list → Listing B site' q k list
  listing_alike {site} {site'} same {k} {list} L = record {
    right = all_map (Right A site q) (Right B site' q)
        (λ l r. record { names_site = (same l.node).0 r.names_site; short = like.short l.node l.len r.short; route = route_alike r.route }) list L.right;
    ordered = L.ordered;
    most = L.most;
    missing = λ v e t w u. L.missing v e ((same v).1 t) (like.walk v e w) u;
  }

-- the least among parallel arcs
pub least_alike : (R : Region) (q : ℕ) → Alike (ArcOf R) (LeastArc R) q
least_alike R q = record {
  short = λ v d s. (shortest_same R q v d).0 s;
  walk = λ v d w. any_walk R w;
  gives = λ u v. (to u v, of u v);
}
  where
    to : (u v : ℕ) → Gives (ArcOf R) q u v → Gives (LeastArc R) q u v
    to u v g = record {
      len = g.len;
      weight = g.weight;
      short = (shortest_same R q u g.len).0 g.short;
      arc = record { arc = g.arc; least = λ x a. let l = g.whole.least (g.len + x) (step g.short.walk a) in omega arith };
      whole = (shortest_same R q v (g.len + g.weight)).0 g.whole;
    }

    of : (u v : ℕ) → Gives (LeastArc R) q u v → Gives (ArcOf R) q u v
    of u v g = record {
      len = g.len;
      weight = g.weight;
      short = (shortest_same R q u g.len).1 g.short;
      arc = g.arc.arc;
      whole = (shortest_same R q v (g.len + g.weight)).1 g.whole;
    }

-- the same arcs, however they are told
module _ {A B : ℕ → ℕ → ℕ → Type 0} (same : (u v w : ℕ) → A u v w ↔ B u v w) where
  walk_same : {q v d : ℕ} → Walk A q v d → Walk B q v d
  walk_same here = here
  walk_same (step {u = u} {v = v} {w = w} p a) = step (walk_same p) ((same u v w).0 a)

  back : {q v d : ℕ} → Walk B q v d → Walk A q v d
  back here = here
  back (step {u = u} {v = v} {w = w} p a) = step (back p) ((same u v w).1 a)

  short_same : {q v d : ℕ} → Shortest A q v d → Shortest B q v d
  short_same s = record { walk = walk_same s.walk; least = λ e p. s.least e (back p) }

  short_back : {q v d : ℕ} → Shortest B q v d → Shortest A q v d
  short_back s = record { walk = back s.walk; least = λ e p. s.least e (walk_same p) }

  pub same_alike : (q : ℕ) → Alike A B q
  same_alike q = record {
    short = λ v d s. short_same s;
    walk = λ v d w. back w;
    gives = λ u v. (
      λ g. record { len = g.len; weight = g.weight; short = short_same g.short; arc = (same u v g.weight).0 g.arc; whole = short_same g.whole },
      λ g. record { len = g.len; weight = g.weight; short = short_back g.short; arc = (same u v g.weight).1 g.arc; whole = short_back g.whole },
    );
  }

pub least_same : (R R' : Region) → ((u v w : ℕ) → ArcOf R u v w ↔ ArcOf R' u v w) → (u v w : ℕ) → LeastArc R u v w ↔ LeastArc R' u v w
least_same R R' same u v w = (
  λ a. record { arc = (same u v w).0 a.arc; least = λ x b. a.least x ((same u v x).1 b) },
  λ a. record { arc = (same u v w).1 a.arc; least = λ x b. a.least x ((same u v x).0 b) },
)
