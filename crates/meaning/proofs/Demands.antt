-- On every accepted region, under any consistent estimate: what the taking rule keeps to, and demand 3.
use mathlib.Core.Path.{◌≡◌, refl, sym, ap, subst, ◌∙◌}
use mathlib.Core.Logic.{◌≢◌}
use mathlib.Core.Bool.{Bool}
use mathlib.Core.List.{List, [], ◌∷◌, ◌++◌}
use Prim.Native.Nat.{ℕ, suc, ◌+◌, ◌-◌, ◌*◌, ◌^◌, ◌≤◌, ◌<◌}
use native.Mathlib.Nat.{mul-le-mul, mul-le-mul_right}
use native.Mathlib.Omega.{arith}
use lib.Dec.{T}
use lib.ListN.{length, length-append, length-map}
use Rattle.meaning.specs.declared.Limits.{Limits}
use Rattle.meaning.specs.Limits.{base}
use Rattle.meaning.specs.Region.{Tables, Rooms, region_of, x_at, y_at, ArcOf, LeastArc, is_site}
use Rattle.meaning.specs.Walk.{Walk, Shortest}
use Rattle.meaning.specs.Taking.{taken, len_at, sites_of, next, after, final, taken_count}
use Rattle.meaning.specs.Route.{Gives}
use Rattle.meaning.specs.Lists.{All}
use Rattle.meaning.specs.Listing.{Stop, Right, Listing}
use Rattle.meaning.specs.Search.{aim_of, back_to_back}
use Rattle.meaning.proofs.Counting.{count_le}
use Rattle.meaning.proofs.Exits.{one, join, shortest_unique, shortest_front}
use Rattle.meaning.proofs.Relaxing.{Estimate, Setting}
use Rattle.meaning.proofs.States.{Has}
use Rattle.meaning.proofs.Orders.{Asc}
use Rattle.meaning.proofs.Estimates.{straight_measure}
use Rattle.meaning.proofs.Listed.{Listed, listed_after, final_stopped, stays}
use Rattle.meaning.proofs.Trace.{list_of}
use Rattle.meaning.proofs.Routes.{route_fits}
use Rattle.meaning.proofs.Bounds.{Came, came_after, came_once, lens, within_last}
use Rattle.meaning.proofs.Parallel.{any_walk, shortest_same}
use Rattle.meaning.proofs.Alls.{all_map}
use Rattle.meaning.proofs.Listings.{nodes, nodes_stops, listing_unique, list_right}
use Rattle.meaning.proofs.Passed.{Sound, sound_long, sound_setting}
use Rattle.meaning.proofs.Outcomes.{aim_fits, list_fits}

module _ {L : Limits} {t : Tables} {q k : ℕ} {r : Rooms} (S : Sound L t q k r) (est : (ℕ → Bool) → ℕ → ℕ) (fits : Estimate (region_of t) est) where
  abbrev G : Setting (region_of t) est (q - 1)
  G = sound_setting S est fits

  listed_at : (i : ℕ) → Listed (region_of t) (q - 1) k (after (region_of t) est k (q - 1) i)
  listed_at = listed_after G k

  came_at : (i : ℕ) → Came G k (after (region_of t) est k (q - 1) i)
  came_at = came_after G k

  -- each taken node has its shortest length
  pub taken_shortest : (i v : ℕ) → T (taken (after (region_of t) est k (q - 1) i) v)
      → Shortest (LeastArc (region_of t)) (q - 1) v (len_at (after (region_of t) est k (q - 1) i).best v)
  taken_shortest i v z =
      let m = (listed_at i).inv.known.settled v z in
      let e = m.1 in
      (shortest_same (region_of t) (q - 1) v _).0 (subst (λ (x : ℕ). Shortest (ArcOf (region_of t)) (q - 1) v x) (omega arith) m.2)

  -- "No node is taken twice."
  pub taken_once : (i : ℕ) → Asc ◌≢◌ (after (region_of t) est k (q - 1) i).order
  taken_once i = came_once G k (came_at i)

  -- at most N nodes are taken
  pub taken_most : (i : ℕ) → length (after (region_of t) est k (q - 1) i).order ≤ t.n
  taken_most i = let e = (listed_at i).tally in let l = count_le (taken (after (region_of t) est k (q - 1) i)) t.n in omega arith

  pub count_most : taken_count (region_of t) est k (q - 1) ≤ t.n
  unfolding taken_count final
  count_most = taken_most t.n

  -- the run stops within N steps
  pub run_stops : next (region_of t) est k (final (region_of t) est k (q - 1)) ≡ final (region_of t) est k (q - 1)
  run_stops =
      stays G k (final (region_of t) est k (q - 1))
      (final_stopped G k)

  -- every seen length, the open nodes' too, is at most N times the largest weight
  pub lengths_most : (i v d : ℕ) → Has (after (region_of t) est k (q - 1) i) v d → d ≤ L.nodes * L.weight
  lengths_most i v d h =
      let a = lens G k L.weight (λ j l. (S.good j l).fine.weight_high) (came_at i) v d h in
      let b = taken_most i in
      let c = S.nodes.1 in
      let m : length (after (region_of t) est k (q - 1) i).order * L.weight ≤ L.nodes * L.weight = mul-le-mul_right L.weight (omega arith) in
      omega arith

  -- its sites are the list: any list that fits is the search's own
  pub list_is : (list : List Stop) → Listing (LeastArc (region_of t)) (is_site (region_of t)) (q - 1) k list → list ≡ list_of (region_of t) est k (q - 1)
  list_is list x = listing_unique (LeastArc (region_of t)) (is_site (region_of t)) (q - 1) list (list_of (region_of t) est k (q - 1)) x (list_fits S est fits)

  pub nodes_are : nodes (list_of (region_of t) est k (q - 1)) ≡ sites_of (region_of t) (final (region_of t) est k (q - 1)).order
  unfolding list_of
  nodes_are = nodes_stops (region_of t) (final (region_of t) est k (q - 1)) (sites_of (region_of t) (final (region_of t) est k (q - 1)).order)

  -- a route has at most N nodes
  own_routes : All (λ l. length l.way ≤ t.n) (list_of (region_of t) est k (q - 1))
  own_routes =
      all_map (Right (ArcOf (region_of t)) (is_site (region_of t)) (q - 1)) (λ l. length l.way ≤ t.n)
      (λ l x. route_fits G x.route l.len x.short) (list_of (region_of t) est k (q - 1))
      (list_right G k).right

  pub routes_fit : (list : List Stop) → Listing (LeastArc (region_of t)) (is_site (region_of t)) (q - 1) k list → All (λ l. length l.way ≤ t.n) list
  routes_fit list x = subst (λ (l : List Stop). All (λ s. length s.way ≤ t.n) l) (sym (list_is list x)) own_routes

  -- so that the rooms suffice: k times N entries hold the routes
  sum_fits : (n : ℕ) (list : List Stop) → All (λ l. length l.way ≤ n) list → length (back_to_back list) ≤ length list * n
  unfolding back_to_back
  sum_fits n [] a = omega arith
  sum_fits n (l ∷ list) a = let h = sum_fits n list a.1 in let b = a.0 in simp (length-append, length-map) (omega arith)

  pub rooms_suffice : (list : List Stop) → Listing (LeastArc (region_of t)) (is_site (region_of t)) (q - 1) k list → length (back_to_back list) ≤ k * t.n
  rooms_suffice list x =
      let a = sum_fits t.n list (routes_fit list x) in
      let b : length list * t.n ≤ k * t.n = mul-le-mul_right t.n x.most in
      omega arith

  -- every node that the route rule may choose before a node v of a shortest walk to a taken site has been taken
  pub predecessors_taken : (i s v x a b : ℕ) → T (taken (after (region_of t) est k (q - 1) i) s) → T (is_site (region_of t) s)
      → Walk (LeastArc (region_of t)) (q - 1) v a → Walk (LeastArc (region_of t)) v s b → Shortest (LeastArc (region_of t)) (q - 1) s (a + b) → Gives (LeastArc (region_of t)) (q - 1) x v
      → T (taken (after (region_of t) est k (q - 1) i) x)
  predecessors_taken i s v x a b got site to on whole g =
      let e = shortest_unique (shortest_front to on refl whole) g.whole in
      (listed_at i).closed s got site x g.len (g.weight + b) (any_walk (region_of t) g.short.walk) (join (one g.arc.arc) (any_walk (region_of t) on))
      (subst (λ (d : ℕ). Shortest (ArcOf (region_of t)) (q - 1) s d) (omega arith) ((shortest_same (region_of t) (q - 1) s (a + b)).1 whole))

-- "lengths stay within 32 bits": under the base limits
pub lengths_fit : {t : Tables} {q k : ℕ} {r : Rooms} → Sound base t q k r → (est : (ℕ → Bool) → ℕ → ℕ) → Estimate (region_of t) est
    → (i v d : ℕ) → Has (after (region_of t) est k (q - 1) i) v d → suc d < 2 ^ 32
lengths_fit S est fits i v d h = let a = lengths_most S est fits i v d h in omega arith

-- and route ends within 16
pub ends_fit : {t : Tables} {q k : ℕ} {r : Rooms} → Sound base t q k r → (list : List Stop) → Listing (LeastArc (region_of t)) (is_site (region_of t)) (q - 1) k list
    → length (back_to_back list) < 2 ^ 16
ends_fit {t} {q} {k} S list x =
    let a = rooms_suffice S (aim_of t) (aim_fits S) list x in
    let b : k * t.n ≤ 32 * 1024 = mul-le-mul S.lines.1 S.nodes.1 in
    omega arith

-- Demand 3: "Where k sites are listed, no node is taken whose shortest length plus its straight line, rounded down, to the closest of all the sites
-- exceeds the k-th listed length."
pub within_kth : {L : Limits} {t : Tables} {q k : ℕ} {r : Rooms} → Sound L t q k r → (front : List Stop) (last : Stop)
    → Listing (LeastArc (region_of t)) (is_site (region_of t)) (q - 1) k (front ++ last ∷ []) → length (front ++ last ∷ []) ≡ k
    → (v d : ℕ) → T (taken (final (region_of t) (aim_of t) k (q - 1)) v) → Shortest (LeastArc (region_of t)) (q - 1) v d → d + aim_of t (is_site (region_of t)) v ≤ last.len
within_kth {t = t} {q = q} {k = k} S front last x full v d z s =
    within_last (straight_measure (region_of t) (x_at t) (y_at t) (sound_long S)) (sound_setting S (aim_of t) (aim_fits S)) k
    (nodes front) last.node same count last.len ((shortest_same (region_of t) (q - 1) last.node last.len).1 (end front x.right).short) v d z
    ((shortest_same (region_of t) (q - 1) v d).1 s)
  where
    shown : (list : List Stop) → nodes (list ++ last ∷ []) ≡ nodes list ++ last.node ∷ []
    shown [] = refl
    shown (l ∷ list) = ap (λ (vs : List ℕ). l.node ∷ vs) (shown list)

    same : sites_of (region_of t) (final (region_of t) (aim_of t) k (q - 1)).order ≡ nodes front ++ last.node ∷ []
    same = sym (nodes_are S (aim_of t) (aim_fits S)) ∙ ap nodes (sym (list_is S (aim_of t) (aim_fits S) (front ++ last ∷ []) x)) ∙ shown front

    count : length (nodes front ++ last.node ∷ []) ≡ k
    count = ap length (sym (shown front)) ∙ length-map (front ++ last ∷ []) (λ l. l.node) ∙ full

    end : (list : List Stop) → All (Right (LeastArc (region_of t)) (is_site (region_of t)) (q - 1)) (list ++ last ∷ []) → Right (LeastArc (region_of t)) (is_site (region_of t)) (q - 1) last
    end [] a = a.0
    end (l ∷ list) a = end list a.1
