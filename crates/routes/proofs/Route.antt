-- A route is written from its last node to its first.
use mathlib.Core.List.{List, [], ◌∷◌, map}
use mathlib.Core.Path.{◌≡◌, refl, ap, ◌∙◌}
use Prim.Native.Nat.{ℕ, zero, suc, ◌+◌, ◌-◌, ◌≤◌, ◌<◌}
use native.Mathlib.Numerals.{add-one}
use native.Mathlib.Omega.{arith}
use lib.ListN.{length, get_or, set}
use lib.Seq.{sets, length-sets}
use Rattle.std.specs.Prelude.{unwrap_or}
use Rattle.memory.specs.Memory.{place_of}
use Rattle.routes.specs.Trace.{way_in, Linked}
use Rattle.routes.proofs.Stores.{sets_front}
use Rattle.routes.proofs.Ways.{way_most, Walked, Goes, walked_start, walked_high, walked_longer, walked_ends, walked_on}

-- the nodes behind have been written, from entry `place` to before `end`; at `at` it is the route
pub record Filled (n : ℕ) (w r₀ : List ℕ) (v at end : ℕ) (r : List ℕ) (here place : ℕ) : Type 0 where
  pub low : at ≤ place
  pub high : place ≤ end
  pub end_is : end ≡ at + length (way_in n w v)
  pub inside : here < n
  pub way : List ℕ
  pub walked : at < place → Walked n w v here (suc end - place) way
  pub whole : place ≤ at → way_in n w v ≡ way
  pub routes_are : r ≡ sets r₀ place (map suc way)

pub filled_start : {n : ℕ} {w r₀ : List ℕ} {v at end : ℕ} → Linked n w → v < n → end ≡ at + length (way_in n w v) → Filled n w r₀ v at end r₀ v end
filled_start {n} {w} {r₀} {v} {at} {end} m l e =
    let k = walked_start m l in
    let d : suc end - end ≡ 1 = omega arith in
    record {
      low = omega arith;
      high = omega arith;
      end_is = e;
      inside = l;
      way = [];
      walked = λ h. rw d k;
      whole = λ h. absurd (omega (arith, walked_high k));
      routes_are = refl;
    }

module _ {n : ℕ} {w r₀ : List ℕ} {v at end : ℕ} {r : List ℕ} {here place : ℕ} (k : Filled n w r₀ v at end r here place) where
  pub filled_size : length r ≡ length r₀
  filled_size = ap length k.routes_are ∙ length-sets r₀ place (map suc k.way)

  pub filled_most : Linked n w → end ≤ at + n
  filled_most m = omega (arith, k.end_is, way_most n w v m.one)

  -- one node more
  put : (i : ℕ) → suc i ≡ place → set r i (here + 1) ≡ sets r₀ i (map suc (here ∷ k.way))
  put i e = rw (k.routes_are, ← e, add-one) (sets_front r₀ i (suc here) (map suc k.way))

  module _ (m : Linked n w) (i : ℕ) (e : suc i ≡ place) (l : at ≤ i) where
    -- while the route is longer, a node comes before
    on : at < i → Walked n w v (unwrap_or (place_of (get_or w (n + n + here) 0)) here) (suc end - i) (here ∷ k.way)
    on h =
        let j = k.walked (omega arith) in
        go (get_or w (n + n + here) 0) refl j (walked_longer j (omega (arith, k.high, k.end_is)))
      where
        go : (x : ℕ) → get_or w (n + n + here) 0 ≡ x → (j : Walked n w v here (suc end - place) k.way) → Goes n w j.left here k.way
            → Walked n w v (unwrap_or (place_of x) here) (suc end - i) (here ∷ k.way)
        go zero z j g = absurd (omega (arith, g.given))
        go (suc u) z j g = let s : suc end - place + 1 ≡ suc end - i = omega (arith, k.high) in rw s at (walked_on j m g u z)

    pub filled_on : (next : ℕ) → next ≡ unwrap_or (place_of (get_or w (n + n + here) 0)) here → Filled n w r₀ v at end (set r i (here + 1)) next i
    filled_on next is = rw is record {
      low = l;
      high = omega (arith, k.high);
      end_is = k.end_is;
      inside = go (get_or w (n + n + here) 0) (m.back here k.inside);
      way = here ∷ k.way;
      walked = on;
      whole = λ h. walked_ends (k.walked (omega arith)) (omega (arith, k.low, k.end_is));
      routes_are = put i e;
    }
      where
        go : (x : ℕ) → x ≤ n → unwrap_or (place_of x) here < n
        go zero h = k.inside
        go (suc u) h = omega arith
