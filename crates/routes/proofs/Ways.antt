-- The way back from a node, while it is walked.
use mathlib.Core.Bool.{Bool, true, false, cond}
use mathlib.Core.List.{List, [], ◌∷◌}
use mathlib.Core.Logic.{◌⊎◌, inl, inr, ⊎_elim}
use mathlib.Core.Path.{◌≡◌, refl, ap, sym, ◌∙◌}
use Prim.Native.Nat.{ℕ, zero, suc, ◌+◌, ◌-◌, ◌≤◌, ◌<◌}
use native.Mathlib.Omega.{arith}
use lib.Dec.{eqb}
use lib.ListN.{length, get_or}
use borrow.Author.Tests.{eqb-true, eqb-false}
use Rattle.routes.specs.Trace.{way_back, way_in, Linked}

-- at node v the way ends, or it goes on
pub record Ends (n : ℕ) (w : List ℕ) (f v : ℕ) (way : List ℕ) : Type 0 where
  pub none : 0 < f → 1 ≤ get_or w (n + n + v) 0 → ⊥
  pub same : way_back n w f v way ≡ v ∷ way

pub record Goes (n : ℕ) (w : List ℕ) (f v : ℕ) (way : List ℕ) : Type 0 where
  pub left : ℕ
  pub fuel : f ≡ suc left
  pub given : 1 ≤ get_or w (n + n + v) 0
  pub same : way_back n w f v way ≡ way_back n w left (get_or w (n + n + v) 0 - 1) (v ∷ way)

ends_or_goes : (n : ℕ) (w : List ℕ) (f v : ℕ) (way : List ℕ) → Ends n w f v way ⊎ Goes n w f v way
unfolding way_back
ends_or_goes n w zero v way = inl record { none = λ a b. omega arith; same = refl }
ends_or_goes n w (suc f) v way = go (eqb (get_or w (n + n + v) 0) 0) refl
  where
    go : (b : Bool) → eqb (get_or w (n + n + v) 0) 0 ≡ b → Ends n w (suc f) v way ⊎ Goes n w (suc f) v way
    go true e = inl record { none = λ a b. omega (arith, eqb-true (get_or w (n + n + v) 0) 0 e); same = rw e }
    go false e = inr record { left = f; fuel = refl; given = omega (arith, eqb-false (get_or w (n + n + v) 0) 0 e); same = rw e }

-- the way has one node at least, and one for each step at most
way_size : (n : ℕ) (w : List ℕ) (f v : ℕ) (way : List ℕ) → (length way < length (way_back n w f v way)) × (length (way_back n w f v way) ≤ length way + suc f)
unfolding way_back
way_size n w zero v way = omega arith
way_size n w (suc f) v way = go (eqb (get_or w (n + n + v) 0) 0) (way_back n w f (get_or w (n + n + v) 0 - 1) (v ∷ way)) (way_size n w f (get_or w (n + n + v) 0 - 1) (v ∷ way))
  where
    go : (b : Bool) (l : List ℕ) → (length (v ∷ way) < length l) × (length l ≤ length (v ∷ way) + suc f)
        → (length way < length (cond b (v ∷ way) l)) × (length (cond b (v ∷ way) l) ≤ length way + suc (suc f))
    go true l h = omega arith
    go false l h = omega arith

pub way_most : (n : ℕ) (w : List ℕ) (v : ℕ) → 1 ≤ n → length (way_in n w v) ≤ n
unfolding way_in
way_most n w v one = omega (arith, way_size n w (n - 1) v [])

-- `done` nodes of the route to v are behind, `here` and the way from it
pub record Walked (n : ℕ) (w : List ℕ) (v here done : ℕ) (way : List ℕ) : Type 0 where
  pub inside : here < n
  pub left : ℕ
  pub sum : done + left ≡ n
  pub size : suc (length way) ≡ done
  pub whole : way_back n w left here way ≡ way_in n w v

pub walked_start : {n : ℕ} {w : List ℕ} {v : ℕ} → Linked n w → v < n → Walked n w v v 1 []
unfolding way_in
walked_start {n} k l = record { inside = l; left = n - 1; sum = omega (arith, k.one); size = refl; whole = refl }

module _ {n : ℕ} {w : List ℕ} {v here done : ℕ} {way : List ℕ} (k : Walked n w v here done way) where
  turn : Ends n w k.left here way ⊎ Goes n w k.left here way
  turn = ends_or_goes n w k.left here way

  pub walked_high : done ≤ length (way_in n w v)
  walked_high = omega (arith, k.size, way_size n w k.left here way, ap length k.whole)

  high_on : Goes n w k.left here way → done < length (way_in n w v)
  high_on g = omega (arith, k.size, way_size n w g.left (get_or w (n + n + here) 0 - 1) (here ∷ way), ap length g.same, ap length k.whole)

  -- while a node comes before and steps are left, or the route is longer, it goes on
  pub walked_more : done < n → 1 ≤ get_or w (n + n + here) 0 → Goes n w k.left here way
  walked_more l m = ⊎_elim (λ e. absurd (e.none (omega (arith, k.sum)) m)) (λ g. g) turn

  pub walked_longer : done < length (way_in n w v) → Goes n w k.left here way
  walked_longer l = ⊎_elim (λ e. absurd (short e.same)) (λ g. g) turn
    where
      short : way_back n w k.left here way ≡ here ∷ way → ⊥
      short e = omega (arith, k.size, ap length e, ap length k.whole)

  -- otherwise it has been walked
  walked_all : (Goes n w k.left here way → ⊥) → way_in n w v ≡ here ∷ way
  walked_all h = ⊎_elim (λ e. sym k.whole ∙ e.same) (λ g. absurd (h g)) turn

  pub walked_ends : length (way_in n w v) ≤ done → way_in n w v ≡ here ∷ way
  walked_ends l = walked_all (λ g. omega (arith, high_on g))

  pub walked_size : (Goes n w k.left here way → ⊥) → done ≡ length (way_in n w v)
  walked_size h = sym k.size ∙ sym (ap length (walked_all h))

  pub walked_on : Linked n w → Goes n w k.left here way → (u : ℕ) → get_or w (n + n + here) 0 ≡ suc u → Walked n w v u (done + 1) (here ∷ way)
  walked_on m g u e =
      let i : u ≡ get_or w (n + n + here) 0 - 1 = omega arith in
      rw i record {
        inside = omega (arith, m.back here k.inside, g.given);
        left = g.left;
        sum = omega (arith, k.sum, g.fuel);
        size = omega (arith, k.size);
        whole = sym g.same ∙ k.whole;
      }
