-- The places above a leaf that was written are settled anew.
use mathlib.Core.List.{List}
use mathlib.Core.Path.{◌≡◌, refl, ◌∙◌}
use Prim.Native.Nat.{ℕ, ◌+◌, ◌*◌, ◌/◌, ◌≤◌, ◌<◌, max}
use native.Mathlib.Decide.{ℕ_discrete}
use native.Mathlib.Omega.{arith}
use lib.Dec.{T}
use lib.ListN.{length, get_or, set, length-set}
use lib.Seq.{get_or-set_same, get_or-set_other}
use Rattle.memory.specs.Memory.{key_at}
use Rattle.memory.specs.Tree.{keys, open_at, rank_of, Tree, But, Ranked}

-- the tree but for the place above i, as long as t₀
pub record Going (n : ℕ) (w t₀ : List ℕ) (i : ℕ) (t : List ℕ) : Type 0 where
  pub size : length t ≡ length t₀
  pub room : n + n ≤ length t
  pub low : 1 ≤ i
  pub high : i < n + n
  pub near : (x : ℕ) → x < n → T (open_at n w x) → key_at n w x < keys
  pub leaves : (x : ℕ) → x < n → get_or t (n + x) 0 ≡ rank_of n w x
  pub settled : (j : ℕ) → 1 ≤ j → j < n → (j ≡ i / 2 → ⊥) → get_or t j 0 ≡ max (get_or t (2 * j) 0) (get_or t (2 * j + 1) 0)

pub going_starts : {n v r : ℕ} {w t : List ℕ} → But n w v t → Ranked n w v r → v < n → Going n w (set t (n + v) r) (n + v) (set t (n + v) r)
going_starts {n} {v} {r} {w} {t} B R l = record {
  size = refl;
  room = rw length-set B.room;
  low = omega arith;
  high = omega arith;
  near = λ x h. near x h (ℕ_discrete x v);
  leaves = λ x h. leaves x h (ℕ_discrete x v);
  settled = λ j p h z. rw (other j (λ e. omega arith), other (2 * j) (λ e. z (omega arith)), other (2 * j + 1) (λ e. z (omega arith))) (B.settled j p h);
}
  where
    other : (j : ℕ) → (j ≡ n + v → ⊥) → get_or (set t (n + v) r) j 0 ≡ get_or t j 0
    other j = get_or-set_other t (n + v) j r 0

    near : (x : ℕ) → x < n → Dec (x ≡ v) → T (open_at n w x) → key_at n w x < keys
    near x h (yes e) = rw e R.near
    near x h (no z) = B.near x h z

    leaves : (x : ℕ) → x < n → Dec (x ≡ v) → get_or (set t (n + v) r) (n + x) 0 ≡ rank_of n w x
    leaves x h (yes e) = rw e (get_or-set_same t (n + v) r 0 (omega (arith, B.room)) ∙ R.is)
    leaves x h (no z) = other (n + x) (λ e. z (omega arith)) ∙ B.leaves x h z

-- at the place above i goes the larger of the two below it
module _ {n i best : ℕ} {w t₀ t : List ℕ} (G : Going n w t₀ i t) (p : 1 < i) (b : best ≡ max (get_or t (i / 2 + i / 2) 0) (get_or t (i / 2 + i / 2 + 1) 0)) where
  above : i / 2 < n
  above = omega (arith, G.high)

  best_is : best ≡ max (get_or t (2 * (i / 2)) 0) (get_or t (2 * (i / 2) + 1) 0)
  best_is = let e : i / 2 + i / 2 ≡ 2 * (i / 2) = omega arith in rw e at b

  pub going_on : Going n w t₀ (i / 2) (set t (i / 2) best)
  going_on = record {
    size = length-set t (i / 2) best ∙ G.size;
    room = rw length-set G.room;
    low = omega arith;
    high = omega (arith, above);
    near = G.near;
    leaves = λ x h. other (n + x) (λ e. omega (arith, above)) ∙ G.leaves x h;
    settled = λ j q h z. settled j q h z (ℕ_discrete j (i / 2));
  }
    where
      other : (j : ℕ) → (j ≡ i / 2 → ⊥) → get_or (set t (i / 2) best) j 0 ≡ get_or t j 0
      other j = get_or-set_other t (i / 2) j best 0

      settled : (j : ℕ) → 1 ≤ j → j < n → (j ≡ i / 2 / 2 → ⊥) → Dec (j ≡ i / 2)
          → get_or (set t (i / 2) best) j 0 ≡ max (get_or (set t (i / 2) best) (2 * j) 0) (get_or (set t (i / 2) best) (2 * j + 1) 0)
      settled j q h z (yes e) =
          rw (other (2 * j) (λ d. omega arith), other (2 * j + 1) (λ d. omega arith), e)
          (get_or-set_same t (i / 2) best 0 (omega (arith, above, G.room)) ∙ best_is)
      settled j q h z (no d) =
          rw (other j d, other (2 * j) (λ e. z (omega arith)), other (2 * j + 1) (λ e. z (omega arith))) (G.settled j q h d)

  -- it stood there before: then the places above are settled too
  pub going_stops : get_or t (i / 2) 0 ≡ best → Tree n w t
  going_stops e = record { room = G.room; near = G.near; leaves = G.leaves; settled = λ j q h. settled j q h (ℕ_discrete j (i / 2)) }
    where
      settled : (j : ℕ) → 1 ≤ j → j < n → Dec (j ≡ i / 2) → get_or t j 0 ≡ max (get_or t (2 * j) 0) (get_or t (2 * j + 1) 0)
      settled j q h (yes d) = rw d (e ∙ best_is)
      settled j q h (no d) = G.settled j q h d

-- nothing is above the top
pub going_top : {n i : ℕ} {w t₀ t : List ℕ} → Going n w t₀ i t → i ≤ 1 → Tree n w t
going_top G l = record { room = G.room; near = G.near; leaves = G.leaves; settled = λ j q h. G.settled j q h (λ e. omega arith) }
