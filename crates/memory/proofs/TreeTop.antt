-- At the top of the tree stands the open node that goes next.
use mathlib.Core.Bool.{Bool, true, false, cond}
use mathlib.Core.List.{List}
use mathlib.Core.Logic.{◌⊎◌, inl, inr, ⊎_elim}
use mathlib.Core.Option.{Option, none, some}
use Rattle.std.specs.Prelude.{Some, None}
use mathlib.Core.Path.{◌≡◌, refl, sym, ap, ◌∙◌}
use Prim.Native.Nat.{ℕ, zero, suc, ◌+◌, ◌-◌, ◌*◌, ◌/◌, ◌%◌, ◌≤◌, ◌<◌, max}
use native.Mathlib.Decide.{dec_lt, ℕ_discrete}
use native.Mathlib.Omega.{arith}
use lib.Dec.{T}
use lib.ListN.{get_or}
use Rattle.meaning.specs.Limits.{base}
use Rattle.meaning.specs.Scan.{first}
use Rattle.meaning.proofs.Bools.{T_true, true_T}
use Rattle.meaning.proofs.Scans.{IsFirst, first_is}
use Rattle.memory.specs.Memory.{key_at, next_of}
use Rattle.memory.specs.Tree.{keys, numbers, open_at, rank_of, Tree}

max_either : (a b : ℕ) → (max a b ≡ a) ⊎ (max a b ≡ b)
max_either a b = go (dec_lt a b)
  where
    go : Dec (a < b) → (max a b ≡ a) ⊎ (max a b ≡ b)
    go (yes l) = inr (omega arith)
    go (no l) = inl (omega arith)

-- ranks order by key and then by number
abbrev rank : ℕ → ℕ → ℕ
rank k v = (keys - k) * numbers + (numbers - 1 - v)

-- v is first by key and then by number, and no more by rank: then x is v
rank_first : (k v l x : ℕ) → k < keys → v < numbers → x < numbers → k ≤ l → (l ≤ k → v ≤ x) → rank k v ≤ rank l x → x ≡ v
rank_first k v l x a b c d f h = let e : l ≤ k = omega arith in let g = f e in omega arith

rank_number : (k v : ℕ) → v < numbers → numbers - 1 - rank k v % numbers ≡ v
rank_number k v b = omega arith

module _ {n : ℕ} {w t : List ℕ} (I : Tree n w t) where
  -- the nearer the top, the more
  up_one : (i : ℕ) → 1 < i → i < n + n → get_or t i 0 ≤ get_or t (i / 2) 0
  up_one i l h = go (ℕ_discrete (i % 2) 0)
    where
      s : get_or t (i / 2) 0 ≡ max (get_or t (2 * (i / 2)) 0) (get_or t (2 * (i / 2) + 1) 0)
      s = I.settled (i / 2) (omega arith) (omega arith)

      go : Dec (i % 2 ≡ 0) → get_or t i 0 ≤ get_or t (i / 2) 0
      go (yes z) = let e : 2 * (i / 2) ≡ i = omega arith in let r = rw e at s in omega arith
      go (no z) = let e : 2 * (i / 2) + 1 ≡ i = omega arith in let r = rw e at s in omega arith

  -- f bounds the place
  climb : (f i : ℕ) → i ≤ f → 1 ≤ i → i < n + n → get_or t i 0 ≤ get_or t 1 0
  climb zero i l p h = absurd (omega arith)
  climb (suc f) i l p h = go (dec_lt 1 i) (climb f (i / 2))
    where
      go : Dec (1 < i) → (i / 2 ≤ f → 1 ≤ i / 2 → i / 2 < n + n → get_or t (i / 2) 0 ≤ get_or t 1 0) → get_or t i 0 ≤ get_or t 1 0
      go (yes z) ih = let a = up_one i z h in let b = ih (omega arith) (omega arith) (omega arith) in omega arith
      go (no z) ih = let e : i ≡ 1 = omega arith in rw e (omega arith)

  -- what stands at a place comes from a leaf; f bounds how far below
  abbrev Leaf : ℕ → Type 0
  Leaf j = (x : ℕ) × (x < n) × (get_or t j 0 ≡ rank_of n w x)

  from_leaf : (f j : ℕ) → n + n ≤ j + f → 1 ≤ j → j < n + n → Leaf j
  from_leaf zero j l p h = absurd (omega arith)
  from_leaf (suc f) j l p h = go (dec_lt j n) (from_leaf f (2 * j)) (from_leaf f (2 * j + 1))
    where
      go : Dec (j < n) → (n + n ≤ 2 * j + f → 1 ≤ 2 * j → 2 * j < n + n → Leaf (2 * j))
          → (n + n ≤ 2 * j + 1 + f → 1 ≤ 2 * j + 1 → 2 * j + 1 < n + n → Leaf (2 * j + 1)) → Leaf j
      go (yes z) a b =
          ⊎_elim
          (λ e. let q = a (omega arith) (omega arith) (omega arith) in (q.0, q.1, I.settled j p z ∙ e ∙ q.2))
          (λ e. let q = b (omega arith) (omega arith) (omega arith) in (q.0, q.1, I.settled j p z ∙ e ∙ q.2))
          (max_either (get_or t (2 * j) 0) (get_or t (2 * j + 1) 0))
      go (no z) a b = let e : n + (j - n) ≡ j = omega arith in (j - n, omega arith, ap (λ a. get_or t a 0) (sym e) ∙ I.leaves (j - n) (omega arith))

  rank_open : (v : ℕ) → T (open_at n w v) → rank_of n w v ≡ rank (key_at n w v) v
  rank_open v o = rw (T_true (open_at n w v) o)

  above_none : (v : ℕ) → 0 < rank_of n w v → T (open_at n w v)
  above_none v l = go (open_at n w v) refl l
    where
      go : (b : Bool) → open_at n w v ≡ b → 0 < cond b (rank (key_at n w v) v) 0 → T (open_at n w v)
      go true e h = true_T (open_at n w v) e
      go false e h = absurd (omega arith)

  module _ (l : 1 ≤ n) (m : n ≤ base.nodes) where
    -- the open node v has no more than what stands at the top
    top_least : (v : ℕ) → v < n → T (open_at n w v) → rank (key_at n w v) v ≤ get_or t 1 0
    top_least v h o = let c = climb (n + v) (n + v) (omega arith) (omega arith) (omega arith) in let e = I.leaves v h ∙ rank_open v o in omega arith

    pub top_none : get_or t 1 0 ≡ 0 → None ≡ next_of (first (open_at n w) (key_at n w) n)
    top_none z = go (first (open_at n w) (key_at n w) n) (first_is (open_at n w) (key_at n w) n)
      where
        go : (o : Option ℕ) → IsFirst (open_at n w) (key_at n w) n o → None ≡ next_of o
        go none h = refl
        go (some v) h =
            let k = I.near v h.below h.holds in
            let c = top_least v h.below h.holds in
            absurd (omega arith)

    pub top_node : (get_or t 1 0 ≡ 0 → ⊥) → Some (numbers - 1 - get_or t 1 0 % numbers) ≡ next_of (first (open_at n w) (key_at n w) n)
    top_node z = go (from_leaf (n + n) 1 (omega arith) (omega arith) (omega arith)) (first (open_at n w) (key_at n w) n) (first_is (open_at n w) (key_at n w) n)
      where
        go : Leaf 1 → (o : Option ℕ) → IsFirst (open_at n w) (key_at n w) n o → Some (numbers - 1 - get_or t 1 0 % numbers) ≡ next_of o
        go (x, p, e) none h = absurd (h x p (above_none x (omega arith)))
        go (x, p, e) (some v) h =
            let b = h.below in
            let o = above_none x (omega arith) in
            let r = e ∙ rank_open x o in
            let c : rank (key_at n w v) v ≤ rank (key_at n w x) x = rw r at (top_least v b h.holds) in
            let i = rank_first _ v _ x (I.near v b h.holds) (omega arith) (omega arith) (h.least x p o) (h.lower x p o) c in
            ap Some (rw r (rank_number (key_at n w x) x (omega arith)) ∙ i)
