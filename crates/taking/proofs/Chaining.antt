-- A node's arcs in a chain: what a number in it says of the arcs, and how the chains are made, from
-- the last arc down.
use mathlib.Core.List.{List}
use mathlib.Core.Path.{◌≡◌, sym, ◌∙◌}
use Prim.Native.Nat.{ℕ, zero, suc, ◌+◌, ◌-◌, ◌≤◌, ◌<◌}
use native.Mathlib.Decide.{ℕ_discrete}
use native.Mathlib.Numerals.{add-one}
use native.Mathlib.Omega.{arith}
use borrow.Author.Tests.{eq-eqb, ne_eqb}
use lib.ListN.{length, get_or, set, length-set}
use lib.Seq.{get_or-set_same, get_or-set_other}
use Rattle.meaning.specs.Region.{Tables}
use Rattle.memory.specs.Region.{Arcs}
use Rattle.taking.specs.Ways.{seek, seek_next, Unlinked, Linked}

-- none of the arcs from i to before j leaves `number`
abbrev pub Apart : List ℕ → ℕ → ℕ → ℕ → Type 0
Apart tails number i j = (x : ℕ) → i ≤ x → x < j → get_or tails x 0 ≡ number → ⊥

-- j is the first of k arcs from arc i on that leaves `number`
pub record Met (tails : List ℕ) (number i k j : ℕ) : Type 0 where
  pub from : i ≤ j
  pub below : j < i + k
  pub leaves : get_or tails j 0 ≡ number
  pub apart : Apart tails number i j

module _ (tails : List ℕ) (number : ℕ) where
  seek_own : (i k : ℕ) → get_or tails i 0 ≡ number → seek tails number i (suc k) ≡ suc i
  unfolding seek
  seek_own i k e = rw (eq-eqb (get_or tails i 0) number e)

  seek_other : (i k : ℕ) → (get_or tails i 0 ≡ number → ⊥) → seek tails number i (suc k) ≡ seek tails number (suc i) k
  unfolding seek
  seek_other i k z = rw (ne_eqb (get_or tails i 0) number z)

  apart_more : (i j : ℕ) → (get_or tails i 0 ≡ number → ⊥) → Apart tails number (suc i) j → Apart tails number i j
  apart_more i j z a x l h = go (ℕ_discrete x i)
    where
      go : Dec (x ≡ i) → get_or tails x 0 ≡ number → ⊥
      go (yes e) = rw e z
      go (no e) = a x (omega arith) h

  -- what is place_of was found
  pub seek_some : (i k j : ℕ) → seek tails number i k ≡ suc j → Met tails number i k j
  unfolding seek
  seek_some i zero j e = absurd (omega arith)
  seek_some i (suc k) j e = go (ℕ_discrete (get_or tails i 0) number) (seek_some (suc i) k j)
    where
      go : Dec (get_or tails i 0 ≡ number) → (seek tails number (suc i) k ≡ suc j → Met tails number (suc i) k j) → Met tails number i (suc k) j
      go (yes h) f =
          let q : j ≡ i = omega (arith, seek_own i k h) in
          rw q (record { from = omega arith; below = omega arith; leaves = h; apart = λ y a b. absurd (omega arith) })
      go (no h) f =
          let r = f (sym (seek_other i k h) ∙ e) in
          record { from = omega (arith, r.from); below = omega (arith, r.below); leaves = r.leaves; apart = apart_more i j h r.apart }

  -- or not
  pub seek_none : (i k : ℕ) → seek tails number i k ≡ 0 → Apart tails number i (i + k)
  unfolding seek
  seek_none i zero e = λ y a b. absurd (omega arith)
  seek_none i (suc k) e = go (ℕ_discrete (get_or tails i 0) number) (seek_none (suc i) k)
    where
      go : Dec (get_or tails i 0 ≡ number) → (seek tails number (suc i) k ≡ 0 → Apart tails number (suc i) (suc i + k)) → Apart tails number i (i + suc k)
      go (yes h) f = let s = seek_own i k h in absurd (omega arith)
      go (no h) f = apart_more i (i + suc k) h (λ y a b. f (sym (seek_other i k h) ∙ e) y a (omega arith))

-- ---- linking

-- the arcs from `left` on are linked
pub record Linking (t : Tables) (starts nexts : List ℕ) (left : ℕ) : Type 0 where
  pub start_room : t.n ≤ length starts
  pub next_room : t.m ≤ length nexts
  pub first : (v : ℕ) → v < t.n → get_or starts v 0 ≡ seek t.tails (suc v) left (t.m - left)
  pub next : (i : ℕ) → left ≤ i → i < t.m → get_or nexts i 0 ≡ seek_next t i

pub link_none : (t : Tables) (starts nexts : List ℕ) → t.n ≤ length starts → t.m ≤ length nexts → Unlinked t.n starts → Linking t starts nexts t.m
unfolding seek
link_none t starts nexts l h bare = record {
  start_room = l;
  next_room = h;
  first = λ v k. let z : t.m - t.m ≡ 0 = omega arith in rw z (bare v k);
  next = λ i k h. absurd (omega arith);
}

module _ {t : Tables} {starts nexts : List ℕ} where
  -- arc i is put before the chain of its tail
  module _ (i node : ℕ) (l : i < t.m) (is : get_or t.tails i 0 ≡ suc node) (low : node < t.n) (r : Linking t starts nexts (suc i)) where
    link_first : (v : ℕ) → v < t.n → get_or (set starts node (suc i)) v 0 ≡ seek t.tails (suc v) i (suc (t.m - suc i))
    link_first v h = go (ℕ_discrete v node)
      where
        go : Dec (v ≡ node) → get_or (set starts node (suc i)) v 0 ≡ seek t.tails (suc v) i (suc (t.m - suc i))
        go (yes e) = rw (seek_own t.tails (suc v) i (t.m - suc i) (omega arith), e) (get_or-set_same starts node (suc i) 0 (omega (arith, r.start_room)))
        go (no e) = rw (seek_other t.tails (suc v) i (t.m - suc i) (λ z. e (omega arith)), get_or-set_other starts node v (suc i) 0 e) (r.first v h)

    link_next : (x : ℕ) → i ≤ x → x < t.m → get_or (set nexts i (get_or starts node 0)) x 0 ≡ seek_next t x
    link_next x h b = go (ℕ_discrete x i)
      where
        go : Dec (x ≡ i) → get_or (set nexts i (get_or starts node 0)) x 0 ≡ seek_next t x
        go (yes e) = rw (e, is) (get_or-set_same nexts i (get_or starts node 0) 0 (omega (arith, r.next_room)) ∙ r.first node low)
        go (no e) = rw (get_or-set_other nexts i x (get_or starts node 0) 0 e) (r.next x (omega arith) b)

    pub link_one : Linking t (set starts node (suc i)) (set nexts i (get_or starts node 0)) i
    link_one =
        let k : t.m - i ≡ suc (t.m - suc i) = omega arith in
        record {
          start_room = omega (arith, length-set starts node (suc i), r.start_room);
          next_room = omega (arith, length-set nexts i (get_or starts node 0), r.next_room);
          first = λ v h. rw k (link_first v h);
          next = link_next;
        }

  -- as the code has it
  pub link_before : (left : ℕ) → 0 < left → left ≤ t.m → Arcs t → Linking t starts nexts left
      → (let node = get_or t.tails (left - 1) 0 - 1 in Linking t (set starts node (left - 1 + 1)) (set nexts (left - 1) (get_or starts node 0)) (left - 1))
  link_before zero p l A r = absurd (omega arith)
  link_before (suc i) p l A r =
      let e : suc i - 1 ≡ i = omega arith in
      let low = A.tail_low i (omega arith) in
      let high = A.tail_high i (omega arith) in
      rw (e, add-one i) (link_one i (get_or t.tails i 0 - 1) (omega arith) (omega arith) (omega arith) r)

  pub link_all : {left : ℕ} → left ≤ 0 → Linking t starts nexts left → Linked t starts nexts
  link_all {left} l r =
      let e : left ≡ 0 = omega arith in
      record {
        start_room = r.start_room;
        next_room = r.next_room;
        first = λ v h. let z : t.m - 0 ≡ t.m = omega arith in rw (e, z) at (r.first v h);
        next = λ i h. r.next i (omega arith) h;
      }
