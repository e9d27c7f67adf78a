-- The arcs of a taken node, one after the other; a node taken.
use mathlib.Core.Bool.{Bool, true, false, not, cond}
use mathlib.Core.List.{List}
use mathlib.Core.Path.{◌≡◌, refl, sym, ◌∙◌}
use Rattle.std.specs.Prelude.{Option, Some, None}
use Prim.Native.Nat.{ℕ, zero, suc, ◌+◌, ◌-◌, ◌≤◌, ◌<◌}
use native.Mathlib.Decide.{dec_lt}
use native.Mathlib.Omega.{arith}
use borrow.Author.Tests.{eq-eqb, ne_eqb}
use lib.ListN.{length, get_or, set}
use Rattle.meaning.specs.Region.{Tables, region_of}
use Rattle.meaning.specs.Taking.{State, taken, aimed, len_at, lower, looks, relax, relax_to, mark, take1}
use Rattle.meaning.proofs.States.{taken_new}
use Rattle.memory.specs.Region.{Arcs}
use Rattle.taking.specs.declared.Guide.{Guide}
use Rattle.memory.specs.Memory.{place_of}
use Rattle.taking.specs.Ways.{seek, seek_first, seek_next}
use Rattle.taking.specs.Parents.{parent_at, parent_by, parents_to, parents1}
use Rattle.taking.specs.Steps.{Guided, Live, reached, Reached, Relaxed, Closed, Took}
use Rattle.memory.proofs.Places.{place_some, place_none}
use Rattle.taking.proofs.Chaining.{Apart, Met, seek_some, seek_none}
use Rattle.taking.proofs.Closing.{close_live}

-- ---- arcs

-- an arc of u is followed: its head is reached
head_reached : (t : Tables) (u d i : ℕ) (s : State) (from rest w : List ℕ) → get_or t.tails i 0 - 1 ≡ u
    → (let h = get_or t.heads i 0 - 1 in
    let at = suc (d + get_or t.weights i 0) in
    Live t (cond (taken s h) s (reached s h at)) (parent_at (taken s) u at h s.best from) rest w)
    → Live t (record { best = relax (region_of t) (taken s) u d i s.best; order = s.order }) (parent_by (region_of t) (taken s) u d i s.best from) rest w
unfolding relax looks parent_by aimed taken
head_reached t u d i s from rest w e y = rw (eq-eqb (get_or t.tails i 0 - 1) u e) (go (taken s (get_or t.heads i 0 - 1)) y)
  where
    go : (b : Bool)
        → (let h = get_or t.heads i 0 - 1 in
        let at = suc (d + get_or t.weights i 0) in
        Live t (cond b s (reached s h at)) (parent_at (taken s) u at h s.best from) rest w
        → Live t (record { best = cond (not b) (set s.best h (lower (get_or s.best h 0) at)) s.best; order = s.order }) (parent_at (taken s) u at h s.best from) rest w)
    go true y = y
    go false y = y

module _ (t : Tables) (u : ℕ) (w w₁ : List ℕ) (low : (x : ℕ) → x < t.m → 1 ≤ get_or t.tails x 0) where
  -- an arc of another node changes nothing
  relaxed_other : (i : ℕ) → i < t.m → (get_or t.tails i 0 ≡ suc u → ⊥) → Relaxed t u i w w₁ → Relaxed t u (suc i) w w₁
  unfolding relax_to relax looks parents_to parent_by
  relaxed_other i l z r s from rest H k = let p = low i l in rw (ne_eqb (get_or t.tails i 0 - 1) u (λ e. z (omega arith))) (r s from rest H k)

  -- nor do several, from i to before j
  relaxed_past : (i j : ℕ) → i ≤ j → j ≤ t.m → Apart t.tails (suc u) i j → Relaxed t u i w w₁ → Relaxed t u j w w₁
  relaxed_past i zero l h z r = let e : i ≡ 0 = omega arith in rw e at r
  relaxed_past i (suc j) l h z r = go (dec_lt i (suc j)) (λ k. relaxed_past i j k (omega arith) (λ x a b. z x a (omega arith)) r)
    where
      go : Dec (i < suc j) → (i ≤ j → Relaxed t u j w w₁) → Relaxed t u (suc j) w w₁
      go (yes k) f = relaxed_other j h (z j (omega arith) (omega arith)) (f (omega arith))
      go (no k) f = let e : i ≡ suc j = omega arith in rw e at r

-- an arc of u
relaxed_own : (t : Tables) (u i : ℕ) (w w₁ w₂ : List ℕ) → u < t.n → get_or t.tails i 0 ≡ suc u
    → Reached t u (get_or t.heads i 0 - 1) (get_or w u 0 + get_or t.weights i 0) w₁ w₂ → Relaxed t u i w w₁ → Relaxed t u (suc i) w w₂
unfolding relax_to parents_to taken
relaxed_own t u i w w₁ w₂ l e x r s from rest H k =
    let p = H.holds.seen u k in
    let q = H.holds.lens u l in
    let d = len_at s.best u in
    let c : get_or w u 0 + get_or t.weights i 0 ≡ suc (d + get_or t.weights i 0) = omega arith in
    let s₁ : State = record { best = relax_to (region_of t) (taken s) s.best u d i; order = s.order } in
    let from₁ = parents_to (region_of t) (taken s) s.best u d from i in
    head_reached t u d i s₁ from₁ rest w₂ (omega arith) (rw c at (x s₁ from₁ rest (omega arith) (r s from rest H k)))

-- the arcs before arc `passed` have been followed, or are other nodes'; `arc` is the next of u
pub record Following (t : Tables) (u : ℕ) (w w' : List ℕ) (guide guide' : Guide) (arc : Option ℕ) : Type 0 where
  pub passed : ℕ
  pub most : passed ≤ t.m
  pub next : arc ≡ place_of (seek t.tails (suc u) passed (t.m - passed))
  pub size : length w' ≡ length w
  pub guided : Guided t w' guide'
  pub aims : guide'.aims ≡ guide.aims
  pub done : Relaxed t u passed w w'

-- how many of m arcs may still follow
abbrev pub left : ℕ → Option ℕ → ℕ
left m None = 0
left m (Some i) = m - i

pub follow_none : {t : Tables} {u : ℕ} {w : List ℕ} {guide : Guide} {arc : Option ℕ} → Guided t w guide → arc ≡ place_of (seek_first t u) → Following t u w w guide guide arc
unfolding relax_to parents_to
follow_none {t} g e = record {
  passed = 0;
  most = omega arith;
  next = let z : t.m - 0 ≡ t.m = omega arith in rw z e;
  size = refl;
  guided = g;
  aims = refl;
  done = λ s from rest H k. H;
}

module _ {t : Tables} {u : ℕ} {w w₁ : List ℕ} {guide guide₁ : Guide} {arc : Option ℕ} (A : Arcs t) (r : Following t u w w₁ guide guide₁ arc) where
  -- no arc of u is left
  pub follow_all : arc ≡ None → Relaxed t u t.m w w₁
  follow_all e =
      let h = r.most in
      relaxed_past t u w w₁ A.tail_low r.passed t.m h (omega arith)
      (λ x a b. seek_none t.tails (suc u) r.passed (t.m - r.passed) (place_none _ (sym r.next ∙ e)) x a (omega arith)) r.done

  module _ {i : ℕ} (e : arc ≡ Some i) where
    -- the next arc of u
    met : Met t.tails (suc u) r.passed (t.m - r.passed) i
    met = seek_some t.tails (suc u) r.passed (t.m - r.passed) i (place_some _ i (sym r.next ∙ e))

    pub follow_below : i < t.m
    follow_below = omega (arith, met.below, r.most)

    -- a chain goes up
    pub follow_less : (after : Option ℕ) → after ≡ place_of (seek_next t i) → left t.m after < left t.m arc
    follow_less after d = rw e (go after d)
      where
        go : (after : Option ℕ) → after ≡ place_of (seek_next t i) → left t.m after < t.m - i
        go None d = omega (arith, follow_below)
        go (Some j) d =
            let M = seek_some t.tails (get_or t.tails i 0) (suc i) (t.m - suc i) j (place_some _ j (sym d)) in
            omega (arith, follow_below, M.from, M.below)

    pub follow_one : u < t.n → {w₂ : List ℕ} {guide₂ : Guide} (h : ℕ) {after : Option ℕ} → h ≡ get_or t.heads i 0 - 1 → after ≡ place_of (seek_next t i)
        → length w₂ ≡ length w₁ → Guided t w₂ guide₂ → guide₂.aims ≡ guide₁.aims → Reached t u h (get_or w u 0 + get_or t.weights i 0) w₁ w₂ → Following t u w w₂ guide guide₂ after
    follow_one l {w₂} h is d size g a x =
        let M = met in
        let b = follow_below in
        record {
          passed = suc i;
          most = b;
          next = rw M.leaves at d;
          size = size ∙ r.size;
          guided = g;
          aims = a ∙ r.aims;
          done = relaxed_own t u i w w₁ w₂ l M.leaves (rw is at x) (relaxed_past t u w w₁ A.tail_low r.passed i M.from (omega arith) M.apart r.done);
        }

-- ---- a node taken

pub took : (t : Tables) (u : ℕ) (w w₁ w₂ : List ℕ) → Closed t.n u w w₁ → Relaxed t u t.m w₁ w₂ → Took t u w w₂
unfolding take1 parents1
took t u w w₁ w₂ c r s from rest H o = r (mark s u) from rest (close_live t u w w₁ c s from rest H o) (taken_new s u u refl)
