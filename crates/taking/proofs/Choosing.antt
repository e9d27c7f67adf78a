-- The open node that goes next: the tree's top, once its estimate is the present one.
use mathlib.Core.Bool.{Bool, true, false, not, ◌&&◌}
use mathlib.Core.List.{List}
use mathlib.Core.Option.{Option as Found, none, some}
use Rattle.std.specs.Prelude.{Some, None}
use mathlib.Core.Path.{◌≡◌, refl, sym, ap, ◌∙◌}
use Prim.Native.Nat.{ℕ, ◌+◌, ◌≤◌, ◌<◌}
use native.Mathlib.Omega.{arith}
use borrow.Author.Tests.{eq-eqb, ne_eqb, lt-ltb}
use lib.Dec.{T, eqb, ltb}
use lib.ListN.{length, get_or, set}
use lib.Seq.{get_or-set_same, get_or-set_other}
use Rattle.meaning.specs.Scan.{first}
use Rattle.meaning.specs.Region.{Tables, region_of, is_site}
use Rattle.meaning.specs.Taking.{State, is_open, aimed, key_in, choose}
use Rattle.meaning.specs.Search.{aim_of}
use Rattle.meaning.proofs.Counting.{count, count_more}
use Rattle.meaning.proofs.Scans.{First, IsFirst, first_is}
use Rattle.memory.specs.Memory.{rival_of, is_taken, key_at, next_of}
use Rattle.memory.specs.Aim.{Ground, SameTaken}
use Rattle.memory.specs.Tree.{open_at}
use Rattle.memory.proofs.Holds.{rival_is, open_is, key_is}
use Rattle.memory.proofs.Lines.{line_is}
use Rattle.memory.proofs.Writes.{line_with, held_aim}
use Rattle.taking.specs.declared.Guide.{Guide}
use Rattle.taking.specs.Steps.{Guided, Live, rival_at, Aiming, Stays}
use Rattle.taking.proofs.Reaching.{rival_not_taken, with_present, with_same}

-- ---- what a scan found

module _ (ok : ℕ → Bool) (k : ℕ → ℕ) (n : ℕ) where
  found_node : (o : Found ℕ) → IsFirst ok k n o → (v : ℕ) → Some v ≡ next_of o → First ok k n v
  found_node none h v e = let z : ◌≡◌ {A = ℕ} 0 1 = cc in absurd (omega arith)
  found_node (some u) h v e = let q : v ≡ u = cc in rw q h

  found_none : (o : Found ℕ) → IsFirst ok k n o → None ≡ next_of o → (u : ℕ) → u < n → T (ok u) → ⊥
  found_none none h e = h
  found_none (some v) h e = let z : ◌≡◌ {A = ℕ} 0 1 = cc in absurd (omega arith)

  node_found : (o : Found ℕ) → IsFirst ok k n o → (v : ℕ) → First ok k n v → Some v ≡ next_of o
  node_found none h v F = absurd (h v F.below F.holds)
  node_found (some u) h v F =
      let a = F.lower u h.below h.holds (h.least v F.below F.holds) in
      let b = h.lower v F.below F.holds (F.least u h.below h.holds) in
      let e : v ≡ u = omega arith in
      ap Some e

  none_found : (o : Found ℕ) → IsFirst ok k n o → ((u : ℕ) → u < n → T (ok u) → ⊥) → None ≡ next_of o
  none_found none h z = refl
  none_found (some v) h z = absurd (z v h.below h.holds)

-- who stands at the top, as a scan
pub top_is : (n : ℕ) (w : List ℕ) (v : ℕ) → Some v ≡ next_of (first (open_at n w) (key_at n w) n) → First (open_at n w) (key_at n w) n v
top_is n w v e = found_node (open_at n w) (key_at n w) n (first (open_at n w) (key_at n w) n) (first_is (open_at n w) (key_at n w) n) v e

-- an open node has not been taken
pub open_not_taken : (n : ℕ) (w : List ℕ) (v : ℕ) → T (open_at n w v) → is_taken n w v ≡ false
open_not_taken n w v o = rival_not_taken n v w (λ e. rw (eq-eqb (get_or w (n + v) 0) 0 e) at o)

-- ---- in a state that the memory holds

-- what would be held of v now
present : (t : Tables) → Ground t → {s : State} {from rest w : List ℕ} → Live t s from rest w
    → (v : ℕ) → rival_at t w v ≡ rival_of (aim_of t (aimed (region_of t) s) v) (is_site (region_of t) v)
unfolding is_site
present t g L v = rw (line_is t g L.holds v)

-- whether node v is held otherwise
abbrev pub stale : Tables → List ℕ → ℕ → Bool
stale t w v = ltb v t.n && not (eqb (get_or w (t.n + v) 0) (rival_at t w v))

module _ (t : Tables) (g : Ground t) {s : State} {from rest w : List ℕ} (L : Live t s from rest w) where
  abbrev aim : ℕ → ℕ
  aim = aim_of t (aimed (region_of t) s)

  open_here : (v : ℕ) → v < t.n → T (open_at t.n w v) → T (is_open s v)
  open_here v l o = rw (← (open_is L.holds v l)) o

  -- nobody stands at the top
  pub chosen_none : None ≡ next_of (first (open_at t.n w) (key_at t.n w) t.n) → None ≡ next_of (choose (region_of t) (aim_of t) s)
  unfolding choose
  chosen_none e =
      none_found (is_open s) (key_in (region_of t) (aim_of t) s) t.n (first (is_open s) (key_in (region_of t) (aim_of t) s) t.n) (first_is (is_open s) (key_in (region_of t) (aim_of t) s) t.n)
      (λ u l o. found_none (open_at t.n w) (key_at t.n w) t.n (first (open_at t.n w) (key_at t.n w) t.n) (first_is (open_at t.n w) (key_at t.n w) t.n) e u l (rw (open_is L.holds u l) o))

  module _ (v : ℕ) (F : First (open_at t.n w) (key_at t.n w) t.n v) where
    -- v stands there with its present estimate: no other node has a lower total, for none has a
    -- lower one under an estimate that is no higher
    pub chosen_node : (j : ℕ) → T (aimed (region_of t) s j) → get_or w (t.n + v) 0 ≡ rival_at t w v → Some v ≡ next_of (choose (region_of t) (aim_of t) s)
    unfolding choose
    chosen_node j m e =
        node_found (is_open s) (key_in (region_of t) (aim_of t) s) t.n (first (is_open s) (key_in (region_of t) (aim_of t) s) t.n) (first_is (is_open s) (key_in (region_of t) (aim_of t) s) t.n) v
        (record {
          below = F.below;
          holds = open_here v F.below F.holds;
          least = λ u l o. let a = F.least u l (closed_not u l o) in let b = rises u l o in let c = same in omega arith;
          lower = λ u l o k. let b = rises u l o in let c = same in F.lower u l (closed_not u l o) (omega arith);
        })
      where
        closed_not : (u : ℕ) → u < t.n → T (is_open s u) → T (open_at t.n w u)
        closed_not u l o = rw (open_is L.holds u l) o

        rises : (u : ℕ) → u < t.n → T (is_open s u) → key_at t.n w u ≤ key_in (region_of t) (aim_of t) s u
        rises u l o = let a = L.low j m u in rw (key_is L.holds u l o) (omega arith)

        exact : L.line v ≡ aim v
        exact =
            let a = rival_is L.holds v F.below (open_here v F.below F.holds) in
            let b = present t g L v in
            omega arith

        same : key_at t.n w v ≡ key_in (region_of t) (aim_of t) s v
        same = rw (key_is L.holds v F.below (open_here v F.below F.holds), exact)

    -- all sites are left, so every node stands with its present estimate
    pub chosen_exact : ((j : ℕ) → T (is_site (region_of t) j) → T (aimed (region_of t) s j)) → Some v ≡ next_of (choose (region_of t) (aim_of t) s)
    unfolding choose
    chosen_exact a =
        node_found (is_open s) (key_in (region_of t) (aim_of t) s) t.n (first (is_open s) (key_in (region_of t) (aim_of t) s) t.n) (first_is (is_open s) (key_in (region_of t) (aim_of t) s) t.n) v
        (record {
          below = F.below;
          holds = open_here v F.below F.holds;
          least = λ u l o. let b = F.least u l (rw (open_is L.holds u l) o) in let c = same u l o in let d = same v F.below (open_here v F.below F.holds) in omega arith;
          lower = λ u l o k. let c = same u l o in let d = same v F.below (open_here v F.below F.holds) in F.lower u l (rw (open_is L.holds u l) o) (omega arith);
        })
      where
        same : (u : ℕ) → u < t.n → T (is_open s u) → key_at t.n w u ≡ key_in (region_of t) (aim_of t) s u
        same u l o = rw (key_is L.holds u l o, L.exact a u)

    -- its estimate has risen, and is stored
    module _ {w' : List ℕ} (e : w' ≡ set w (t.n + v) (rival_at t w v)) where
      here : get_or w' (t.n + v) 0 ≡ rival_at t w v
      here = let l = F.below in rw e (get_or-set_same w (t.n + v) (rival_at t w v) 0 (omega (arith, L.holds.room)))

      pub raised : Live t s from rest w'
      raised = record {
        line = line_with L.line v (aim v);
        holds = rw (e, present t g L v) (held_aim L.holds v F.below (open_here v F.below F.holds) (aim v));
        low = λ j m x. with_present L.line aim v x (L.low j m x);
        exact = λ a x. with_same L.line aim v x (L.exact a x);
      }

      -- so one node fewer is held otherwise
      pub fewer : (get_or w (t.n + v) 0 ≡ rival_at t w v → ⊥) → count (stale t w') t.n < count (stale t w) t.n
      fewer z = let c = count_more (stale t w') (stale t w) v t.n F.below after before other in omega arith
        where
          same : (x : ℕ) → rival_at t w' x ≡ rival_at t w x
          same x = present t g raised x ∙ sym (present t g L x)

          after : stale t w' v ≡ false
          after = rw (lt-ltb v t.n F.below, eq-eqb (get_or w' (t.n + v) 0) (rival_at t w' v) (here ∙ sym (same v)))

          before : stale t w v ≡ true
          before = rw (lt-ltb v t.n F.below, ne_eqb (get_or w (t.n + v) 0) (rival_at t w v) z)

          other : (x : ℕ) → (x ≡ v → ⊥) → stale t w x ≡ stale t w' x
          other x d =
              let h : get_or w' (t.n + x) 0 ≡ get_or w (t.n + x) 0 = rw e (get_or-set_other w (t.n + v) (t.n + x) (rival_at t w v) 0 (λ e. d (omega arith))) in
              rw (h, same x)

-- ---- the loop

-- estimates have been stored, and the same state is held; the sites stand where they stood
pub record Keeping (t : Tables) (w₀ w : List ℕ) (guide₀ guide : Guide) : Type 0 where
  pub size : length w ≡ length w₀
  pub guided : Guided t w guide
  pub aims : guide.aims ≡ guide₀.aims
  pub same : SameTaken t.n w₀ w
  pub stays : Stays t w₀ w

pub held : (t : Tables) {w₀ w : List ℕ} {guide₀ guide : Guide} (A : Aiming t w₀) → Keeping t w₀ w guide₀ guide → Live t A.state A.from A.rest w
held t A K = K.stays A.state A.from A.rest A.left A.aims A.live
