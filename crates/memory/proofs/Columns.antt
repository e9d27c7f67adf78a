-- The sites side by side: as they are gathered, and while nodes are opened and taken.
use mathlib.Core.Bool.{Bool, true, false, cond, ◌||◌}
use mathlib.Core.List.{List}
use mathlib.Core.Path.{◌≡◌, refl, sym, ap, ◌∙◌}
use Prim.Native.Nat.{ℕ, ◌+◌, ◌≤◌, ◌<◌}
use native.Mathlib.Decide.{dec_lt}
use native.Mathlib.Omega.{arith}
use borrow.Author.Tests.{eq-eqb, ne_eqb}
use lib.Dec.{T, eqb}
use lib.IntN.{ℤ, pos}
use lib.ListN.{length, get_or, set, length-set}
use lib.Seq.{get_or-set_same, get_or-set_other}
use Rattle.meaning.specs.Region.{Tables, x_at}
use Rattle.meaning.proofs.Scans.{any_of}
use Rattle.straight.specs.Points.{entry}
use Rattle.memory.specs.Memory.{is_taken}
use Rattle.memory.specs.Aim.{Ground, SideBySide, NoneTaken, SameTaken, Forgotten, node_of, site_in, far_off}

-- ---- one column, as it is gathered

-- the first j sites' entries stand in a, which is as long as a₀
pub record Gathered (t : Tables) (column : List ℤ) (j : ℕ) (a₀ a : List ℤ) : Type 0 where
  pub size : length a ≡ length a₀
  pub along : (i : ℕ) → i < j → get_or a i (pos 0) ≡ entry column (node_of t i)

pub gathered_none : (t : Tables) (column a : List ℤ) → Gathered t column 0 a a
gathered_none t column a = record { size = refl; along = λ i l. absurd (omega arith) }

pub gathered_next : {t : Tables} {column : List ℤ} {j : ℕ} {a₀ a : List ℤ} {z : ℤ} → Gathered t column j a₀ a → j < length a₀
    → z ≡ entry column (node_of t j) → Gathered t column (j + 1) a₀ (set a j z)
gathered_next {t} {column} {j} {a₀} {a} {z} H l e = record { size = length-set a j z ∙ H.size; along = λ i k. go i k (dec_lt i j) }
  where
    go : (i : ℕ) → i < j + 1 → Dec (i < j) → get_or (set a j z) i (pos 0) ≡ entry column (node_of t i)
    go i k (yes h) = get_or-set_other a j i z (pos 0) (λ e. omega arith) ∙ H.along i h
    go i k (no h) = let is : i ≡ j = omega arith in rw is (get_or-set_same a j z (pos 0) (omega (arith, H.size)) ∙ e)

-- ---- one column, as a site is put far off

-- the first j sites have been looked at
pub record Forgetting (t : Tables) (j v : ℕ) (a₀ a : List ℤ) : Type 0 where
  pub size : length a ≡ length a₀
  pub along : (i : ℕ) → i < j → get_or a i (pos 0) ≡ cond (eqb (node_of t i) v) far_off (get_or a₀ i (pos 0))
  pub rest : (i : ℕ) → j ≤ i → get_or a i (pos 0) ≡ get_or a₀ i (pos 0)

pub forgetting_none : (t : Tables) (v : ℕ) (a : List ℤ) → Forgetting t 0 v a a
forgetting_none t v a = record { size = refl; along = λ i l. absurd (omega arith); rest = λ i l. refl }

module _ {t : Tables} {j v : ℕ} {a₀ a : List ℤ} (H : Forgetting t j v a₀ a) where
  pub forgetting_site : j < length a₀ → node_of t j ≡ v → Forgetting t (j + 1) v a₀ (set a j far_off)
  forgetting_site l e = record {
    size = length-set a j far_off ∙ H.size;
    along = λ i k. go i k (dec_lt i j);
    rest = λ i k. get_or-set_other a j i far_off (pos 0) (λ h. omega arith) ∙ H.rest i (omega arith);
  }
    where
      go : (i : ℕ) → i < j + 1 → Dec (i < j) → get_or (set a j far_off) i (pos 0) ≡ cond (eqb (node_of t i) v) far_off (get_or a₀ i (pos 0))
      go i k (yes h) = get_or-set_other a j i far_off (pos 0) (λ e. omega arith) ∙ H.along i h
      go i k (no h) =
          let is : i ≡ j = omega arith in
          rw (is, eq-eqb _ _ e) (get_or-set_same a j far_off (pos 0) (omega (arith, H.size)))

  pub forgetting_other : (node_of t j ≡ v → ⊥) → Forgetting t (j + 1) v a₀ a
  forgetting_other z = record { size = H.size; along = λ i k. go i k (dec_lt i j); rest = λ i k. H.rest i (omega arith) }
    where
      go : (i : ℕ) → i < j + 1 → Dec (i < j) → get_or a i (pos 0) ≡ cond (eqb (node_of t i) v) far_off (get_or a₀ i (pos 0))
      go i k (yes h) = H.along i h
      go i k (no h) = let is : i ≡ j = omega arith in rw (is, ne_eqb _ _ z) (H.rest j (omega arith))

  pub forgotten : j ≡ t.s → Forgotten t v a₀ a
  forgotten e = record { size = H.size; across = λ k l. H.along k (omega arith) }

-- ---- the two columns

pub site_below : {t : Tables} → Ground t → (j : ℕ) → j < t.s → node_of t j < t.n
site_below G j l = let a = G.low j l in let b = G.high j l in omega arith

-- while none is taken
pub aims_all : {t : Tables} {w : List ℕ} {ax₀ ay₀ ax ay : List ℤ} → Ground t → NoneTaken t.n w
    → Gathered t t.xs t.s ax₀ ax → Gathered t t.ys t.s ay₀ ay → t.s ≤ length ax₀ → t.s ≤ length ay₀ → SideBySide t w ax ay
aims_all {t} G none X Y lx ly = record {
  room_x = rw X.size lx;
  room_y = rw Y.size ly;
  across = λ j l. X.along j l ∙ sym (ap (λ b. cond b far_off (x_at t (node_of t j))) (none _ (site_below G j l)));
  upward = Y.along;
}

-- u is taken beside those that were
abbrev pub TakenToo : Tables → ℕ → List ℕ → List ℕ → Type 0
TakenToo t u w w' = (v : ℕ) → v < t.n → is_taken t.n w' v ≡ (eqb v u || is_taken t.n w v)

-- a site that is put far off is taken now
shut_by : (here gone : Bool) (far near : ℤ) → cond here far (cond gone far near) ≡ cond (here || gone) far near
shut_by true gone far near = refl
shut_by false gone far near = refl

module _ {t : Tables} {w w' : List ℕ} {ax ay : List ℤ} (G : Ground t) (A : SideBySide t w ax ay) where
  pub aims_same : SameTaken t.n w w' → SideBySide t w' ax ay
  aims_same S = record {
    room_x = A.room_x;
    room_y = A.room_y;
    across = λ j l. A.across j l ∙ sym (ap (λ b. cond b far_off (x_at t (node_of t j))) (S _ (site_below G j l)));
    upward = A.upward;
  }

  -- u is taken, and put far off where it is a site
  pub aims_shut : {u : ℕ} {ax' : List ℤ} → TakenToo t u w w' → Forgotten t u ax ax' → SideBySide t w' ax' ay
  aims_shut {u} {ax'} S F = record {
    room_x = rw F.size A.room_x;
    room_y = A.room_y;
    across = λ j l.
        rw (F.across j l, A.across j l, S (node_of t j) (site_below G j l))
        (shut_by (eqb (node_of t j) u) (is_taken t.n w (node_of t j)) far_off (x_at t (node_of t j)));
    upward = A.upward;
  }

  -- u, which is no site, is taken
  pub aims_kept : (u : ℕ) → TakenToo t u w w' → site_in t u ≡ false → SideBySide t w' ax ay
  aims_kept u S z = record {
    room_x = A.room_x;
    room_y = A.room_y;
    across = across;
    upward = A.upward;
  }
    where
      across : (j : ℕ) → j < t.s → get_or ax j (pos 0) ≡ cond (is_taken t.n w' (node_of t j)) far_off (x_at t (node_of t j))
      across j l =
          let other : eqb (node_of t j) u ≡ false = go (eqb (node_of t j) u) (any_of (λ i. eqb (node_of t i) u) t.s j l) in
          rw (A.across j l, S (node_of t j) (site_below G j l), other)
        where
          go : (b : Bool) → (T b → T (site_in t u)) → b ≡ false
          go true h = absurd (rw z at (h tt))
          go false h = refl
