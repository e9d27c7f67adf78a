-- What the search's checks make sure of: an accepted region.
use mathlib.Core.Path.{◌≡◌, ap, subst, ◌∙◌}
use mathlib.Core.Bool.{Bool, true, false, ◌&&◌}
use Prim.Native.Nat.{ℕ, zero, suc, ◌+◌, ◌-◌, ◌*◌, ◌≤◌, ◌<◌}
use native.Mathlib.Decide.{dec_lt}
use native.Mathlib.Omega.{arith}
use lib.Dec.{T, T_not, leb, eqb, eqb_refl}
use borrow.Author.Tests.{leb-true}
use lib.IntN.{nat_abs}
use lib.ListN.{get_or}
use Rattle.meaning.specs.declared.Limits.{Limits}
use Rattle.meaning.specs.declared.Fault.TheVariants.{CountOutside, ValueOutside, GivenTwice, TableShort, ArcShort, QueryOutside, KOutside, RoomShort}
use Rattle.meaning.specs.declared.Entry.TheVariants.{Arc, Site}
use Rattle.std.specs.Prelude.{Ok}
use Rattle.meaning.specs.Limits.{Test, fine, at, refusal}
use Rattle.meaning.specs.Files.{within, is_coordinate, entry_fault}
use Rattle.meaning.specs.Scan.{any}
use Rattle.meaning.specs.Straight.{squares, long_enough}
use Rattle.meaning.specs.Region.{Tables, Rooms, region_of, x_at, y_at}
use Rattle.meaning.specs.Checks.{first_fault, counts_fit, tables_fit, rooms_fit, point_fault, arc_fault, site_fault, inspect}
use Rattle.meaning.proofs.Tests.{both, within_is, passed, failed, then_fine, at_fine}
use Rattle.meaning.proofs.Reading.{ArcFine, arc_fine, NodeFine, site_fine}
use Rattle.meaning.proofs.Scans.{any_of}
use Rattle.meaning.proofs.Relaxing.{Estimate, Setting}
use Rattle.meaning.proofs.Estimates.{Long}

-- ---- tests in a row that all pass

pub all_fine : (f : ℕ → Test) (n : ℕ) → first_fault f n ≡ Ok tt → (j : ℕ) → j < n → f j ≡ fine
unfolding first_fault
all_fine f zero e j l = absurd (omega arith)
all_fine f (suc n) e j l = go (dec_lt j n) (all_fine f n (then_fine (first_fault f n) (at (n + 1) (f n)) e).0 j)
  where
    go : Dec (j < n) → (j < n → f j ≡ fine) → f j ≡ fine
    go (yes z) ih = ih z
    go (no z) ih =
        let c : j ≡ n = omega arith in
        ap f c ∙ at_fine (n + 1) (f n) (then_fine (first_fault f n) (at (n + 1) (f n)) e).1

-- ---- an accepted region

-- as a reader would have it, and no shorter than the straight line
pub record GoodArc (L : Limits) (t : Tables) (u v w : ℕ) : Type 0 where
  pub fine : ArcFine L t.n u v w
  pub long : squares (x_at t) (y_at t) (u - 1) (v - 1) ≤ w * w

pub record Sound (L : Limits) (t : Tables) (q k : ℕ) (r : Rooms) : Type 0 where
  pub nodes : (1 ≤ t.n) × (t.n ≤ L.nodes)
  pub arcs : t.m ≤ L.arcs
  pub sites : t.s ≤ L.sites
  pub tables : tables_fit t ≡ true
  pub query : (1 ≤ q) × (q ≤ t.n)
  pub lines : (1 ≤ k) × (k ≤ L.k)
  pub rooms : rooms_fit t.n k r ≡ true
  pub points : (v : ℕ) → v < t.n → (nat_abs (x_at t v) ≤ L.coordinate) × (nat_abs (y_at t v) ≤ L.coordinate)
  pub good : (i : ℕ) → i < t.m → GoodArc L t (get_or t.tails i 0) (get_or t.heads i 0) (get_or t.weights i 0)
  pub stands : (j : ℕ) → j < t.s → NodeFine t.n (get_or t.sites j 0)
  pub distinct : (i j : ℕ) → i < j → j < t.s → get_or t.sites i 0 ≡ get_or t.sites j 0 → ⊥

good_point : (L : Limits) (t : Tables) (v : ℕ) → point_fault L t v ≡ fine → (nat_abs (x_at t v) ≤ L.coordinate) × (nat_abs (y_at t v) ≤ L.coordinate)
unfolding point_fault
good_point L t v e =
    let a = both (is_coordinate L (x_at t v)) (is_coordinate L (y_at t v)) (passed (is_coordinate L (x_at t v) && is_coordinate L (y_at t v)) fine ValueOutside e).0 in
    (leb-true (nat_abs (x_at t v)) L.coordinate a.0, leb-true (nat_abs (y_at t v)) L.coordinate a.1)

good_arc : (L : Limits) (t : Tables) (i : ℕ) → arc_fault L t i ≡ fine → GoodArc L t (get_or t.tails i 0) (get_or t.heads i 0) (get_or t.weights i 0)
unfolding arc_fault
good_arc L t i e =
    let u = get_or t.tails i 0 in
    let v = get_or t.heads i 0 in
    let w = get_or t.weights i 0 in
    let a = then_fine (entry_fault L t.n (Arc u v w)) _ e in
    record {
      fine = arc_fine L t.n u v w a.0;
      long = leb-true (squares (x_at t) (y_at t) (u - 1) (v - 1)) (w * w) (passed (long_enough (x_at t) (y_at t) (u - 1) (v - 1) w) fine ArcShort a.1).0;
    }

-- whether an earlier entry has the same node
abbrev before : Tables → ℕ → Bool
before t j = any (λ i. eqb (get_or t.sites i 0) (get_or t.sites j 0)) j

good_site : (L : Limits) (t : Tables) (j : ℕ) → site_fault L t j ≡ fine → NodeFine t.n (get_or t.sites j 0) × (before t j ≡ false)
unfolding site_fault
good_site L t j e =
    let a = then_fine (entry_fault L t.n (Site (get_or t.sites j 0))) _ e in
    (site_fine L t.n (get_or t.sites j 0) a.0, (failed (before t j) GivenTwice fine a.1).0)

pub sound : (L : Limits) (t : Tables) (q k : ℕ) (r : Rooms) → inspect L t q k r ≡ Ok tt → Sound L t q k r
unfolding inspect
sound L t q k r e =
    let p₁ = passed (counts_fit L t) _ (refusal CountOutside 0) e in
    let p₂ = passed (tables_fit t) _ (refusal TableShort 0) p₁.1 in
    let p₃ = passed (within 1 q t.n) _ (refusal QueryOutside 0) p₂.1 in
    let p₄ = passed (within 1 k L.k) _ (refusal KOutside 0) p₃.1 in
    let p₅ = passed (rooms_fit t.n k r) _ (refusal RoomShort 0) p₄.1 in
    let p₆ = then_fine (first_fault (point_fault L t) t.n) _ p₅.1 in
    let p₇ = then_fine (first_fault (arc_fault L t) t.m) (first_fault (site_fault L t) t.s) p₆.1 in
    let c = both (within 1 t.n L.nodes) (leb t.m L.arcs && leb t.s L.sites) p₁.0 in
    let d = both (leb t.m L.arcs) (leb t.s L.sites) c.1 in
    record {
      nodes = within_is 1 t.n L.nodes c.0;
      arcs = leb-true t.m L.arcs d.0;
      sites = leb-true t.s L.sites d.1;
      tables = p₂.0;
      query = within_is 1 q t.n p₃.0;
      lines = within_is 1 k L.k p₄.0;
      rooms = p₅.0;
      points = λ v l. good_point L t v (all_fine (point_fault L t) t.n p₆.0 v l);
      good = λ i l. good_arc L t i (all_fine (arc_fault L t) t.m p₇.0 i l);
      stands = λ j l. (good_site L t j (all_fine (site_fault L t) t.s p₇.1 j l)).0;
      distinct = λ i j l b z. apart i j l z (good_site L t j (all_fine (site_fault L t) t.s p₇.1 j b)).1;
    }
  where
    apart : (i j : ℕ) → i < j → get_or t.sites i 0 ≡ get_or t.sites j 0 → before t j ≡ false → ⊥
    apart i j l z h =
        T_not (before t j) (rw h tt)
        (any_of (λ h. eqb (get_or t.sites h 0) (get_or t.sites j 0)) j i l (subst (λ (x : ℕ). T (eqb (get_or t.sites i 0) x)) z (eqb_refl (get_or t.sites i 0))))

module _ {L : Limits} {t : Tables} {q k : ℕ} {r : Rooms} (S : Sound L t q k r) where
  pub sound_long : Long (region_of t) (x_at t) (y_at t)
  sound_long i l = (S.good i l).long

  pub sound_setting : (est : (ℕ → Bool) → ℕ → ℕ) → Estimate (region_of t) est → Setting (region_of t) est (q - 1)
  sound_setting est fits = record {
    valid = record {
      tails = λ i l. let g = (S.good i l).fine in omega arith;
      heads = λ i l. let g = (S.good i l).fine in omega arith;
      sites = λ j l. let g = S.stands j l in omega arith;
    };
    positive = λ i l. (S.good i l).fine.weight_low;
    fits = fits;
    below = let a = S.query in omega arith;
  }
