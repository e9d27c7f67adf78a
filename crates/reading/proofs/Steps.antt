-- Each way on from a line, as the rules have it.
use Prim.Native.Nat.{ℕ, suc, ◌+◌, ◌-◌, ◌≤◌, ◌<◌}
use mathlib.Core.Path.{◌≡◌, refl, ap, sym, ◌∙◌}
use mathlib.Core.List.{List, [], ◌∷◌, ◌++◌, map-append}
use mathlib.Core.Bool.{Bool, true, false, cond, ◌&&◌, ◌||◌, or_comm}
use lib.ListN.{length, set, length-append}
use lib.Seq.{take-suc-set}
use lib.Dec.{leb, eqb}
use native.Mathlib.Numerals.{add-one}
use native.Mathlib.Omega.{arith}
use borrow.Author.Tests.{eq-eqb, ne_eqb, eqb-true, eqb-false, leb-false, leb-true, lt-leb}
use Rattle.std.specs.Prelude.{Option, Some, None, Ok, Err}
use Rattle.meaning.specs.Limits.{base, Test, fine, and_then}
use Rattle.meaning.specs.Files.{within, most_rows, agrees, counts_fault, entry_fault, node_of, is_given, repeated, awaiting, begun, Progress, Next, stop, unless}
use Rattle.meaning.proofs.Tests.{both, passed, failed, within_is, then_fine, not_fine}
use Rattle.meaning.proofs.Reading.{arc_fine, node_fine, given_more}
use Rattle.meaning.specs.declared.Limits.{Limits}
use Rattle.meaning.specs.declared.Fault.{Fault}
use Rattle.meaning.specs.declared.Fault.TheVariants.{CountOutside, DataMiscounted, GivenTwice}
use Rattle.meaning.specs.declared.Kind.{Kind}
use Rattle.meaning.specs.declared.Kind.TheVariants.{Graph, Coordinates, Sites}
use Rattle.meaning.specs.declared.Rules.{Rules}
use Rattle.meaning.specs.declared.Counts.{Counts}
use Rattle.meaning.specs.declared.Entry.{Entry}
use Rattle.meaning.specs.declared.Entry.TheVariants.{Arc, Point, Site}
use Rattle.meaning.specs.declared.Line.TheVariants.{Data}
use Rattle.reading.specs.Marks.{is_marked, Added}
use Rattle.reading.specs.Rows.{Rows}
use Rattle.reading.specs.Follows.{only_once, data_fault, Small, Ready, Keeps, Went, Opened, Tracks, Follows, Answers}
use Rattle.reading.specs.declared.Reader.{Reader}

-- ---- counts that were accepted

record CountsFine (R : Rules) (c : Counts) : Type 0 where
  pub few : c.nodes ≤ R.limits.nodes
  pub most : c.rows ≤ most_rows R.limits R.kind

counts_fine : (R : Rules) (c : Counts) → counts_fault R c ≡ fine → CountsFine R c
counts_fine R c h =
    let most : Bool = leb c.rows (most_rows R.limits R.kind) in
    let rest : Bool = most && agrees R.kind R.given c.nodes in
    let inside : Bool = within 1 c.nodes R.limits.nodes in
    let two = both inside rest (passed (inside && rest) _ CountOutside h).0 in
    let n = within_is 1 c.nodes R.limits.nodes two.0 in
    record { few = n.1; most = leb-true c.rows (most_rows R.limits R.kind) (both most (agrees R.kind R.given c.nodes) two.1).0 }

-- ---- the marks

repeated_is : (e : Entry) (es : List Entry) → repeated e es ≡ only_once e (is_given (node_of e) es)
repeated_is (Arc u v w) es = refl
repeated_is (Point v x y) es = refl
repeated_is (Site v) es = refl

module _ (marks : List ℕ) (es : List Entry) (tracks : Tracks marks es) where
  tracked : (v : ℕ) → 1 ≤ v → v ≤ 1024 → is_marked marks (v - 1) ≡ is_given v es
  tracked v l h =
      let e : suc (v - 1) ≡ v = omega arith in
      tracks (v - 1) (omega arith) ∙ ap (λ (x : ℕ). is_given x es) e

  track_on : (marks' : List ℕ) (e : Entry) → 1 ≤ node_of e → Added marks (node_of e - 1) marks' → Tracks marks' (es ++ e ∷ [])
  track_on marks' e l a j h =
      a.bits j ∙ ap (λ (t : Bool). t || is_marked marks j) (same (eqb j (node_of e - 1)) refl)
      ∙ ap (λ (t : Bool). eqb (node_of e) (suc j) || t) (tracks j h)
      ∙ or_comm (eqb (node_of e) (suc j)) (is_given (suc j) es)
      ∙ sym (given_more (suc j) es e)
    where
      same : (t : Bool) → eqb j (node_of e - 1) ≡ t → t ≡ eqb (node_of e) (suc j)
      same true q = let i : j ≡ node_of e - 1 = eqb-true j (node_of e - 1) q in sym (eq-eqb (node_of e) (suc j) (omega arith))
      same false q = sym (ne_eqb (node_of e) (suc j) (λ i. eqb-false j (node_of e - 1) q (omega arith)))

-- ---- the rows: one entry more, at the place behind the others

rows_on : {A : Type 0} (row_of : Entry → A) (es : List Entry) (e : Entry) (rows : List A) → length es < length rows → Rows row_of es rows → Rows row_of (es ++ e ∷ []) (set rows (length es) (row_of e))
rows_on {A} row_of es e rows h q =
    let n : length (es ++ e ∷ []) ≡ suc (length es) = length-append es (e ∷ []) ∙ add-one (length es) in
    rw n (take-suc-set rows (length es) (row_of e) h ∙ ap (λ (l : List A). l ++ row_of e ∷ []) q ∙ sym (map-append row_of es (e ∷ [])))

-- ---- before any entry, whatever the rows hold

pub opened : {A : Type 0} (row_of : Entry → A) (R : Rules) (at : ℕ) (s : Reader) (rows : List A) (p : Progress) → Opened R at s p → Went row_of R at s rows p
opened row_of R at s rows p o = record { rules_are = o.rules_are; at_is = o.at_is; keeps = record { stands = o.stands; rows_are = rw o.none_yet refl } }

-- ---- a data line

small : (L : Limits) (n : ℕ) (e : Entry) → L ≡ base → n ≤ 1024 → entry_fault L n e ≡ fine → Small e
small L n (Arc u v w) q h z =
    let a = arc_fine L n u v w z in
    (omega arith, omega arith, omega (arith, ap (λ (M : Limits). M.weight) q))
small L n (Point v x y) q h z = omega (arith, node_fine L n (Point v x y) z)
small L n (Site v) q h z = omega (arith, node_fine L n (Site v) z)

most_rows_lem : (kind : Kind) → most_rows base kind ≤ 4096
most_rows_lem Graph = omega arith
most_rows_lem Coordinates = omega arith
most_rows_lem Sites = omega arith

-- the entry's node has a bit, a row holds its numbers, and there is one left
pub record Fitting {A : Type 0} (e : Entry) (place : ℕ) (rows : List A) : Type 0 where
  pub low : 1 ≤ node_of e
  pub high : node_of e ≤ 1024
  pub small : Small e
  pub few : place < 4096
  pub inside : place < length rows

-- a refusal by 7, or else by the test of the entry
refused_by : {A : Type 0} (row_of : Entry → A) (R : Rules) (at : ℕ) (s : Reader) (rows : List A) (full : Bool) (x : Test) (n : Next) (fault : Fault) (r : Test)
    → and_then (cond full (Err DataMiscounted) fine) x ≡ Err fault → r ≡ Err fault
    → Follows (Went row_of R at s rows) r (cond full (stop DataMiscounted) (unless x n))
unfolding and_then
refused_by row_of R at s rows true x n fault r f is = is ∙ sym f
refused_by row_of R at s rows false (Ok tt) n fault r f is = absurd (not_fine fault (sym f))
refused_by row_of R at s rows false (Err other) n fault r f is = is ∙ sym f

-- behind a problem line with those counts
module _ {A : Type 0} (row_of : Entry → A) (s : Reader) (rows : List A) (e : Entry) (c : Counts) (some : s.counts ≡ Some c) where
  awaits : Keeps row_of s rows awaiting → ⊥
  awaits k = let e : ◌≡◌ {A = Option Counts} (Some c) None = sym some ∙ k.stands.counts_are in let z : ◌≡◌ {A = ℕ} 0 1 = cc in omega arith

  has_begun : (d : Counts) (es : List Entry) → Keeps row_of s rows (begun d es) → c ≡ d
  has_begun d es k = let e : ◌≡◌ {A = Option Counts} (Some c) (Some d) = sym some ∙ k.stands.counts_are in cc

  pub data_refused : (fault : Fault) → data_fault s.rules.limits c s.count e ≡ Err fault → (r : Test) → r ≡ Err fault
      → (s' : Reader) (rows' : List A) → Answers row_of s rows (Data e) r s' rows'
  data_refused fault f r is s' rows' awaiting k = absurd (awaits k)
  data_refused fault f r is s' rows' (begun d es) k =
      refused_by row_of s.rules s.at s' rows' (leb d.rows (length es)) (entry_fault s.rules.limits d.nodes e) _ fault r (rw (has_begun d es k, k.stands.count_is) at f) is

  -- an entry without fault
  module _ (ready : Ready s rows) (f : data_fault s.rules.limits c s.count e ≡ fine) where
    counts_known : CountsFine s.rules c
    counts_known = counts_fine s.rules c (rw some at ready.passed)

    data_fine : (s.count < c.rows) × (entry_fault s.rules.limits c.nodes e ≡ fine)
    data_fine =
        let a = then_fine (cond (leb c.rows s.count) (Err DataMiscounted) fine) (entry_fault s.rules.limits c.nodes e) f in
        (leb-false c.rows s.count (failed (leb c.rows s.count) DataMiscounted fine a.0).0, a.1)

    pub data_fits : Fitting e s.count rows
    data_fits =
        let a = data_fine in
        let k = counts_known in
        let n = node_fine s.rules.limits c.nodes e a.1 in
        let nodes : s.rules.limits.nodes ≡ 1024 = ap (λ (L : Limits). L.nodes) ready.limits in
        let most : most_rows s.rules.limits s.rules.kind ≡ most_rows base s.rules.kind = ap (λ (L : Limits). most_rows L s.rules.kind) ready.limits in
        record {
          low = n.low;
          high = omega arith;
          small = small s.rules.limits c.nodes e ready.limits (omega arith) a.1;
          few = omega (arith, most_rows_lem s.rules.kind);
          inside = omega (arith, ready.wide);
        }

    -- what the marks say of its node
    again : (es : List Entry) → Tracks s.marks es → repeated e es ≡ only_once e (is_marked s.marks (node_of e - 1))
    again es tracks = repeated_is e es ∙ ap (only_once e) (sym (tracked s.marks es tracks (node_of e) data_fits.low data_fits.high))

    few : (d : Counts) (es : List Entry) → Keeps row_of s rows (begun d es) → leb d.rows (length es) ≡ false
    few d es k = lt-leb d.rows (length es) (rw (has_begun d es k, k.stands.count_is) at (data_fine.0))

    passes : (d : Counts) (es : List Entry) → Keeps row_of s rows (begun d es) → entry_fault s.rules.limits d.nodes e ≡ fine
    passes d es k = rw (has_begun d es k) at (data_fine.1)

    pub data_twice : only_once e (is_marked s.marks (node_of e - 1)) ≡ true → (s' : Reader) (rows' : List A) → Answers row_of s rows (Data e) (Err GivenTwice) s' rows'
    data_twice t s' rows' awaiting k = absurd (awaits k)
    data_twice t s' rows' (begun d es) k = rw (few d es k, passes d es k, again es k.stands.tracks ∙ t) refl

    pub data_on : only_once e (is_marked s.marks (node_of e - 1)) ≡ false → (marks' : List ℕ) → Added s.marks (node_of e - 1) marks'
        → Answers row_of s rows (Data e) fine (record { rules = s.rules; at = s.at; counts = s.counts; count = s.count + 1; marks = marks' }) (set rows s.count (row_of e))
    data_on t marks' a awaiting k = absurd (awaits k)
    data_on t marks' a (begun d es) k =
        rw (few d es k, passes d es k, again es k.stands.tracks ∙ t) (
          refl,
          record {
            rules_are = refl;
            at_is = refl;
            keeps = record {
              stands = record {
                counts_are = k.stands.counts_are;
                passed = k.stands.passed;
                count_is = ap (λ (n : ℕ). n + 1) k.stands.count_is ∙ sym (length-append es (e ∷ []));
                tracks = track_on s.marks es k.stands.tracks marks' e data_fits.low a;
              };
              rows_are = rw k.stands.count_is (rows_on row_of es e rows (rw k.stands.count_is at data_fits.inside) k.rows_are);
            };
          },
        )
