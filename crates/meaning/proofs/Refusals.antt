-- The order of the refusals of one line: "problem line 2, 3, 4, 9; data line 2, 3, 7, 5, 6, 8".
use Prim.Native.Nat.{ℕ, ◌≤◌, ◌<◌}
use mathlib.Core.Path.{◌≡◌, refl}
use mathlib.Core.List.{List, [], ◌∷◌, ◌++◌}
use mathlib.Core.Bool.{true, false, ◌&&◌}
use lib.ListN.{length}
use lib.Dec.{leb}
use lib.IntN.{ℤ}
use borrow.Author.Tests.{le-leb, lt-leb}
use Rattle.std.specs.Prelude.{Err}
use Rattle.meaning.specs.Limits.{fine}
use Rattle.meaning.specs.Files.{within, is_weight, is_coordinate, most_rows, agrees, entry_fault, repeated, Progress, awaiting, begun, stop, go, step}
use Rattle.meaning.specs.declared.Limits.{Limits}
use Rattle.meaning.specs.declared.Fault.{Fault}
use Rattle.meaning.specs.declared.Fault.TheVariants.{NotPermitted, ProblemMisplaced, CountOutside, NodeOutside, ValueOutside, DataMiscounted, GivenTwice, TableShort}
use Rattle.meaning.specs.declared.Rules.{Rules}
use Rattle.meaning.specs.declared.Counts.{Counts}
use Rattle.meaning.specs.declared.Entry.{Entry}
use Rattle.meaning.specs.declared.Entry.TheVariants.{Arc, Point, Site}
use Rattle.meaning.specs.declared.Line.TheVariants.{Nothing, Problem, Data, Malformed}

-- a problem line whose counts are within their limits and whose N is the one handed in, or one whose are not
abbrev pub Fits : Rules → Counts → Type 0
Fits R c = within 1 c.nodes R.limits.nodes && (leb c.rows (most_rows R.limits R.kind) && agrees R.kind R.given c.nodes) ≡ true

abbrev pub Unfit : Rules → Counts → Type 0
Unfit R c = within 1 c.nodes R.limits.nodes && (leb c.rows (most_rows R.limits R.kind) && agrees R.kind R.given c.nodes) ≡ false

-- what a line leads to, by the first of its tests that fails
pub record LineOrder (R : Rules) : Type 0 where
  pub malformed : (p : Progress) → step R p Malformed ≡ stop NotPermitted
  pub silent : (p : Progress) → step R p Nothing ≡ go p
  pub second : (c d : Counts) (es : List Entry) → step R (begun c es) (Problem d) ≡ stop ProblemMisplaced
  pub outside : (c : Counts) → Unfit R c → step R awaiting (Problem c) ≡ stop CountOutside
  pub short : (c : Counts) → Fits R c → R.room < c.rows → step R awaiting (Problem c) ≡ stop TableShort
  pub begins : (c : Counts) → Fits R c → c.rows ≤ R.room → step R awaiting (Problem c) ≡ go (begun c [])
  pub early : (e : Entry) → step R awaiting (Data e) ≡ stop ProblemMisplaced
  pub full : (c : Counts) (es : List Entry) (e : Entry) → c.rows ≤ length es → step R (begun c es) (Data e) ≡ stop DataMiscounted
  pub faulty : (c : Counts) (es : List Entry) (e : Entry) (fault : Fault) → length es < c.rows → entry_fault R.limits c.nodes e ≡ Err fault
      → step R (begun c es) (Data e) ≡ stop fault
  pub twice : (c : Counts) (es : List Entry) (e : Entry) → length es < c.rows → entry_fault R.limits c.nodes e ≡ fine → repeated e es ≡ true
      → step R (begun c es) (Data e) ≡ stop GivenTwice
  pub grows : (c : Counts) (es : List Entry) (e : Entry) → length es < c.rows → entry_fault R.limits c.nodes e ≡ fine → repeated e es ≡ false
      → step R (begun c es) (Data e) ≡ go (begun c (es ++ e ∷ []))

pub line_order : (R : Rules) → LineOrder R
line_order R = record {
  malformed = λ p. refl;
  silent = λ p. refl;
  second = λ c d es. refl;
  outside = λ c h. rw h;
  short = λ c h l. rw (h, lt-leb c.rows R.room l);
  begins = λ c h l. rw (h, le-leb c.rows R.room l);
  early = λ e. refl;
  full = λ c es e l. rw (le-leb c.rows (length es) l);
  faulty = λ c es e fault l h. rw (lt-leb c.rows (length es) l, h);
  twice = λ c es e l h d. rw (lt-leb c.rows (length es) l, h, d);
  grows = λ c es e l h d. rw (lt-leb c.rows (length es) l, h, d);
}

-- an entry's 5 before its 6
pub record Faults (L : Limits) (n : ℕ) : Type 0 where
  pub arc_node : (u v w : ℕ) → within 1 u n && within 1 v n ≡ false → entry_fault L n (Arc u v w) ≡ Err NodeOutside
  pub arc_weight : (u v w : ℕ) → within 1 u n && within 1 v n ≡ true → is_weight L w ≡ false → entry_fault L n (Arc u v w) ≡ Err ValueOutside
  pub point_node : (v : ℕ) (x y : ℤ) → within 1 v n ≡ false → entry_fault L n (Point v x y) ≡ Err NodeOutside
  pub point_value : (v : ℕ) (x y : ℤ) → within 1 v n ≡ true → is_coordinate L x && is_coordinate L y ≡ false → entry_fault L n (Point v x y) ≡ Err ValueOutside
  pub site_node : (v : ℕ) → within 1 v n ≡ false → entry_fault L n (Site v) ≡ Err NodeOutside

pub faults : (L : Limits) (n : ℕ) → Faults L n
faults L n = record {
  arc_node = λ u v w h. rw h;
  arc_weight = λ u v w h k. rw (h, k);
  point_node = λ v x y h. rw h;
  point_value = λ v x y h k. rw (h, k);
  site_node = λ v h. rw h;
}
