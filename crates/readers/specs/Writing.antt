-- Rows of each text, and what they store one by one in the lent tables.
use Rattle.std.specs.Prelude.{ℕ, zero, suc, ◌-◌, ◌≤◌, ◌<◌, List, ℤ, pos, length, get_or, set}
use Rattle.meaning.specs.declared.Entry.{Entry}
use Rattle.meaning.specs.declared.Entry.TheVariants.{Arc, Point, Site}
use Rattle.meaning.proofs.Reading.{NodeFine}
use Rattle.readers.specs.declared.ArcRow.{ArcRow}
use Rattle.readers.specs.declared.PointRow.{PointRow}
use Rattle.readers.specs.declared.SiteRow.{SiteRow}

-- ---- an entry's row; of another kind of entry one of zeros

abbrev pub arc_row : Entry → ArcRow
arc_row (Arc u v w) = record { tail = u; head = v; weight = w }
arc_row (Point v x y) = record { tail = 0; head = 0; weight = 0 }
arc_row (Site v) = record { tail = 0; head = 0; weight = 0 }

abbrev pub point_row : Entry → PointRow
point_row (Arc u v w) = record { node = 0; x = pos 0; y = pos 0 }
point_row (Point v x y) = record { node = v; x = x; y = y }
point_row (Site v) = record { node = 0; x = pos 0; y = pos 0 }

abbrev pub site_row : Entry → SiteRow
site_row (Arc u v w) = record { node = 0 }
site_row (Point v x y) = record { node = 0 }
site_row (Site v) = record { node = v }

-- ---- what is stored

-- a table after that many rows, each row's value at its place
abbrev pub stored : {A : Type 0} → (ℕ → ℕ) → (ℕ → A) → ℕ → List A → List A
stored place value zero xs = xs
stored place value (suc i) xs = set (stored place value i xs) (place i) (value i)

-- row i; past the end one of zeros
abbrev pub arc_at : List ArcRow → ℕ → ArcRow
arc_at rows i = get_or rows i (record { tail = 0; head = 0; weight = 0 })

abbrev pub point_at : List PointRow → ℕ → PointRow
point_at rows i = get_or rows i (record { node = 0; x = pos 0; y = pos 0 })

abbrev pub site_at : List SiteRow → ℕ → SiteRow
site_at rows i = get_or rows i (record { node = 0 })

-- row i's place: entry i, or its node's
abbrev pub in_order : ℕ → ℕ
in_order i = i

abbrev pub at_node : List PointRow → ℕ → ℕ
at_node rows i = (point_at rows i).node - 1

-- row i's values
abbrev pub tail_in : List ArcRow → ℕ → ℕ
tail_in rows i = (arc_at rows i).tail

abbrev pub head_in : List ArcRow → ℕ → ℕ
head_in rows i = (arc_at rows i).head

abbrev pub weight_in : List ArcRow → ℕ → ℕ
weight_in rows i = (arc_at rows i).weight

abbrev pub x_in : List PointRow → ℕ → ℤ
x_in rows i = (point_at rows i).x

abbrev pub y_in : List PointRow → ℕ → ℤ
y_in rows i = (point_at rows i).y

abbrev pub site_in : List SiteRow → ℕ → ℕ
site_in rows i = (site_at rows i).node

-- ---- what rows have to be

-- rows that fit three tables in order, two by node
pub record ArcRows (rows : List ArcRow) (tails heads weights : List ℕ) : Type 0 where
  pub in_tails : length rows ≤ length tails
  pub in_heads : length rows ≤ length heads
  pub in_weights : length rows ≤ length weights

pub record PointRows (rows : List PointRow) (xs ys : List ℤ) : Type 0 where
  pub in_xs : (i : ℕ) → i < length rows → NodeFine (length xs) (point_at rows i).node
  pub in_ys : (i : ℕ) → i < length rows → NodeFine (length ys) (point_at rows i).node
