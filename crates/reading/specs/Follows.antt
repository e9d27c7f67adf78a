-- How the code's state, marks and rows stand to a reading's progress.
use Rattle.std.specs.Prelude.{ℕ, suc, ◌≤◌, ◌<◌, List, [], Bool, false, cond, ◌≡◌, Option, Some, None, Result, Err, length, leb}
use Rattle.meaning.specs.Limits.{base, Test, fine, and_then}
use Rattle.meaning.specs.declared.Limits.{Limits}
use Rattle.meaning.specs.declared.Fault.TheVariants.{DataMiscounted}
use Rattle.meaning.specs.declared.Refusal.{Refusal}
use Rattle.meaning.specs.Files.{Progress, awaiting, begun, Next, stop, go, step, finish, answered, counts_fault, entry_fault, is_given}
use Rattle.meaning.specs.declared.Rules.{Rules}
use Rattle.meaning.specs.declared.Counts.{Counts}
use Rattle.meaning.specs.declared.Line.{Line}
use Rattle.meaning.specs.declared.Line.TheVariants.{Problem}
use Rattle.meaning.specs.declared.Entry.{Entry}
use Rattle.meaning.specs.declared.Entry.TheVariants.{Arc, Point, Site}
use Rattle.reading.specs.Marks.{is_marked}
use Rattle.reading.specs.Said.{said_at}
use Rattle.reading.specs.declared.Reader.{Reader}
use Rattle.reading.specs.Rows.{Wide, Rows}

abbrev pub moved_to : Reader → ℕ → Reader
moved_to s at = record { rules = s.rules; at = at; counts = s.counts; count = s.count; marks = s.marks }

-- only a point and a site may not repeat a node
abbrev pub only_once : Entry → Bool → Bool
only_once (Arc u v w) given = false
only_once (Point v x y) given = given
only_once (Site v) given = given

-- refused where the entries are as many as the count
abbrev pub too_many : ℕ → ℕ → Test
too_many rows count = cond (leb rows count) (Err DataMiscounted) fine

-- one too many, then the entry's own
abbrev pub data_fault : Limits → Counts → ℕ → Entry → Test
data_fault L c count e = and_then (too_many c.rows count) (entry_fault L c.nodes e)

-- a node's number, and an arc's, are so small that a row holds them
abbrev pub Small : Entry → Type 0
Small (Arc u v w) = (u ≤ 1024) × (v ≤ 1024) × (w ≤ 1000000)
Small (Point v x y) = v ≤ 1024
Small (Site v) = v ≤ 1024

-- ---- what is asked before a line

-- counts that were accepted, if there was a problem line
abbrev pub Passed : Rules → Option Counts → Type 0
Passed R None = Unit {0}
Passed R (Some c) = counts_fault R c ≡ fine

-- the paper's limits, which the counts keep, and a row for each entry
pub record Ready {A : Type 0} (s : Reader) (rows : List A) : Type 0 where
  pub limits : s.rules.limits ≡ base
  pub passed : Passed s.rules s.counts
  pub wide : Wide s.rules.kind rows

-- ---- a progress as the code keeps it

-- none while the problem line is awaited
abbrev pub counts_since : Progress → Option Counts
counts_since awaiting = None
counts_since (begun c es) = Some c

abbrev pub entries_since : Progress → List Entry
entries_since awaiting = []
entries_since (begun c es) = es

-- the marks are those of the nodes given
abbrev pub Tracks : List ℕ → List Entry → Type 0
Tracks marks es = (j : ℕ) → j < 1024 → is_marked marks j ≡ is_given (suc j) es

-- the counts of a problem line that was accepted, how many entries there are since, and their marks
pub record Stands (s : Reader) (p : Progress) : Type 0 where
  pub counts_are : s.counts ≡ counts_since p
  pub passed : Passed s.rules s.counts
  pub count_is : s.count ≡ length (entries_since p)
  pub tracks : Tracks s.marks (entries_since p)

-- and the entries' rows
pub record Keeps {A : Type 0} (row_of : Entry → A) (s : Reader) (rows : List A) (p : Progress) : Type 0 where
  pub stands : Stands s p
  pub rows_are : Rows row_of (entries_since p) rows

-- ---- the code's answer to a line

-- to go on under the same rules, where the next line starts at `at`
pub record Went {A : Type 0} (row_of : Entry → A) (R : Rules) (at : ℕ) (s : Reader) (rows : List A) (p : Progress) : Type 0 where
  pub rules_are : s.rules ≡ R
  pub at_is : s.at ≡ at
  pub keeps : Keeps row_of s rows p

-- the same where no entry has come yet, whatever the rows hold
pub record Opened (R : Rules) (at : ℕ) (s : Reader) (p : Progress) : Type 0 where
  pub rules_are : s.rules ≡ R
  pub at_is : s.at ≡ at
  pub stands : Stands s p
  pub none_yet : entries_since p ≡ []

-- before the first line
abbrev pub Starts : Rules → Reader → Type 0
Starts R s = Opened R 0 s awaiting

-- with the rules: it refuses as they do, or goes on so that it has gone on to their progress
abbrev pub Follows : (Progress → Type 0) → Test → Next → Type 0
Follows Gone r (go p) = (r ≡ fine) × Gone p
Follows Gone r (stop fault) = r ≡ Err fault

-- whatever progress the code stands at, it answers what the rules say of that line
abbrev pub Answers : {A : Type 0} → (Entry → A) → Reader → List A → Line → Test → Reader → List A → Type 0
Answers row_of s rows line r s' rows' =
    (p : Progress) → Keeps row_of s rows p → Follows (Went row_of s.rules s.at s' rows') r (step s.rules p line)

-- a problem line touches neither marks nor rows
pub record AnswersProblem (s : Reader) (c : Counts) (r : Test) (s' : Reader) : Type 0 where
  pub marks_stay : s'.marks ≡ s.marks
  pub answers : (p : Progress) → Stands s p → Follows (Opened s.rules s.at s') r (step s.rules p (Problem c))

-- the line that starts where the state says
abbrev pub AnswersNext : {A : Type 0} → (Entry → A) → List ℕ → Reader → List A → Test → Reader → List A → Type 0
AnswersNext row_of text s rows r s' rows' =
    let said = said_at s.rules.kind s.rules.given text s.at in
    Answers row_of (moved_to s said.next) rows said.line r s' rows'

-- at the end of the text, by the counts alone
abbrev pub Finishes : Reader → Result Counts Refusal → Type 0
Finishes s r = (p : Progress) → s.counts ≡ counts_since p → s.count ≡ length (entries_since p) → r ≡ answered (finish p)
