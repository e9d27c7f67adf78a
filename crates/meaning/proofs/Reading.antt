-- What is known of a text that a reading accepts.
use Prim.Native.Nat.{ℕ, suc, ◌≤◌}
use mathlib.Core.Path.{◌≡◌, refl, ap, sym, ◌∙◌, subst}
use mathlib.Core.List.{List, [], ◌∷◌, ◌++◌, map, append-nil, append_assoc}
use mathlib.Core.Bool.{Bool, true, false, cond, ◌&&◌, ◌||◌}
use lib.ListN.{length, length-map}
use lib.Seq.{sets, sets-eq}
use lib.Dec.{leb, eqb}
use lib.IntN.{ℤ, nat_abs}
use native.Mathlib.Omega.{arith}
use native.Mathlib.Nat.{zero-add}
use borrow.Author.Tests.{leb-true, eqb-true, eqb-false, ne_eqb}
use Rattle.meaning.specs.Lists.{All}
use Rattle.std.specs.Prelude.{Option, Some, None, Ok, Err}
use Rattle.meaning.specs.Limits.{Test, fine}
use Rattle.meaning.specs.Text.{lines, trim, fields, first, others, none, same, number, signed}
use Rattle.meaning.specs.Grammar.{word_c, word_p, word_sp, word_co, word_ss, word_a, word_v, word_s, last_number, last_signed, aux_count, graph_counts, point_counts, site_counts, problem_of, arc_data, point_data, site_data, data_of, line_of}
use Rattle.meaning.specs.Files.{within, is_weight, is_coordinate, most_rows, agrees, counts_fault, entry_fault, node_of, is_given, repeated, Progress, awaiting, begun, Next, step, Reading, refused, read, finish, on_next, read_from, handed_in, reading, in_front}
use Rattle.meaning.specs.declared.Limits.{Limits}
use Rattle.meaning.specs.declared.Fault.{Fault}
use Rattle.meaning.specs.declared.Fault.TheVariants.{CountOutside, NodeOutside, ValueOutside, TableShort}
use Rattle.meaning.specs.declared.Kind.{Kind}
use Rattle.meaning.specs.declared.Kind.TheVariants.{Graph, Coordinates, Sites}
use Rattle.meaning.specs.declared.Rules.{Rules}
use Rattle.meaning.specs.declared.Counts.{Counts}
use Rattle.meaning.specs.declared.Entry.{Entry}
use Rattle.meaning.specs.declared.Entry.TheVariants.{Arc, Point, Site}
use Rattle.meaning.specs.declared.Line.{Line}
use Rattle.meaning.specs.declared.Line.TheVariants.{Nothing, Problem, Data, Malformed}
use Rattle.meaning.proofs.Tests.{both, neither, passed, within_is}
use Rattle.meaning.proofs.Alls.{all_more}
use Rattle.meaning.proofs.Refusals.{line_order}

-- ---- the words of the theorems

-- a line's entry in front of those of the later lines
abbrev pub with_data : Line → List Entry → List Entry
with_data Nothing es = es
with_data (Problem c) es = es
with_data (Data e) es = e ∷ es
with_data Malformed es = es

-- the entries of the data lines, in the text's order
abbrev pub entries_of : Kind → ℕ → List (List ℕ) → List Entry
entries_of kind given [] = []
entries_of kind given (l ∷ ls) = with_data (line_of kind given (fields (trim l))) (entries_of kind given ls)

abbrev pub AllFine : Limits → ℕ → List Entry → Type 0
AllFine L n es = All (λ e. entry_fault L n e ≡ fine) es

-- arcs in a graph text, points in a coordinate text, sites in a site text
abbrev pub IsOf : Kind → Entry → Type 0
IsOf Graph (Arc u v w) = Unit {0}
IsOf Graph (Point v x y) = ⊥
IsOf Graph (Site v) = ⊥
IsOf Coordinates (Arc u v w) = ⊥
IsOf Coordinates (Point v x y) = Unit {0}
IsOf Coordinates (Site v) = ⊥
IsOf Sites (Arc u v w) = ⊥
IsOf Sites (Point v x y) = ⊥
IsOf Sites (Site v) = Unit {0}

abbrev pub AllOf : Kind → List Entry → Type 0
AllOf kind es = All (IsOf kind) es

abbrev pub Distinct : List Entry → Type 0
Distinct [] = Unit {0}
Distinct (e ∷ es) = (is_given (node_of e) es ≡ false) × Distinct es

-- by the text: distinct nodes, one data line for each node, the N handed in
abbrev pub DistinctBy : Kind → List Entry → Type 0
DistinctBy Graph es = Unit {0}
DistinctBy Coordinates es = Distinct es
DistinctBy Sites es = Distinct es

abbrev pub RowsBy : Kind → Counts → Type 0
RowsBy Graph c = Unit {0}
RowsBy Coordinates c = c.rows ≡ c.nodes
RowsBy Sites c = Unit {0}

abbrev pub GivenBy : Kind → ℕ → Counts → Type 0
GivenBy Graph given c = Unit {0}
GivenBy Coordinates given c = c.nodes ≡ given
GivenBy Sites given c = c.nodes ≡ given

-- what an accepted reading of those lines is known to be
pub record Accepted (R : Rules) (ls : List (List ℕ)) (c : Counts) (es : List Entry) : Type 0 where
  pub entries : es ≡ entries_of R.kind R.given ls
  pub full : length es ≡ c.rows
  pub room : c.rows ≤ R.room
  pub most : c.rows ≤ most_rows R.limits R.kind
  pub some : 1 ≤ c.nodes
  pub nodes : c.nodes ≤ R.limits.nodes
  pub rows : RowsBy R.kind c
  pub given : GivenBy R.kind R.given c
  pub fine : AllFine R.limits c.nodes es
  pub of_kind : AllOf R.kind es
  pub distinct : DistinctBy R.kind es

pub never : {fault : Fault} {place : ℕ} {c : Counts} {es : List Entry} → refused fault place ≡ read c es → ⊥
never h = let z : ◌≡◌ {A = ℕ} 0 1 = cc in omega arith

-- ---- an entry without fault

pub record ArcFine (L : Limits) (n u v w : ℕ) : Type 0 where
  pub tail_low : 1 ≤ u
  pub tail_high : u ≤ n
  pub head_low : 1 ≤ v
  pub head_high : v ≤ n
  pub weight_low : 1 ≤ w
  pub weight_high : w ≤ L.weight

pub arc_fine : (L : Limits) (n u v w : ℕ) → entry_fault L n (Arc u v w) ≡ fine → ArcFine L n u v w
arc_fine L n u v w h =
    let p = passed (within 1 u n && within 1 v n) (cond (is_weight L w) fine (Err ValueOutside)) NodeOutside h in
    let q = both (within 1 u n) (within 1 v n) p.0 in
    let tail = within_is 1 u n q.0 in
    let head = within_is 1 v n q.1 in
    let weight = within_is 1 w L.weight (passed (is_weight L w) fine ValueOutside p.1).0 in
    record { tail_low = tail.0; tail_high = tail.1; head_low = head.0; head_high = head.1; weight_low = weight.0; weight_high = weight.1 }

pub record PointFine (L : Limits) (n v : ℕ) (x y : ℤ) : Type 0 where
  pub low : 1 ≤ v
  pub high : v ≤ n
  pub x_most : nat_abs x ≤ L.coordinate
  pub y_most : nat_abs y ≤ L.coordinate

pub point_fine : (L : Limits) (n v : ℕ) (x y : ℤ) → entry_fault L n (Point v x y) ≡ fine → PointFine L n v x y
point_fine L n v x y h =
    let p = passed (within 1 v n) (cond (is_coordinate L x && is_coordinate L y) fine (Err ValueOutside)) NodeOutside h in
    let node = within_is 1 v n p.0 in
    let q = both (is_coordinate L x) (is_coordinate L y) (passed (is_coordinate L x && is_coordinate L y) fine ValueOutside p.1).0 in
    record { low = node.0; high = node.1; x_most = leb-true (nat_abs x) L.coordinate q.0; y_most = leb-true (nat_abs y) L.coordinate q.1 }

pub record NodeFine (n v : ℕ) : Type 0 where
  pub low : 1 ≤ v
  pub high : v ≤ n

pub site_fine : (L : Limits) (n v : ℕ) → entry_fault L n (Site v) ≡ fine → NodeFine n v
site_fine L n v h = let node = within_is 1 v n (passed (within 1 v n) fine NodeOutside h).0 in record { low = node.0; high = node.1 }

pub node_fine : (L : Limits) (n : ℕ) (e : Entry) → entry_fault L n e ≡ fine → NodeFine n (node_of e)
node_fine L n (Arc u v w) h = let a = arc_fine L n u v w h in record { low = a.tail_low; high = a.tail_high }
node_fine L n (Point v x y) h = let a = point_fine L n v x y h in record { low = a.low; high = a.high }
node_fine L n (Site v) h = site_fine L n v h

-- ---- what a line of a text can say

abbrev CountsBy : Kind → ℕ → Counts → Type 0
CountsBy Graph given c = Unit {0}
CountsBy Coordinates given c = c.rows ≡ c.nodes
CountsBy Sites given c = c.nodes ≡ given

abbrev pub LineBy : Kind → ℕ → Line → Type 0
LineBy kind given Nothing = Unit {0}
LineBy kind given (Problem c) = CountsBy kind given c
LineBy kind given (Data e) = IsOf kind e
LineBy kind given Malformed = Unit {0}

either : (kind : Kind) (given : ℕ) (b : Bool) (x y : Line) → LineBy kind given x → LineBy kind given y → LineBy kind given (cond b x y)
either kind given true x y p q = p
either kind given false x y p q = q

graph_counts_lem : (given : ℕ) (n m : Option ℕ) → LineBy Graph given (graph_counts n m)
graph_counts_lem given (Some n) (Some m) = tt
graph_counts_lem given (Some n) None = tt
graph_counts_lem given None m = tt

point_counts_lem : (given : ℕ) (n : Option ℕ) → LineBy Coordinates given (point_counts n)
point_counts_lem given (Some n) = refl
point_counts_lem given None = tt

site_counts_lem : (given : ℕ) (s : Option ℕ) → LineBy Sites given (site_counts given s)
site_counts_lem given (Some s) = refl
site_counts_lem given None = tt

arc_data_lem : (given : ℕ) (u v w : Option ℕ) → LineBy Graph given (arc_data u v w)
arc_data_lem given (Some u) (Some v) (Some w) = tt
arc_data_lem given (Some u) (Some v) None = tt
arc_data_lem given (Some u) None w = tt
arc_data_lem given None v w = tt

point_data_lem : (given : ℕ) (v : Option ℕ) (x y : Option ℤ) → LineBy Coordinates given (point_data v x y)
point_data_lem given (Some v) (Some x) (Some y) = tt
point_data_lem given (Some v) (Some x) None = tt
point_data_lem given (Some v) None y = tt
point_data_lem given None x y = tt

site_data_lem : (given : ℕ) (v : Option ℕ) → LineBy Sites given (site_data v)
site_data_lem given (Some v) = tt
site_data_lem given None = tt

problem_by : (kind : Kind) (given : ℕ) (fs : List (List ℕ)) → LineBy kind given (problem_of kind given fs)
problem_by Graph given fs =
    either Graph given (same (first fs) word_sp) (graph_counts (number (first (others fs))) (last_number (others (others fs)))) Malformed
    (graph_counts_lem given (number (first (others fs))) (last_number (others (others fs)))) tt
problem_by Coordinates given fs = point_counts_lem given (aux_count word_co fs)
problem_by Sites given fs = site_counts_lem given (aux_count word_ss fs)

data_by : (kind : Kind) (given : ℕ) (word : List ℕ) (fs : List (List ℕ)) → LineBy kind given (data_of kind word fs)
data_by Graph given word fs =
    either Graph given (same word word_a) (arc_data (number (first fs)) (number (first (others fs))) (last_number (others (others fs)))) Malformed
    (arc_data_lem given (number (first fs)) (number (first (others fs))) (last_number (others (others fs)))) tt
data_by Coordinates given word fs =
    either Coordinates given (same word word_v) (point_data (number (first fs)) (signed (first (others fs))) (last_signed (others (others fs)))) Malformed
    (point_data_lem given (number (first fs)) (signed (first (others fs))) (last_signed (others (others fs)))) tt
data_by Sites given word fs = either Sites given (same word word_s) (site_data (last_number fs)) Malformed (site_data_lem given (last_number fs)) tt

pub line_by : (kind : Kind) (given : ℕ) (fs : List (List ℕ)) → LineBy kind given (line_of kind given fs)
line_by kind given fs =
    either kind given (none fs || same (first fs) word_c) Nothing (cond (same (first fs) word_p) (problem_of kind given (others fs)) (data_of kind (first fs) (others fs))) tt
    (either kind given (same (first fs) word_p) (problem_of kind given (others fs)) (data_of kind (first fs) (others fs))
    (problem_by kind given (others fs)) (data_by kind given (first fs) (others fs)))

-- ---- one entry more

-- a node is among more entries if it is their last's or it was there
pub given_more : (v : ℕ) (es : List Entry) (e : Entry) → is_given v (es ++ e ∷ []) ≡ is_given v es || eqb (node_of e) v
given_more v [] e = last (eqb (node_of e) v)
  where
    last : (b : Bool) → b || false ≡ b
    last true = refl
    last false = refl
given_more v (d ∷ es) e = on (eqb (node_of d) v) (given_more v es e)
  where
    on : (b : Bool) → is_given v (es ++ e ∷ []) ≡ is_given v es || eqb (node_of e) v → b || is_given v (es ++ e ∷ []) ≡ b || is_given v es || eqb (node_of e) v
    on true h = refl
    on false h = h

distinct_more : (es : List Entry) (e : Entry) → Distinct es → is_given (node_of e) es ≡ false → Distinct (es ++ e ∷ [])
distinct_more [] e a h = (refl, tt)
distinct_more (d ∷ es) e a h =
    let p = neither (eqb (node_of d) (node_of e)) (is_given (node_of e) es) h in
    let other : eqb (node_of e) (node_of d) ≡ false = ne_eqb (node_of e) (node_of d) (λ s. eqb-false (node_of d) (node_of e) p.0 (sym s)) in
    (given_more (node_of d) es e ∙ rw (a.0, other), distinct_more es e a.1 p.1)

distinct_by : (kind : Kind) (es : List Entry) (e : Entry) → IsOf kind e → DistinctBy kind es → repeated e es ≡ false → DistinctBy kind (es ++ e ∷ [])
distinct_by Graph es e k a h = tt
distinct_by Coordinates es (Arc u v w) k a h = absurd k
distinct_by Coordinates es (Point v x y) k a h = distinct_more es (Point v x y) a h
distinct_by Coordinates es (Site v) k a h = absurd k
distinct_by Sites es (Arc u v w) k a h = absurd k
distinct_by Sites es (Point v x y) k a h = absurd k
distinct_by Sites es (Site v) k a h = distinct_more es (Site v) a h

distinct_none : (kind : Kind) → DistinctBy kind []
distinct_none Graph = tt
distinct_none Coordinates = tt
distinct_none Sites = tt

-- ---- the fold, once begun

record Held (R : Rules) (c : Counts) (es : List Entry) : Type 0 where
  pub fine : AllFine R.limits c.nodes es
  pub of_kind : AllOf R.kind es
  pub distinct : DistinctBy R.kind es

record Grown (R : Rules) (d : Counts) (ds rest : List Entry) (c : Counts) (es : List Entry) : Type 0 where
  pub counts : c ≡ d
  pub entries : es ≡ ds ++ rest
  pub full : length es ≡ c.rows
  pub held : Held R c es

grown_end : (R : Rules) (d : Counts) (ds : List Entry) (c : Counts) (es : List Entry) (t : Bool) → eqb (length ds) d.rows ≡ t → Held R d ds
    → finish (begun d ds) ≡ read c es → Grown R d ds [] c es
grown_end R d ds c es false a k h = absurd (never (rw a at h))
grown_end R d ds c es true a k h =
    let g : read d ds ≡ read c es = rw a at h in
    let gc : d ≡ c = cc in
    let ge : ds ≡ es = cc in
    rw (← gc, ← ge) record { counts = refl; entries = sym (append-nil ds); full = eqb-true (length ds) d.rows a; held = k }

module _ (R : Rules) (d : Counts) (ds rest : List Entry) (c : Counts) (es : List Entry) (k : ℕ) (f : Progress → Reading)
    (ih : (js : List Entry) → Held R d js → f (begun d js) ≡ read c es → Grown R d js rest c es) (held : Held R d ds) where
  grown_data : (e : Entry) → IsOf R.kind e → (t : Bool) (u : Test) (v : Bool) → leb d.rows (length ds) ≡ t → entry_fault R.limits d.nodes e ≡ u → repeated e ds ≡ v
      → on_next (step R (begun d ds) (Data e)) k f ≡ read c es → Grown R d ds (e ∷ rest) c es
  grown_data e o true u v x y z h = absurd (never (sym (ap (λ (n : Next). on_next n k f) ((line_order R).full d ds e (leb-true d.rows (length ds) x))) ∙ h))
  grown_data e o false (Err fault) v x y z h = absurd (never (rw (x, y) at h))
  grown_data e o false (Ok passed) true x y z h = absurd (never (rw (x, y, z) at h))
  grown_data e o false (Ok passed) false x y z h =
      let g : Grown R d (ds ++ e ∷ []) rest c es
      = ih (ds ++ e ∷ []) record {
        fine = all_more (λ b. entry_fault R.limits d.nodes b ≡ fine) ds e held.fine y;
        of_kind = all_more (IsOf R.kind) ds e held.of_kind o;
        distinct = distinct_by R.kind ds e o held.distinct z;
      } (rw (x, y, z) at h) in
      record { counts = g.counts; entries = g.entries ∙ append_assoc ds (e ∷ []) rest; full = g.full; held = g.held }

  grown_line : (l : Line) → LineBy R.kind R.given l → on_next (step R (begun d ds) l) k f ≡ read c es → Grown R d ds (with_data l rest) c es
  grown_line Nothing o h = ih ds held h
  grown_line (Problem b) o h = absurd (never h)
  grown_line (Data e) o h = grown_data e o (leb d.rows (length ds)) (entry_fault R.limits d.nodes e) (repeated e ds) refl refl refl h
  grown_line Malformed o h = absurd (never h)

grown : (R : Rules) (ls : List (List ℕ)) (d : Counts) (ds : List Entry) (k : ℕ) (c : Counts) (es : List Entry) → Held R d ds
    → read_from R ls (begun d ds) k ≡ read c es → Grown R d ds (entries_of R.kind R.given ls) c es
grown R [] d ds k c es held h = grown_end R d ds c es (eqb (length ds) d.rows) refl held h
grown R (l ∷ ls) d ds k c es held h =
    grown_line R d ds (entries_of R.kind R.given ls) c es (suc k) (λ p. read_from R ls p (suc k))
    (λ js kept q. grown R ls d js (suc k) c es kept q) held (line_of R.kind R.given (fields (trim l))) (line_by R.kind R.given (fields (trim l))) h

-- ---- the problem line

record Counted (R : Rules) (c : Counts) : Type 0 where
  pub room : c.rows ≤ R.room
  pub most : c.rows ≤ most_rows R.limits R.kind
  pub some : 1 ≤ c.nodes
  pub nodes : c.nodes ≤ R.limits.nodes
  pub rows : RowsBy R.kind c
  pub given : GivenBy R.kind R.given c

rows_by : (kind : Kind) (given : ℕ) (c : Counts) → CountsBy kind given c → RowsBy kind c
rows_by Graph given c o = tt
rows_by Coordinates given c o = o
rows_by Sites given c o = tt

given_by : (kind : Kind) (given : ℕ) (c : Counts) → CountsBy kind given c → agrees kind given c.nodes ≡ true → GivenBy kind given c
given_by Graph given c o h = tt
given_by Coordinates given c o h = eqb-true c.nodes given h
given_by Sites given c o h = o

counted : (R : Rules) (c : Counts) → CountsBy R.kind R.given c → counts_fault R c ≡ fine → Counted R c
counted R c o h =
    let inside : Bool = within 1 c.nodes R.limits.nodes in
    let few : Bool = leb c.rows (most_rows R.limits R.kind) in
    let own : Bool = agrees R.kind R.given c.nodes in
    let p = passed (inside && (few && own)) (cond (leb c.rows R.room) fine (Err TableShort)) CountOutside h in
    let q = both inside (few && own) p.0 in
    let s = both few own q.1 in
    let n = within_is 1 c.nodes R.limits.nodes q.0 in
    record {
      room = leb-true c.rows R.room (passed (leb c.rows R.room) fine TableShort p.1).0;
      most = leb-true c.rows (most_rows R.limits R.kind) s.0;
      some = n.0;
      nodes = n.1;
      rows = rows_by R.kind R.given c o;
      given = given_by R.kind R.given c o s.1;
    }

record Ended (R : Rules) (rest : List Entry) (c : Counts) (es : List Entry) : Type 0 where
  pub entries : es ≡ rest
  pub full : length es ≡ c.rows
  pub counts : Counted R c
  pub held : Held R c es

module _ (R : Rules) (rest : List Entry) (c : Counts) (es : List Entry) (k : ℕ) (f : Progress → Reading) (ih : f awaiting ≡ read c es → Ended R rest c es)
    (then : (d : Counts) → f (begun d []) ≡ read c es → Grown R d [] rest c es) where
  begins : (d : Counts) → CountsBy R.kind R.given d → (t : Test) → counts_fault R d ≡ t → on_next (step R awaiting (Problem d)) k f ≡ read c es
      → Ended R rest c es
  begins d o (Err fault) a h = absurd (never (rw a at h))
  begins d o (Ok passed) a h =
      let g = then d (rw a at h) in
      record {
        entries = g.entries;
        full = g.full;
        counts = subst (Counted R) (sym g.counts) (counted R d o a);
        held = g.held;
      }

  awaits : (l : Line) → LineBy R.kind R.given l → on_next (step R awaiting l) k f ≡ read c es → Ended R (with_data l rest) c es
  awaits Nothing o h = ih h
  awaits (Problem d) o h = begins d o (counts_fault R d) refl h
  awaits (Data e) o h = absurd (never h)
  awaits Malformed o h = absurd (never h)

ended : (R : Rules) (ls : List (List ℕ)) (k : ℕ) (c : Counts) (es : List Entry) → read_from R ls awaiting k ≡ read c es → Ended R (entries_of R.kind R.given ls) c es
ended R [] k c es h = absurd (never h)
ended R (l ∷ ls) k c es h =
    awaits R (entries_of R.kind R.given ls) c es (suc k) (λ p. read_from R ls p (suc k)) (λ q. ended R ls (suc k) c es q)
    (λ d q. grown R ls d [] (suc k) c es record { fine = tt; of_kind = tt; distinct = distinct_none R.kind } q)
    (line_of R.kind R.given (fields (trim l))) (line_by R.kind R.given (fields (trim l))) h

-- ---- an accepted reading, of lines and of a text

pub lines_accepted : (R : Rules) (ls : List (List ℕ)) (k : ℕ) (c : Counts) (es : List Entry) → read_from R ls awaiting k ≡ read c es → Accepted R ls c es
lines_accepted R ls k c es h =
    let e = ended R ls k c es h in
    record {
      entries = e.entries;
      full = e.full;
      room = e.counts.room;
      most = e.counts.most;
      some = e.counts.some;
      nodes = e.counts.nodes;
      rows = e.counts.rows;
      given = e.counts.given;
      fine = e.held.fine;
      of_kind = e.held.of_kind;
      distinct = e.held.distinct;
    }

-- an accepted text passed the tests before its lines
pub record Judged (R : Rules) (text : List ℕ) (c : Counts) (es : List Entry) : Type 0 where
  pub short : length text ≤ R.limits.text
  pub handed : handed_in R.limits R.kind R.given ≡ true
  pub read_on : read_from R (lines text) awaiting 0 ≡ read c es

judged_by : (R : Rules) (text : List ℕ) (c : Counts) (es : List Entry) (t u : Bool) → leb (length text) R.limits.text ≡ t → handed_in R.limits R.kind R.given ≡ u
    → reading R text ≡ read c es → Judged R text c es
judged_by R text c es false u a b h = absurd (never (rw a at h))
judged_by R text c es true false a b h = absurd (never (rw (a, b) at h))
judged_by R text c es true true a b h = record { short = leb-true (length text) R.limits.text a; handed = b; read_on = rw (a, b) at h }

pub judged : (R : Rules) (text : List ℕ) (c : Counts) (es : List Entry) → reading R text ≡ read c es → Judged R text c es
judged R text c es h = judged_by R text c es (leb (length text) R.limits.text) (handed_in R.limits R.kind R.given) refl refl h

pub accepted : (R : Rules) (text : List ℕ) (c : Counts) (es : List Entry) → reading R text ≡ read c es → Accepted R (lines text) c es
accepted R text c es h = lines_accepted R (lines text) 0 c es (judged R text c es h).read_on

-- the data in front is what storing it from entry 0 on leaves, where there is room
pub front_sets : {A : Type 0} (value : Entry → A) (c : Counts) (es : List Entry) (xs : List A) → length es ≤ length xs
    → in_front value (read c es) xs ≡ sets xs 0 (map value es)
front_sets value c es xs h = let n = length-map es value in sym (sets-eq (map value es) xs 0 (omega arith) ∙ rw (zero-add, n))
