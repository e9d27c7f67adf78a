-- The reading of a text: a fold over its lines, one for the three texts, and what it leaves in the lent tables.
use Rattle.std.specs.Prelude.{ℕ, suc, Result, Ok, Err, ◌-◌, min, List, [], ◌∷◌, ◌++◌, map, Bool, true, false, cond, ◌&&◌, ◌||◌, ◌≡◌, length, drop, set, leb, eqb, ℤ, pos, nat_abs}
use Rattle.meaning.specs.Limits.{Test, fine, refusal}
use Rattle.meaning.specs.Text.{lines, trim, fields}
use Rattle.meaning.specs.Grammar.{line_of}
use Rattle.meaning.specs.declared.Limits.{Limits}
use Rattle.meaning.specs.declared.Fault.{Fault}
use Rattle.meaning.specs.declared.Fault.TheVariants.{TextTooLong, NotPermitted, ProblemMisplaced, CountOutside, NodeOutside, ValueOutside, DataMiscounted, GivenTwice, TableShort}
use Rattle.meaning.specs.declared.Refusal.{Refusal}
use Rattle.meaning.specs.declared.Kind.{Kind}
use Rattle.meaning.specs.declared.Kind.TheVariants.{Graph, Coordinates, Sites}
use Rattle.meaning.specs.declared.Rules.{Rules}
use Rattle.meaning.specs.declared.Counts.{Counts}
use Rattle.meaning.specs.declared.Entry.{Entry}
use Rattle.meaning.specs.declared.Entry.TheVariants.{Arc, Point, Site}
use Rattle.meaning.specs.declared.Line.{Line}
use Rattle.meaning.specs.declared.Line.TheVariants.{Nothing, Problem, Data, Malformed}

-- whether x lies from lo to hi
abbrev pub within : ℕ → ℕ → ℕ → Bool
within lo x hi = leb lo x && leb x hi

-- "Weight: 1 to 1,000,000."
abbrev pub is_weight : Limits → ℕ → Bool
is_weight L w = within 1 w L.weight

-- "X and Y: -200,000,000 to 200,000,000."
abbrev pub is_coordinate : Limits → ℤ → Bool
is_coordinate L z = leb (nat_abs z) L.coordinate

-- ---- a problem line: 4, 9

-- the most data lines: arcs, one for each node, sites
abbrev pub most_rows : Limits → Kind → ℕ
most_rows L Graph = L.arcs
most_rows L Coordinates = L.nodes
most_rows L Sites = L.sites

-- "the coordinate text's own N must equal it"
abbrev pub agrees : Kind → ℕ → ℕ → Bool
agrees Graph given n = true
agrees Coordinates given n = eqb n given
agrees Sites given n = true

-- the test of a problem line's counts
abbrev pub counts_fault : Rules → Counts → Test
counts_fault R c =
    cond (within 1 c.nodes R.limits.nodes && (leb c.rows (most_rows R.limits R.kind) && agrees R.kind R.given c.nodes))
    (cond (leb c.rows R.room) fine (Err TableShort))
    (Err CountOutside)

-- ---- a data line: 5, 6, 8

-- the test of an entry's nodes and values, where there are n nodes
abbrev pub entry_fault : Limits → ℕ → Entry → Test
entry_fault L n (Arc u v w) = cond (within 1 u n && within 1 v n) (cond (is_weight L w) fine (Err ValueOutside)) (Err NodeOutside)
entry_fault L n (Point v x y) = cond (within 1 v n) (cond (is_coordinate L x && is_coordinate L y) fine (Err ValueOutside)) (Err NodeOutside)
entry_fault L n (Site v) = cond (within 1 v n) fine (Err NodeOutside)

-- the node that an entry is of; an arc's is its tail
abbrev pub node_of : Entry → ℕ
node_of (Arc u v w) = u
node_of (Point v x y) = v
node_of (Site v) = v

-- whether an entry of that node is among the entries
abbrev pub is_given : ℕ → List Entry → Bool
is_given v [] = false
is_given v (e ∷ es) = eqb (node_of e) v || is_given v es

-- "each node once", "Sites are distinct"; "Self-loops and parallel arcs are allowed."
abbrev pub repeated : Entry → List Entry → Bool
repeated (Arc u v w) es = false
repeated (Point v x y) es = is_given v es
repeated (Site v) es = is_given v es

-- ---- the lines in order

-- how far a reading has come: no problem line yet, or its counts and the entries since
pub data Progress : Type 0 where
  awaiting : Progress
  begun : Counts → List Entry → Progress

-- what follows a line: a refusal, or the reading goes on
pub data Next : Type 0 where
  stop : Fault → Next
  go : Progress → Next

-- go on where a test passes
abbrev pub unless : Test → Next → Next
unless (Ok passed) n = n
unless (Err fault) n = stop fault

-- "problem line 2, 3, 4, 9; data line 2, 3, 7, 5, 6, 8"
abbrev pub step : Rules → Progress → Line → Next
step R p Nothing = go p
step R p Malformed = stop NotPermitted
step R awaiting (Problem c) = unless (counts_fault R c) (go (begun c []))
step R awaiting (Data e) = stop ProblemMisplaced
step R (begun c es) (Problem d) = stop ProblemMisplaced
step R (begun c es) (Data e) =
    cond (leb c.rows (length es)) (stop DataMiscounted)
    (unless (entry_fault R.limits c.nodes e) (cond (repeated e es) (stop GivenTwice) (go (begun c (es ++ e ∷ [])))))

-- a reading's result: the refusal and its place, or the counts and the data
pub data Reading : Type 0 where
  refused : Fault → ℕ → Reading
  read : Counts → List Entry → Reading

-- "at the end 3, then 7"
abbrev pub finish : Progress → Reading
finish awaiting = refused ProblemMisplaced 0
finish (begun c es) = cond (eqb (length es) c.rows) (read c es) (refused DataMiscounted 0)

-- a refusal at this line's place, or what follows
abbrev pub on_next : Next → ℕ → (Progress → Reading) → Reading
on_next (stop fault) place on = refused fault place
on_next (go p) place on = on p

-- "Lines and entries count from 1": what is left of the lines, after k of them
abbrev pub read_from : Rules → List (List ℕ) → Progress → ℕ → Reading
read_from R [] p k = finish p
read_from R (l ∷ ls) p k =
    on_next (step R p (line_of R.kind R.given (fields (trim l)))) (suc k) (λ next. read_from R ls next (suc k))

-- "The coordinate and site readers are given N."
abbrev pub handed_in : Limits → Kind → ℕ → Bool
handed_in L Graph n = true
handed_in L Coordinates n = within 1 n L.nodes
handed_in L Sites n = within 1 n L.nodes

-- "A reader tests 1, then a handed-in N (4), then lines in order."
abbrev pub reading : Rules → List ℕ → Reading
reading R text =
    cond (leb (length text) R.limits.text)
    (cond (handed_in R.limits R.kind R.given) (read_from R (lines text) awaiting 0) (refused CountOutside 0))
    (refused TextTooLong 0)

-- "It returns the counts of its problem line"; "Every refusal returns its number and a place"
abbrev pub answered : Reading → Result Counts Refusal
answered (refused fault place) = Err (refusal fault place)
answered (read c es) = Ok c

-- ---- the tables at exit

-- one value of every entry, in the text's order: "the first entries hold the data and later entries are unchanged"; "every lent buffer keeps its entry contents"
abbrev pub in_front : {A : Type 0} → (Entry → A) → Reading → List A → List A
in_front value (refused fault place) xs = xs
in_front value (read c es) xs = map value es ++ drop (length es) xs

-- each entry's value at its node
abbrev pub put_all : {A : Type 0} → (Entry → A) → List Entry → List A → List A
put_all value [] xs = xs
put_all value (e ∷ es) xs = put_all value es (set xs (node_of e - 1) (value e))

-- "coordinates by node number"
abbrev pub by_node : {A : Type 0} → (Entry → A) → Reading → List A → List A
by_node value (refused fault place) xs = xs
by_node value (read c es) xs = put_all value es xs

-- V of "a U V W"; U is the entry's node
abbrev pub head_of : Entry → ℕ
head_of (Arc u v w) = v
head_of (Point v x y) = 0
head_of (Site v) = 0

-- W of "a U V W"
abbrev pub weight_of : Entry → ℕ
weight_of (Arc u v w) = w
weight_of (Point v x y) = 0
weight_of (Site v) = 0

-- X of "v ID X Y"
abbrev pub x_of : Entry → ℤ
x_of (Arc u v w) = pos 0
x_of (Point v x y) = x
x_of (Site v) = pos 0

-- Y of "v ID X Y"
abbrev pub y_of : Entry → ℤ
y_of (Arc u v w) = pos 0
y_of (Point v x y) = y
y_of (Site v) = pos 0

-- ---- the three readers

-- a graph text is handed no N
abbrev pub graph_rules : Limits → ℕ → Rules
graph_rules L room = record { limits = L; kind = Graph; given = 0; room = room }

-- a coordinate text is handed N
abbrev pub coordinate_rules : Limits → ℕ → ℕ → Rules
coordinate_rules L n room = record { limits = L; kind = Coordinates; given = n; room = room }

-- a site text is handed N
abbrev pub site_rules : Limits → ℕ → ℕ → Rules
site_rules L n room = record { limits = L; kind = Sites; given = n; room = room }

-- "data table shorter than its count": the room is the shortest of the three columns
abbrev pub graph_reading : Limits → List ℕ → List ℕ → List ℕ → List ℕ → Reading
graph_reading L text tails heads weights = reading (graph_rules L (min (length tails) (min (length heads) (length weights)))) text

-- the room is the shorter of the two columns
abbrev pub coordinate_reading : Limits → List ℕ → ℕ → List ℤ → List ℤ → Reading
coordinate_reading L text n xs ys = reading (coordinate_rules L n (min (length xs) (length ys))) text

-- the room is the one column's
abbrev pub site_reading : Limits → List ℕ → ℕ → List ℕ → Reading
site_reading L text n sites = reading (site_rules L n (length sites)) text

-- the outcome of the graph reader: the answer, and each lent table as it was and as it is left
pub record GraphRead (L : Limits) (text tails heads weights tails' heads' weights' : List ℕ) (answer : Result Counts Refusal) : Type 0 where
  pub answer_is : answer ≡ answered (graph_reading L text tails heads weights)
  pub tails_are : tails' ≡ in_front node_of (graph_reading L text tails heads weights) tails
  pub heads_are : heads' ≡ in_front head_of (graph_reading L text tails heads weights) heads
  pub weights_are : weights' ≡ in_front weight_of (graph_reading L text tails heads weights) weights

-- the outcome of the coordinate reader
pub record CoordinatesRead (L : Limits) (text : List ℕ) (n : ℕ) (xs ys xs' ys' : List ℤ) (answer : Result Counts Refusal) : Type 0 where
  pub answer_is : answer ≡ answered (coordinate_reading L text n xs ys)
  pub xs_are : xs' ≡ by_node x_of (coordinate_reading L text n xs ys) xs
  pub ys_are : ys' ≡ by_node y_of (coordinate_reading L text n xs ys) ys

-- the outcome of the site reader
pub record SitesRead (L : Limits) (text : List ℕ) (n : ℕ) (sites sites' : List ℕ) (answer : Result Counts Refusal) : Type 0 where
  pub answer_is : answer ≡ answered (site_reading L text n sites)
  pub sites_are : sites' ≡ in_front node_of (site_reading L text n sites) sites
