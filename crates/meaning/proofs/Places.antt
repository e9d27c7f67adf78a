-- Every refusal has one of the paper's thirteen numbers, and a place within the text or the tables.
use Prim.Native.Nat.{ℕ, zero, suc, ◌+◌, ◌-◌, ◌≤◌}
use mathlib.Core.Path.{◌≡◌, refl, sym, ap, ◌∙◌}
use mathlib.Core.Bool.{Bool, true, false, cond, ◌&&◌}
use mathlib.Core.List.{List, [], ◌∷◌}
use native.Mathlib.Omega.{arith}
use lib.Dec.{leb, eqb}
use lib.ListN.{length, get_or}
use borrow.Author.Tests.{leb-true}
use Rattle.std.specs.Prelude.{Ok, Err}
use Rattle.meaning.specs.Limits.{Test, fault_number, refusal, and_then, at}
use Rattle.meaning.specs.Text.{joined, lines, trim, fields}
use Rattle.meaning.specs.Grammar.{line_of}
use Rattle.meaning.specs.Files.{within, Progress, awaiting, begun, Next, stop, go, step, Reading, refused, read, finish, on_next, read_from, handed_in, reading}
use Rattle.meaning.specs.Region.{Tables, Rooms}
use Rattle.meaning.specs.Checks.{Verdict, need, first_fault, counts_fit, tables_fit, rooms_fit, point_fault, arc_fault, site_fault, inspect}
use Rattle.meaning.specs.declared.Limits.{Limits}
use Rattle.meaning.specs.declared.Fault.{Fault}
use Rattle.meaning.specs.declared.Fault.TheVariants.{TextTooLong, NotPermitted, ProblemMisplaced, CountOutside, NodeOutside, ValueOutside, DataMiscounted, GivenTwice, TableShort, ArcShort, QueryOutside, KOutside, RoomShort}
use Rattle.meaning.specs.declared.Refusal.{Refusal}
use Rattle.meaning.specs.declared.Rules.{Rules}
use Rattle.meaning.proofs.Tests.{both, within_is}

-- ---- the numbers

pub numbered : (fault : Fault) → (1 ≤ fault_number fault) × (fault_number fault ≤ 13)
numbered TextTooLong = (omega arith, omega arith)
numbered NotPermitted = (omega arith, omega arith)
numbered ProblemMisplaced = (omega arith, omega arith)
numbered CountOutside = (omega arith, omega arith)
numbered NodeOutside = (omega arith, omega arith)
numbered ValueOutside = (omega arith, omega arith)
numbered DataMiscounted = (omega arith, omega arith)
numbered GivenTwice = (omega arith, omega arith)
numbered TableShort = (omega arith, omega arith)
numbered ArcShort = (omega arith, omega arith)
numbered QueryOutside = (omega arith, omega arith)
numbered KOutside = (omega arith, omega arith)
numbered RoomShort = (omega arith, omega arith)

-- the refusals in the order of their numbers, so that each is found again by its own
abbrev numbers : List Fault
numbers =
    TextTooLong ∷ NotPermitted ∷ ProblemMisplaced ∷ CountOutside ∷ NodeOutside ∷ ValueOutside ∷ DataMiscounted ∷ GivenTwice ∷ TableShort ∷ ArcShort ∷ QueryOutside ∷ KOutside ∷ RoomShort ∷ []

found : (fault : Fault) → get_or numbers (fault_number fault - 1) RoomShort ≡ fault
found TextTooLong = refl
found NotPermitted = refl
found ProblemMisplaced = refl
found CountOutside = refl
found NodeOutside = refl
found ValueOutside = refl
found DataMiscounted = refl
found GivenTwice = refl
found TableShort = refl
found ArcShort = refl
found QueryOutside = refl
found KOutside = refl
found RoomShort = refl

-- no two refusals have the same number
pub same_fault : (a b : Fault) → fault_number a ≡ fault_number b → a ≡ b
same_fault a b h = sym (found a) ∙ ap (λ (n : ℕ). get_or numbers (n - 1) RoomShort) h ∙ found b

-- a refusal with one of the paper's numbers, at most so far
pub record At (most : ℕ) (refusal : Refusal) : Type 0 where
  pub some : 1 ≤ fault_number refusal.fault
  pub tabled : fault_number refusal.fault ≤ 13
  pub near : refusal.place ≤ most

at_place : (most : ℕ) (fault : Fault) (place : ℕ) → place ≤ most → At most (refusal fault place)
at_place most fault place h = record { some = (numbered fault).0; tabled = (numbered fault).1; near = h }

at_end : (most : ℕ) (fault : Fault) → At most (refusal fault 0)
at_end most fault = at_place most fault 0 (omega arith)

-- ---- a text

-- "After the last LF there is a further line only if bytes follow": a text has no more lines than bytes
few_joined : (b : ℕ) (ls : List (List ℕ)) (n : ℕ) → length ls ≤ n → length (joined b ls) ≤ suc n
few_joined b [] n h = omega arith
few_joined b (l ∷ ls) n h = omega arith

pub few_lines : (text : List ℕ) → length (lines text) ≤ length text
few_lines [] = omega arith
few_lines (b ∷ bs) = by (eqb b 10) (few_lines bs)
  where
    by : (t : Bool) → length (lines bs) ≤ length bs → length (cond t ([] ∷ lines bs) (joined b (lines bs))) ≤ suc (length bs)
    by true h = omega arith
    by false h = few_joined b (lines bs) (length bs) h

-- a reading's refusal, if it is one
abbrev pub ReadAt : ℕ → Reading → Type 0
ReadAt most (refused fault place) = At most (refusal fault place)
ReadAt most (read c es) = Unit {0}

read_if : (b : Bool) (most : ℕ) (r s : Reading) → (b ≡ true → ReadAt most r) → ReadAt most s → ReadAt most (cond b r s)
read_if true most r s h k = h refl
read_if false most r s h k = k

finish_at : (p : Progress) (most : ℕ) → ReadAt most (finish p)
finish_at awaiting most = at_end most ProblemMisplaced
finish_at (begun c es) most = read_if (eqb (length es) c.rows) most (read c es) (refused DataMiscounted 0) (λ t. tt) (at_end most DataMiscounted)

next_at : (n : Next) (place most : ℕ) → place ≤ most → (on : Progress → Reading) → ((p : Progress) → ReadAt most (on p)) → ReadAt most (on_next n place on)
next_at (stop fault) place most h on k = at_place most fault place h
next_at (go p) place most h on k = k p

lines_at : (R : Rules) (ls : List (List ℕ)) (p : Progress) (k most : ℕ) → k + length ls ≤ most → ReadAt most (read_from R ls p k)
lines_at R [] p k most h = finish_at p most
lines_at R (l ∷ ls) p k most h =
    next_at (step R p (line_of R.kind R.given (fields (trim l)))) (suc k) most (omega arith)
    (λ next. read_from R ls next (suc k)) (λ next. lines_at R ls next (suc k) most (omega arith))

-- the place of a refused text is one of its lines, or 0
pub reading_at : (R : Rules) (text : List ℕ) → ReadAt R.limits.text (reading R text)
reading_at R text =
    read_if (leb (length text) R.limits.text) R.limits.text _ (refused TextTooLong 0)
    (λ t. read_if (handed_in R.limits R.kind R.given) R.limits.text (read_from R (lines text) awaiting 0) (refused CountOutside 0)
    (λ u. let few = few_lines text in let short = leb-true (length text) R.limits.text t in lines_at R (lines text) awaiting 0 R.limits.text (omega arith))
    (at_end R.limits.text CountOutside))
    (at_end R.limits.text TextTooLong)

-- ---- the tables

-- a verdict's refusal, if it is one
abbrev pub FaultAt : ℕ → Verdict → Type 0
FaultAt most (Ok passed) = Unit {0}
FaultAt most (Err why) = At most why

need_at : (b : Bool) (fault : Fault) (most : ℕ) (v : Verdict) → (b ≡ true → FaultAt most v) → FaultAt most (need b fault v)
need_at true fault most v h = h refl
need_at false fault most v h = at_end most fault

then_at : (most : ℕ) (v w : Verdict) → FaultAt most v → FaultAt most w → FaultAt most (and_then v w)
unfolding and_then
then_at most (Ok passed) w a b = b
then_at most (Err why) w a b = a

entry_at : (most place : ℕ) (test : Test) → place ≤ most → FaultAt most (at place test)
entry_at most place (Ok passed) h = tt
entry_at most place (Err fault) h = at_place most fault place h

first_at : (most : ℕ) (test : ℕ → Test) (n : ℕ) → n ≤ most → FaultAt most (first_fault test n)
unfolding first_fault
first_at most test zero h = tt
first_at most test (suc i) h =
    then_at most (first_fault test i) (at (i + 1) (test i)) (first_at most test i (omega arith)) (entry_at most (i + 1) (test i) (omega arith))

-- the place of a refused search is a node, an arc or a site of the tables, or 0
pub inspect_at : (L : Limits) (t : Tables) (q k : ℕ) (r : Rooms) → FaultAt (L.nodes + L.arcs + L.sites) (inspect L t q k r)
unfolding inspect
inspect_at L t q k r =
    need_at (counts_fit L t) CountOutside most _
    (λ c. let d = both (within 1 t.n L.nodes) (leb t.m L.arcs && leb t.s L.sites) c in
    let e = both (leb t.m L.arcs) (leb t.s L.sites) d.1 in
    let n = (within_is 1 t.n L.nodes d.0).1 in
    let m = leb-true t.m L.arcs e.0 in
    let s = leb-true t.s L.sites e.1 in
    need_at (tables_fit t) TableShort most _
    (λ x. need_at (within 1 q t.n) QueryOutside most _
    (λ y. need_at (within 1 k L.k) KOutside most _
    (λ z. need_at (rooms_fit t.n k r) RoomShort most _
    (λ w. then_at most (first_fault (point_fault L t) t.n) _ (first_at most (point_fault L t) t.n (omega arith))
    (then_at most (first_fault (arc_fault L t) t.m) (first_fault (site_fault L t) t.s) (first_at most (arc_fault L t) t.m (omega arith))
    (first_at most (site_fault L t) t.s (omega arith))))))))
  where
    most : ℕ
    most = L.nodes + L.arcs + L.sites
