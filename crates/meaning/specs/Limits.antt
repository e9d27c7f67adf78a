-- The paper's limits as one record, its refusals by name and number, and tests that may end in one.
use Rattle.std.specs.Prelude.{ℕ, Result, Ok, Err}
use Rattle.meaning.specs.declared.Limits.{Limits}
use Rattle.meaning.specs.declared.Fault.{Fault}
use Rattle.meaning.specs.declared.Fault.TheVariants.{TextTooLong, NotPermitted, ProblemMisplaced, CountOutside, NodeOutside, ValueOutside, DataMiscounted, GivenTwice, TableShort, ArcShort, QueryOutside, KOutside, RoomShort}
use Rattle.meaning.specs.declared.Refusal.{Refusal}

-- "A text is at most 65,536 bytes. Nodes N: 1 to 1,024. Arcs M: 0 to 4,096. Sites S: 0 to 128. Weight: 1 to 1,000,000.
-- X and Y: -200,000,000 to 200,000,000. k: 1 to 32."
abbrev pub base : Limits
base = record { text = 65536; nodes = 1024; arcs = 4096; sites = 128; weight = 1000000; coordinate = 200000000; k = 32 }

-- "The panel call's k, and so the list program's, becomes 4." (E1)
abbrev pub panel_k : ℕ
panel_k = 4

-- the paper's numbers of the refusals
abbrev pub fault_number : Fault → ℕ
-- "text over 65,536 bytes"
fault_number TextTooLong = 1
-- "line not of a permitted form for that text"
fault_number NotPermitted = 2
-- "data before the problem line, a second problem line, or none"
fault_number ProblemMisplaced = 3
-- "a count out of its limits, or N that differs"
fault_number CountOutside = 4
-- "node number outside 1 to N"
fault_number NodeOutside = 5
-- "weight or coordinate out of range"
fault_number ValueOutside = 6
-- "one data line too many, or too few at the end"
fault_number DataMiscounted = 7
-- "node given twice in coordinates or sites"
fault_number GivenTwice = 8
-- "data table shorter than its count"
fault_number TableShort = 9
-- "arc shorter than the straight line"
fault_number ArcShort = 10
-- "query node outside 1 to N"
fault_number QueryOutside = 11
-- "k outside 1 to 32"
fault_number KOutside = 12
-- "work or answer buffer too short"
fault_number RoomShort = 13

-- "Every refusal returns its number and a place"
abbrev pub refusal : Fault → ℕ → Refusal
refusal fault place = record { fault = fault; place = place }

-- ---- tests

-- what a test says: nothing, or the refusal's name
abbrev pub Test : Type 0
Test = Result (Unit {0}) Fault

-- it passes
abbrev pub fine : Test
fine = Ok tt

-- the later test, where the earlier one passes; of tests that know their place too
unfoldable pub and_then : {A : Type 0} → Result (Unit {0}) A → Result (Unit {0}) A → Result (Unit {0}) A
and_then (Ok passed) later = later
and_then (Err refused) later = Err refused

-- a test's refusal, with its place
abbrev pub at : ℕ → Test → Result (Unit {0}) Refusal
at place (Ok passed) = Ok passed
at place (Err fault) = Err (refusal fault place)
