-- Worked texts at the borders that the paper names: what the reading of each comes to, in one table.
use Prim.Native.Nat.{ℕ}
use Prim.Native.Char.{code}
use Prim.Native.String.{String, [] as []ˢ, ◌∷◌ as ◌∷ˢ◌}
use mathlib.Core.Path.{◌≡◌, refl}
use mathlib.Core.List.{List, [], ◌∷◌, map}
use lib.IntN.{pos, neg_ℤ}
use Rattle.meaning.specs.Limits.{base}
use Rattle.meaning.specs.Files.{Reading, refused, read, reading, graph_rules, coordinate_rules, site_rules}
use Rattle.meaning.specs.declared.Limits.{Limits}
use Rattle.meaning.specs.declared.Fault.TheVariants.{TextTooLong, NotPermitted, ProblemMisplaced, CountOutside, NodeOutside, ValueOutside, DataMiscounted, GivenTwice, TableShort}
use Rattle.meaning.specs.declared.Rules.{Rules}
use Rattle.meaning.specs.declared.Entry.{Entry}
use Rattle.meaning.specs.declared.Entry.TheVariants.{Arc, Point, Site}

abbrev pub bytes : String → List ℕ
bytes []ˢ = []
bytes (c ∷ˢ s) = code c ∷ bytes s

pub record Case : Type 0 where
  pub rules : Rules
  pub text : String
  pub wanted : Reading

abbrev pub case : Rules → String → Reading → Case
case R s r = record { rules = R; text = s; wanted = r }

abbrev pub has : ℕ → ℕ → List Entry → Reading
has n m es = read (record { nodes = n; rows = m }) es

-- a graph text with room for three arcs, coordinates and sites of n nodes with room for that many, and a limit of four bytes
abbrev pub graph : Rules
graph = graph_rules base 3

abbrev pub points : ℕ → ℕ → Rules
points n room = coordinate_rules base n room

abbrev pub sites : ℕ → ℕ → Rules
sites n room = site_rules base n room

abbrev pub tiny : Limits
tiny = record { text = 4; nodes = 1; arcs = 1; sites = 1; weight = 1; coordinate = 1; k = 1 }

abbrev pub cases : List Case
cases =
    -- lines, ends, comments
    case graph "" (refused ProblemMisplaced 0)
    ∷ case graph "c only\n\n" (refused ProblemMisplaced 0)
    ∷ case graph "p sp 1 0" (has 1 0 [])
    ∷ case graph "p sp 1 0\r" (has 1 0 [])
    ∷ case graph "p sp 1 0\r\r\n" (refused NotPermitted 1)
    ∷ case graph "\r\n \t\r\nc\n c\ta 1\np sp 1 0\n\nc end" (has 1 0 [])
    ∷ case graph "\r\r\np sp 1 0" (refused NotPermitted 1)
    ∷ case graph "c\r\r\np sp 1 0" (refused NotPermitted 1)
    ∷ case graph "\ncfoo\np sp 1 0" (refused NotPermitted 2)
    ∷ case graph "C x\np sp 1 0" (refused NotPermitted 1)
    ∷ case graph "p sp 1 0 c x" (refused NotPermitted 1)
    -- numbers and counts
    ∷ case graph "p sp 999999999 0" (refused CountOutside 1)
    ∷ case graph "p sp 1000000000 0" (refused NotPermitted 1)
    ∷ case graph "p sp 0000000001 0" (refused NotPermitted 1)
    ∷ case graph "p sp 000000001 0" (has 1 0 [])
    ∷ case graph "p sp 1024 0" (has 1024 0 [])
    ∷ case graph "p sp 1025 0" (refused CountOutside 1)
    ∷ case graph "p sp 0 0" (refused CountOutside 1)
    ∷ case graph "p sp -0 0" (refused NotPermitted 1)
    ∷ case graph "p sp 1 4" (refused TableShort 1)
    ∷ case graph "p sp 1 4097" (refused CountOutside 1)
    -- arcs
    ∷ case graph "p sp 2 3\n\ta 1  2\t1000000\na 1 1 5\r\n a 1 1 5 " (has 2 3 (Arc 1 2 1000000 ∷ Arc 1 1 5 ∷ Arc 1 1 5 ∷ []))
    ∷ case graph "p sp 2 1\na 1 2 0" (refused ValueOutside 2)
    ∷ case graph "p sp 2 1\na 1 2 1000001" (refused ValueOutside 2)
    ∷ case graph "p sp 2 1\na 1 2 -1" (refused NotPermitted 2)
    ∷ case graph "p sp 2 1\na 1 3 0" (refused NodeOutside 2)
    ∷ case graph "p sp 2 1\nv 1 2 3" (refused NotPermitted 2)
    -- problem and data lines out of place, too many, too few
    ∷ case graph "a 9 9 9\np sp 2 1" (refused ProblemMisplaced 1)
    ∷ case graph "a 9 9\np sp 2 1" (refused NotPermitted 1)
    ∷ case graph "p sp 2 1\np sp 9999 9999" (refused ProblemMisplaced 2)
    ∷ case graph "p sp 2 1\np sp 2" (refused NotPermitted 2)
    ∷ case graph "p sp 2 0\n\na 9 9 0" (refused DataMiscounted 3)
    ∷ case graph "p sp 2 0\na 9 9" (refused NotPermitted 2)
    ∷ case graph "p sp 2 1\n" (refused DataMiscounted 0)
    -- coordinates
    ∷ case (points 2 2) "p aux sp co 2\nv 2 -0 -200000000\nv 1 200000000 -000" (has 2 2 (Point 2 (pos 0) (neg_ℤ (pos 200000000)) ∷ Point 1 (pos 200000000) (pos 0) ∷ []))
    ∷ case (points 2 2) "p aux sp co 3" (refused CountOutside 1)
    ∷ case (points 2 1) "p aux sp co 2" (refused TableShort 1)
    ∷ case (points 0 2) "p aux" (refused CountOutside 0)
    ∷ case (points 1025 2) "" (refused CountOutside 0)
    ∷ case (points 2 2) "p aux sp co 2\nv 1 0 0\nv 1 0 0" (refused GivenTwice 3)
    ∷ case (points 2 2) "p aux sp co 2\nv 1 0 0\nv 1 200000001 0" (refused ValueOutside 3)
    ∷ case (points 2 2) "p aux sp co 2\nv 1 0 -999999999" (refused ValueOutside 2)
    ∷ case (points 2 2) "p aux sp co 2\nv 1 0 -0000000001" (refused NotPermitted 2)
    ∷ case (points 2 2) "p aux sp co 2\nv 1 --1 0" (refused NotPermitted 2)
    ∷ case (points 2 2) "p aux sp co 2\nv 1 0 -" (refused NotPermitted 2)
    ∷ case (points 2 2) "p aux sp co 2\nv 1 +1 0" (refused NotPermitted 2)
    -- sites
    ∷ case (sites 3 5) "p aux sp ss 2\ns 3\ns 1\n" (has 3 2 (Site 3 ∷ Site 1 ∷ []))
    ∷ case (sites 3 5) "p aux sp ss 0" (has 3 0 [])
    ∷ case (sites 3 5) "p aux sp ss 2\ns 3\ns 3" (refused GivenTwice 3)
    ∷ case (sites 3 5) "p aux sp ss 1\ns 3\ns 3" (refused DataMiscounted 3)
    ∷ case (sites 3 5) "p aux sp ss 5\ns 4" (refused NodeOutside 2)
    ∷ case (sites 3 5) "p aux sp ss 129" (refused CountOutside 1)
    ∷ case (sites 3 5) "p aux sp co 1" (refused NotPermitted 1)
    -- the text's length
    ∷ case (graph_rules tiny 0) "c 12" (refused ProblemMisplaced 0)
    ∷ case (graph_rules tiny 0) "c 123" (refused TextTooLong 0)
    ∷ []

pub worked_texts : map (λ (c : Case). reading c.rules (bytes c.text)) cases ≡ map (λ (c : Case). c.wanted) cases
worked_texts = refl
