-- The marked cases A to K as one table: tables, query, k, and what the search must leave and answer.
use mathlib.Core.Path.{◌≡◌, refl, subst}
use mathlib.Core.List.{List, [], ◌∷◌, map}
use Prim.Native.Nat.{ℕ, ◌-◌, ◌*◌}
use lib.IntN.{pos, negsuc}
use lib.ListN.{length, replicate}
use Rattle.std.specs.Prelude.{Ok, Err}
use Rattle.meaning.specs.declared.Fault.{Fault}
use Rattle.meaning.specs.declared.Fault.TheVariants.{ArcShort, QueryOutside, KOutside}
use Rattle.meaning.specs.Limits.{base, refusal, and_then}
use Rattle.meaning.specs.Scan.{any, better, first}
use Rattle.meaning.specs.Straight.{gap, root_to, root, straight}
use Rattle.meaning.specs.Region.{Tables, Rooms, is_site}
use Rattle.meaning.specs.Taking.{memb, taken, is_open, aimed, least_at, to_sites, sites_of, lower, looks, relax, relax_to, take1, take_at, start, full, choose, next, after, final, taken_count}
use Rattle.meaning.specs.Lists.{All}
use Rattle.meaning.specs.Listing.{Stop}
use Rattle.meaning.specs.Checks.{first_fault, point_fault, arc_fault, site_fault, inspect}
use Rattle.meaning.specs.Search.{Answer, back_to_back, ends_after, filled, Searched}
use Rattle.meaning.proofs.Trace.{arc_gives, prev, back, route, stops, list_of}
use Rattle.meaning.proofs.Outcomes.{answer_of, rooms_after, searched_fits}

-- "Six nodes .. Eight arcs .. Sites in file order: 5, 3, 6."; the fourth arc's weight apart
abbrev town : ℕ → Tables
town fourth = record {
  tails = 1 ∷ 2 ∷ 1 ∷ 4 ∷ 1 ∷ 3 ∷ 2 ∷ 5 ∷ [];
  heads = 2 ∷ 3 ∷ 4 ∷ 3 ∷ 5 ∷ 5 ∷ 1 ∷ 6 ∷ [];
  weights = 5 ∷ 5 ∷ 6 ∷ fourth ∷ 10 ∷ 9 ∷ 5 ∷ 9 ∷ [];
  xs = pos 0 ∷ pos 3 ∷ pos 6 ∷ pos 0 ∷ pos 10 ∷ pos 3 ∷ [];
  ys = pos 0 ∷ pos 4 ∷ pos 8 ∷ pos 5 ∷ pos 0 ∷ negsuc 3 ∷ [];
  sites = 5 ∷ 3 ∷ 6 ∷ [];
  n = 6;
  m = 8;
  s = 3;
}

-- "four nodes at (0,0), arcs 1 2 2; 1 3 1; 2 4 1; 3 4 2, site 4"
abbrev diamond : Tables
diamond = record {
  tails = 1 ∷ 1 ∷ 2 ∷ 3 ∷ [];
  heads = 2 ∷ 3 ∷ 4 ∷ 4 ∷ [];
  weights = 2 ∷ 1 ∷ 1 ∷ 2 ∷ [];
  xs = pos 0 ∷ pos 0 ∷ pos 0 ∷ pos 0 ∷ [];
  ys = pos 0 ∷ pos 0 ∷ pos 0 ∷ pos 0 ∷ [];
  sites = 4 ∷ [];
  n = 4;
  m = 4;
  s = 1;
}

-- rooms just large enough, full of nines, so that what is written and what is kept both show
abbrev nines : ℕ → ℕ → Rooms
nines n k = record { work = replicate (4 * n) 9; sites = replicate k 9; lengths = replicate k 9; ends = replicate k 9; routes = replicate (k * n) 9 }

-- what a case wants: a list with its taken count, or a refusal with its place
pub data Wanted : Type 0 where
  lists : List Stop → ℕ → Wanted
  refuses : Fault → ℕ → Wanted

pub record Case : Type 0 where
  pub tables : Tables
  pub query : ℕ
  pub k : ℕ
  pub wanted : Wanted

abbrev answer : Wanted → Answer
answer (lists list count) = Ok (record { sites = length list; taken = count })
answer (refuses fault place) = Err (refusal fault place)

abbrev rooms : Wanted → Rooms → ℕ → Rooms
rooms (lists list count) r n = filled r n list
rooms (refuses fault place) r n = r

-- the case's outcome is the search's
abbrev pub Holds : Case → Type 0
Holds c = Searched base c.tables c.query c.k (nines c.tables.n c.k) (rooms c.wanted (nines c.tables.n c.k) c.tables.n) (answer c.wanted)

-- a line with the numbers that the paper prints
abbrev line : ℕ → ℕ → List ℕ → Stop
line site len way = record { node = site - 1; len = len; way = map (λ v. v - 1) way }

abbrev three : Stop
three = line 3 10 (1 ∷ 2 ∷ 3 ∷ [])

abbrev five : Stop
five = line 5 10 (1 ∷ 5 ∷ [])

abbrev six : Stop
six = line 6 19 (1 ∷ 5 ∷ 6 ∷ [])

abbrev in_town : ℕ → ℕ → Wanted → Case
in_town query k wanted = record { tables = town 7; query = query; k = k; wanted = wanted }

abbrev pub cases : List Case
cases =
    in_town 1 1 (lists (three ∷ []) 3)
    ∷ in_town 1 2 (lists (three ∷ five ∷ []) 4)
    ∷ in_town 1 3 (lists (three ∷ five ∷ six ∷ []) 6)
    ∷ in_town 1 32 (lists (three ∷ five ∷ six ∷ []) 6)
    ∷ in_town 6 2 (lists (line 6 0 (6 ∷ []) ∷ []) 1)
    ∷ in_town 4 1 (lists (line 3 7 (4 ∷ 3 ∷ []) ∷ []) 2)
    ∷ in_town 3 1 (lists (line 3 0 (3 ∷ []) ∷ []) 1)
    ∷ in_town 1 0 (refuses KOutside 0)
    ∷ in_town 1 33 (refuses KOutside 0)
    ∷ in_town 0 1 (refuses QueryOutside 0)
    ∷ in_town 7 1 (refuses QueryOutside 0)
    ∷ record { tables = town 6; query = 1; k = 1; wanted = refuses ArcShort 4 }
    ∷ record { tables = diamond; query = 1; k = 1; wanted = lists (line 4 3 (1 ∷ 2 ∷ 4 ∷ []) ∷ []) 4 }
    ∷ []

-- ---- the outcome that the taking rule computes, compared with the wanted one for the whole table at once

pub record Outcome : Type 0 where
  pub answer : Answer
  pub rooms : Rooms

abbrev run : Case → Outcome
run c =
    let r = nines c.tables.n c.k in
    let v = inspect base c.tables c.query c.k r in
    record { answer = answer_of v c.tables c.query c.k; rooms = rooms_after v c.tables c.query c.k r }

abbrev want : Case → Outcome
want c = record { answer = answer c.wanted; rooms = rooms c.wanted (nines c.tables.n c.k) c.tables.n }

computed : map run cases ≡ map want cases
unfolding any better first gap root_to root straight is_site memb taken is_open aimed least_at to_sites sites_of lower looks relax relax_to take1 take_at start full choose next after final taken_count and_then first_fault point_fault arc_fault site_fault inspect back_to_back ends_after arc_gives prev back route stops list_of
computed = refl

hold : (c : Case) → run c ≡ want c → Holds c
hold c e =
    subst (λ (o : Outcome). Searched base c.tables c.query c.k (nines c.tables.n c.k) o.rooms o.answer) e
    (searched_fits base c.tables c.query c.k (nines c.tables.n c.k))

hold_all : (cs : List Case) → map run cs ≡ map want cs → All Holds cs
hold_all [] e = tt
hold_all (c ∷ cs) e =
    let h : run c ≡ want c = cc in
    let t : map run cs ≡ map want cs = cc in
    (hold c h, hold_all cs t)

-- every marked case holds of the definitions
pub cases_hold : All Holds cases
cases_hold = hold_all cases computed
