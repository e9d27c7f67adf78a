-- "A search trusts no table": its checks, in the paper's order, as one function to a verdict.
use Rattle.std.specs.Prelude.{Result, Ok, Err, Bool, cond, ◌&&◌, ℕ, zero, suc, ◌+◌, ◌-◌, ◌*◌, leb, eqb, length, get_or}
use Rattle.meaning.specs.Limits.{Test, fine, and_then, at, refusal}
use Rattle.meaning.specs.Files.{within, is_coordinate, entry_fault}
use Rattle.meaning.specs.Scan.{any}
use Rattle.meaning.specs.Straight.{long_enough}
use Rattle.meaning.specs.Region.{Tables, Rooms, x_at, y_at}
use Rattle.meaning.specs.declared.Limits.{Limits}
use Rattle.meaning.specs.declared.Fault.{Fault}
use Rattle.meaning.specs.declared.Fault.TheVariants.{CountOutside, ValueOutside, GivenTwice, TableShort, ArcShort, QueryOutside, KOutside, RoomShort}
use Rattle.meaning.specs.declared.Refusal.{Refusal}
use Rattle.meaning.specs.declared.Entry.TheVariants.{Arc, Site}

-- what the checks say: nothing, or the refusal and its place
abbrev pub Verdict : Type 0
Verdict = Result (Unit {0}) Refusal

-- a test whose failure has the place 0
abbrev pub need : Bool → Fault → Verdict → Verdict
need test fault later = cond test later (Err (refusal fault 0))

-- "The first faulty entry ends the check and is the place": of the first i entries
unfoldable pub first_fault : (ℕ → Test) → ℕ → Verdict
first_fault test zero = Ok tt
first_fault test (suc i) = and_then (first_fault test i) (at (i + 1) (test i))

-- "all counts 4"
abbrev pub counts_fit : Limits → Tables → Bool
counts_fit L t = within 1 t.n L.nodes && (leb t.m L.arcs && leb t.s L.sites)

-- "tables 9"
abbrev pub tables_fit : Tables → Bool
tables_fit t =
    leb t.m (length t.tails) && (leb t.m (length t.heads) && (leb t.m (length t.weights)
    && (leb t.n (length t.xs) && (leb t.n (length t.ys) && leb t.s (length t.sites)))))

-- "Rooms: work at least 4N 32-bit numbers; the lists .. at least k entries each; routes at least k times N 16-bit entries."
abbrev pub rooms_fit : ℕ → ℕ → Rooms → Bool
rooms_fit n k r =
    leb (4 * n) (length r.work) && (leb k (length r.sites) && (leb k (length r.lengths)
    && (leb k (length r.ends) && leb (k * n) (length r.routes))))

-- "coordinates by node 6 (X and Y)"
unfoldable pub point_fault : Limits → Tables → ℕ → Test
point_fault L t v = cond (is_coordinate L (x_at t v) && is_coordinate L (y_at t v)) fine (Err ValueOutside)

-- "arcs in order, each 5, 6, 10": 5 and 6 are a reader's
unfoldable pub arc_fault : Limits → Tables → ℕ → Test
arc_fault L t i =
    let u = get_or t.tails i 0 in
    let v = get_or t.heads i 0 in
    let w = get_or t.weights i 0 in
    and_then (entry_fault L t.n (Arc u v w)) (cond (long_enough (x_at t) (y_at t) (u - 1) (v - 1) w) fine (Err ArcShort))

-- "sites in order, each 5, 8": "For 8 it is the later of the two entries."
unfoldable pub site_fault : Limits → Tables → ℕ → Test
site_fault L t j =
    let v = get_or t.sites j 0 in
    and_then (entry_fault L t.n (Site v)) (cond (any (λ i. eqb (get_or t.sites i 0) v) j) (Err GivenTwice) fine)

-- "Its order: all counts 4, tables 9, query 11, k 12, rooms 13; then coordinates .. then arcs .. then sites"
unfoldable pub inspect : Limits → Tables → ℕ → ℕ → Rooms → Verdict
inspect L t q k r =
    need (counts_fit L t) CountOutside
    (need (tables_fit t) TableShort
    (need (within 1 q t.n) QueryOutside
    (need (within 1 k L.k) KOutside
    (need (rooms_fit t.n k r) RoomShort
    (and_then (first_fault (point_fault L t) t.n) (and_then (first_fault (arc_fault L t) t.m) (first_fault (site_fault L t) t.s)))))))
