-- The outcome of a search, of the panel call and of the call for a route's stretch: the answer, and every lent buffer at exit.
use Rattle.std.specs.Prelude.{Result, Ok, Err, Bool, cond, ◌&&◌, List, [], ◌∷◌, ◌++◌, map, ◌≡◌, ℕ, suc, ◌+◌, ◌-◌, ◌*◌, leb, length, get_or, take, drop, replicate}
use Rattle.meaning.specs.Limits.{panel_k}
use Rattle.meaning.specs.Straight.{straight}
use Rattle.meaning.specs.Region.{Tables, Rooms, region_of, x_at, y_at, LeastArc, is_site}
use Rattle.meaning.specs.Taking.{to_sites, taken_count}
use Rattle.meaning.specs.Listing.{Stop, Listing}
use Rattle.meaning.specs.Checks.{Verdict, inspect}
use Rattle.meaning.specs.declared.Limits.{Limits}
use Rattle.meaning.specs.declared.Refusal.{Refusal}
use Rattle.meaning.specs.declared.Tally.{Tally}

-- "Entries past those used, in any buffer, are unchanged."
abbrev pub over : List ℕ → List ℕ → List ℕ
over used before = used ++ drop (length used) before

-- node numbers as the tables have them
abbrev pub shown : List Stop → List ℕ
shown list = map (λ l. suc l.node) list

-- "Routes stand back to back from query to site"
unfoldable pub back_to_back : List Stop → List ℕ
back_to_back [] = []
back_to_back (l ∷ list) = map suc l.way ++ back_to_back list

-- "each route end is the number of entries used so far"
unfoldable pub ends_after : ℕ → List Stop → List ℕ
ends_after used [] = []
ends_after used (l ∷ list) = (used + length l.way) ∷ ends_after (used + length l.way) list

-- the rooms with a list in them; "the first 4N entries of the lent work memory are 0"
abbrev pub filled : Rooms → ℕ → List Stop → Rooms
filled r n list = record {
  work = over (replicate (4 * n) 0) r.work;
  sites = over (shown list) r.sites;
  lengths = over (map (λ l. l.len) list) r.lengths;
  ends = over (ends_after 0 list) r.ends;
  routes = over (back_to_back list) r.routes;
}

-- the estimate of a search: straight lines rounded down
abbrev pub aim_of : Tables → (ℕ → Bool) → ℕ → ℕ
aim_of t = to_sites (region_of t) (straight (x_at t) (y_at t))

-- what a search answers
abbrev pub Answer : Type 0
Answer = Result Tally Refusal

-- an accepted search: "an accepted search returns the number of sites listed and the taken count"
pub record Found (t : Tables) (q k : ℕ) (before after : Rooms) (answer : Answer) : Type 0 where
  pub list : List Stop
  pub listing : Listing (LeastArc (region_of t)) (is_site (region_of t)) (q - 1) k list
  pub answer_is : answer ≡ Ok (record { sites = length list; taken = taken_count (region_of t) (aim_of t) k (q - 1) })
  pub rooms_are : after ≡ filled before t.n list

-- a refused one: "Every refusal returns its number and a place, and every lent buffer keeps its entry contents, work memory included."
pub record Kept (refused : Refusal) (before after : Rooms) (answer : Answer) : Type 0 where
  pub answer_is : answer ≡ Err refused
  pub rooms_are : after ≡ before

-- by the verdict of the checks
abbrev pub judged : Verdict → Tables → ℕ → ℕ → Rooms → Rooms → Answer → Type 0
judged (Ok passed) t q k before after answer = Found t q k before after answer
judged (Err refused) t q k before after answer = Kept refused before after answer

-- the search's outcome
abbrev pub Searched : Limits → Tables → ℕ → ℕ → Rooms → Rooms → Answer → Type 0
Searched L t q k before after answer = judged (inspect L t q k before) t q k before after answer

-- "The panel call names no k .. It is otherwise the same call."
abbrev pub Panelled : Limits → Tables → ℕ → Rooms → Rooms → Answer → Type 0
Panelled L t q before after answer = Searched L t q panel_k before after answer

-- where the route of a rank from 1 on begins: at the end of the one before
abbrev pub begin_of : List ℕ → ℕ → ℕ
begin_of ends rank = cond (leb rank 1) 0 (get_or ends (rank - 2) 0)

-- entries a to e; none where they are "out of order or outside the buffer"
abbrev pub between : List ℕ → ℕ → ℕ → List ℕ
between routes a e = cond (leb a e && leb e (length routes)) (take (e - a) (drop a routes)) []

-- "gives the empty stretch if the rank is 0, is above the number of ends lent, or its ends are out of order or outside the buffer"
unfoldable pub stretch : List ℕ → List ℕ → ℕ → List ℕ
stretch routes ends rank =
    cond (leb 1 rank && leb rank (length ends)) (between routes (begin_of ends rank) (get_or ends (rank - 1) 0)) []
