-- The calls as a panel in C or Rust makes them: an answer is one 64-bit number, and every lent buffer is left as the library's own call leaves it.
use Rattle.std.specs.Prelude.{Result, Ok, Err, ℕ, ◌+◌, ◌*◌, ◌^◌, ◌/◌, ◌%◌, ◌≤◌, ◌<◌, cond, List, ◌≡◌, eqb, ℤ, length}
use Rattle.meaning.specs.Limits.{fault_number}
use Rattle.meaning.specs.Files.{GraphRead, CoordinatesRead, SitesRead}
use Rattle.meaning.specs.Region.{Tables, Rooms}
use Rattle.meaning.specs.Search.{Answer, Searched, Panelled, begin_of, stretch}
use Rattle.meaning.specs.declared.Limits.{Limits}
use Rattle.meaning.specs.declared.Refusal.{Refusal}
use Rattle.meaning.specs.declared.Counts.{Counts}

-- ---- an answer as one number

-- a place and a count have 28 bits each, and a refusal's number the 8 bits above them
abbrev pub field : ℕ
field = 2 ^ 28

-- the three parts in one number
abbrev pub packed : ℕ → ℕ → ℕ → ℕ
packed number first second = (number * field + first) * field + second

-- taken apart again, as the header does it with shifts and a mask: the refusal's number, 0 for an accepted call
abbrev pub number_of : ℕ → ℕ
number_of code = code / (field * field)

-- the refusal's place, or the first count
abbrev pub first_of : ℕ → ℕ
first_of code = code / field % field

-- the second count
abbrev pub second_of : ℕ → ℕ
second_of code = code % field

-- "Every refusal returns its number and a place"; "It returns the counts of its problem line"
abbrev pub read_code : Result Counts Refusal → ℕ
read_code (Err refused) = packed (fault_number refused.fault) refused.place 0
read_code (Ok c) = packed 0 c.nodes c.rows

-- "an accepted search returns the number of sites listed and the taken count"
abbrev pub answer_code : Answer → ℕ
answer_code (Err refused) = packed (fault_number refused.fault) refused.place 0
answer_code (Ok tally) = packed 0 tally.sites tally.taken

-- the parts of a refusal have room in the number
pub record RefusalFits (number place : ℕ) : Type 0 where
  pub some : 1 ≤ number
  pub small : number < 256
  pub near : place < field

-- the counts of an accepted call have room in it
pub record CountsFit (first second : ℕ) : Type 0 where
  pub first_small : first < field
  pub second_small : second < field

-- a reader's answer has room in the number
abbrev pub ReadFits : Result Counts Refusal → Type 0
ReadFits (Err refused) = RefusalFits (fault_number refused.fault) refused.place
ReadFits (Ok c) = CountsFit c.nodes c.rows

-- and a search's
abbrev pub AnswerFits : Answer → Type 0
AnswerFits (Err refused) = RefusalFits (fault_number refused.fault) refused.place
AnswerFits (Ok tally) = CountsFit tally.sites tally.taken

-- ---- the outcome of each call: the one of the library's call, with the answer's number returned

-- the graph reader
pub record GraphCalled (L : Limits) (text tails heads weights tails' heads' weights' : List ℕ) (returned : ℕ) : Type 0 where
  pub answer : Result Counts Refusal
  pub outcome : GraphRead L text tails heads weights tails' heads' weights' answer
  pub returned_is : returned ≡ read_code answer

-- the coordinate reader
pub record CoordinatesCalled (L : Limits) (text : List ℕ) (n : ℕ) (xs ys xs' ys' : List ℤ) (returned : ℕ) : Type 0 where
  pub answer : Result Counts Refusal
  pub outcome : CoordinatesRead L text n xs ys xs' ys' answer
  pub returned_is : returned ≡ read_code answer

-- the site reader
pub record SitesCalled (L : Limits) (text : List ℕ) (n : ℕ) (sites sites' : List ℕ) (returned : ℕ) : Type 0 where
  pub answer : Result Counts Refusal
  pub outcome : SitesRead L text n sites sites' answer
  pub returned_is : returned ≡ read_code answer

-- the search
pub record SearchCalled (L : Limits) (t : Tables) (q k : ℕ) (before after : Rooms) (returned : ℕ) : Type 0 where
  pub answer : Answer
  pub outcome : Searched L t q k before after answer
  pub returned_is : returned ≡ answer_code answer

-- "The panel call names no k .. It is otherwise the same call."
pub record PanelCalled (L : Limits) (t : Tables) (q : ℕ) (before after : Rooms) (returned : ℕ) : Type 0 where
  pub answer : Answer
  pub outcome : Panelled L t q before after answer
  pub returned_is : returned ≡ answer_code answer

-- ---- "A listed route is shown as the very stretch of the route buffer where it was written": as an offset and a length

-- a place in the route buffer, and how many entries from there on
pub record Span : Type 0 where
  pub offset : ℕ
  pub size : ℕ

-- the stretch of a rank lies where its route begins; the empty stretch is 0 entries at 0
abbrev pub stretch_at : List ℕ → List ℕ → ℕ → Span
stretch_at routes ends rank = record {
  offset = cond (eqb (length (stretch routes ends rank)) 0) 0 (begin_of ends rank);
  size = length (stretch routes ends rank);
}

-- the number that the call returns
abbrev pub stretch_code : List ℕ → List ℕ → ℕ → ℕ
stretch_code routes ends rank = packed 0 (stretch_at routes ends rank).offset (stretch_at routes ends rank).size
