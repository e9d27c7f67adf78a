-- The calls as C and Rust make them: every answer has room in its number and can be taken apart again, and no second outcome fits.
use Prim.Native.Nat.{ℕ, ◌+◌, ◌-◌, ◌^◌, ◌≤◌, ◌<◌}
use mathlib.Core.Path.{◌≡◌, refl, sym, ap, subst, ◌∙◌}
use mathlib.Core.Logic.{◌⊎◌, inl, inr}
use mathlib.Core.Bool.{Bool, true, false, cond, ◌&&◌}
use mathlib.Core.List.{List, []}
use native.Mathlib.Omega.{arith}
use borrow.Author.Tests.{leb-true, eqb-true, ne_eqb}
use lib.Dec.{leb, eqb}
use lib.IntN.{ℤ}
use lib.ListN.{length, get_or, take, drop, length-drop}
use lib.Seq.{length-take-le}
use Rattle.std.specs.Prelude.{Result, Ok, Err}
use Rattle.meaning.specs.Limits.{base, fault_number, refusal}
use Rattle.meaning.specs.Files.{most_rows, Reading, refused, read, reading, answered, graph_rules, coordinate_rules, site_rules, GraphRead, CoordinatesRead, SitesRead}
use Rattle.meaning.specs.Region.{Tables, Rooms}
use Rattle.meaning.specs.Checks.{Verdict, inspect}
use Rattle.meaning.specs.Search.{Answer, aim_of, judged, Searched, begin_of, stretch}
use Rattle.meaning.specs.Boundary.{field, packed, number_of, first_of, second_of, read_code, answer_code, RefusalFits, ReadFits, AnswerFits, GraphCalled, CoordinatesCalled, SitesCalled, SearchCalled, PanelCalled, stretch_at, stretch_code}
use Rattle.meaning.specs.declared.Limits.{Limits}
use Rattle.meaning.specs.declared.Fault.{Fault}
use Rattle.meaning.specs.declared.Refusal.{Refusal}
use Rattle.meaning.specs.declared.Counts.{Counts}
use Rattle.meaning.specs.declared.Tally.{Tally}
use Rattle.meaning.specs.declared.Rules.{Rules}
use Rattle.meaning.proofs.Tests.{both}
use Rattle.meaning.proofs.Reading.{accepted}
use Rattle.meaning.proofs.Unique.{graph_unique, coordinates_unique, sites_unique}
use Rattle.meaning.proofs.Passed.{sound}
use Rattle.meaning.proofs.Outcomes.{searched_unique, aim_fits}
use Rattle.meaning.proofs.Demands.{count_most}
use Rattle.meaning.proofs.Places.{same_fault, At, ReadAt, reading_at, FaultAt, inspect_at}

-- ---- one number for three parts

-- parts that have room in it come out again by division and remainder, and it is a 64-bit number
pub record Parts (number first second : ℕ) : Type 0 where
  pub fits : packed number first second < 2 ^ 64
  pub number_is : number_of (packed number first second) ≡ number
  pub first_is : first_of (packed number first second) ≡ first
  pub second_is : second_of (packed number first second) ≡ second

pub parts : (number first second : ℕ) → number < 256 → first < field → second < field → Parts number first second
parts number first second a b c = record { fits = omega arith; number_is = omega arith; first_is = omega arith; second_is = omega arith }

-- so no two answers that have room in it have the same number
same_refusal : (a b : Refusal) → fault_number a.fault ≡ fault_number b.fault → a.place ≡ b.place → a ≡ b
same_refusal a b h k = ap (λ (f : Fault). refusal f a.place) (same_fault a.fault b.fault h) ∙ ap (refusal b.fault) k

pub same_read : (a b : Result Counts Refusal) → ReadFits a → ReadFits b → read_code a ≡ read_code b → a ≡ b
same_read (Err r) (Err s) f g e = ap (λ (x : Refusal). Err x) (same_refusal r s (omega arith) (omega arith))
same_read (Err r) (Ok d) f g e = absurd (omega arith)
same_read (Ok c) (Err s) f g e = absurd (omega arith)
same_read (Ok c) (Ok d) f g e = ap (λ (x : Counts). Ok x) (same (omega arith) (omega arith))
  where
    same : c.nodes ≡ d.nodes → c.rows ≡ d.rows → c ≡ d
    same h k = ap (λ (n : ℕ). record { nodes = n; rows = c.rows }) h ∙ ap (λ (m : ℕ). record { nodes = d.nodes; rows = m }) k

pub same_answer : (a b : Answer) → AnswerFits a → AnswerFits b → answer_code a ≡ answer_code b → a ≡ b
same_answer (Err r) (Err s) f g e = ap (λ (x : Refusal). Err x) (same_refusal r s (omega arith) (omega arith))
same_answer (Err r) (Ok d) f g e = absurd (omega arith)
same_answer (Ok c) (Err s) f g e = absurd (omega arith)
same_answer (Ok c) (Ok d) f g e = ap (λ (x : Tally). Ok x) (same (omega arith) (omega arith))
  where
    same : c.sites ≡ d.sites → c.taken ≡ d.taken → c ≡ d
    same h k = ap (λ (n : ℕ). record { sites = n; taken = c.taken }) h ∙ ap (λ (m : ℕ). record { sites = d.sites; taken = m }) k

-- ---- every answer of the library has room in it

refusal_fits : {most : ℕ} {why : Refusal} → At most why → most < field → RefusalFits (fault_number why.fault) why.place
refusal_fits a h = record { some = a.some; small = omega arith; near = omega arith }

module _ (R : Rules) (text : List ℕ) (bytes : R.limits.text < field) (nodes : R.limits.nodes < field) (rows : most_rows R.limits R.kind < field) where
  answered_fits : (r : Reading) → reading R text ≡ r → ReadAt R.limits.text r → ReadFits (answered r)
  answered_fits (refused fault place) e a = refusal_fits a bytes
  answered_fits (read c es) e a = let k = accepted R text c es e in record { first_small = omega (arith, k.nodes); second_small = omega (arith, k.most) }

  reading_fits : ReadFits (answered (reading R text))
  reading_fits = answered_fits (reading R text) refl (reading_at R text)

pub graph_fits : {text t h w t' h' w' : List ℕ} {a : Result Counts Refusal} → GraphRead base text t h w t' h' w' a → ReadFits a
graph_fits {text} {t} {h} {w} g = subst ReadFits (sym g.answer_is) (reading_fits (graph_rules base _) text (omega arith) (omega arith) (omega arith))

pub coordinates_fits : {text : List ℕ} {n : ℕ} {x y x' y' : List ℤ} {a : Result Counts Refusal} → CoordinatesRead base text n x y x' y' a → ReadFits a
coordinates_fits {text} {n} g = subst ReadFits (sym g.answer_is) (reading_fits (coordinate_rules base n _) text (omega arith) (omega arith) (omega arith))

pub sites_fits : {text : List ℕ} {n : ℕ} {s s' : List ℕ} {a : Result Counts Refusal} → SitesRead base text n s s' a → ReadFits a
sites_fits {text} {n} g = subst ReadFits (sym g.answer_is) (reading_fits (site_rules base n _) text (omega arith) (omega arith) (omega arith))

judged_fits : (t : Tables) (q k : ℕ) (before after : Rooms) (answer : Answer) (v : Verdict) → inspect base t q k before ≡ v → FaultAt (base.nodes + base.arcs + base.sites) v → judged v t q k before after answer
    → AnswerFits answer
judged_fits t q k before after answer (Ok passed) e f j =
    let S = sound base t q k before e in
    let taken = count_most S (aim_of t) (aim_fits S) in
    let most = j.listing.most in
    let n = S.nodes.1 in
    let l = S.lines.1 in
    subst AnswerFits (sym j.answer_is) record { first_small = omega arith; second_small = omega arith }
judged_fits t q k before after answer (Err why) e f j = subst AnswerFits (sym j.answer_is) (refusal_fits f (omega arith))

-- the search's, and with k the panel's, the panel call's
pub search_fits : (t : Tables) (q k : ℕ) (before after : Rooms) (answer : Answer) → Searched base t q k before after answer → AnswerFits answer
search_fits t q k before after answer = judged_fits t q k before after answer (inspect base t q k before) refl (inspect_at base t q k before)

-- ---- no second outcome fits: neither another number nor another buffer

pub graph_called_unique : {L : Limits} {text t h w t₁ h₁ w₁ t₂ h₂ w₂ : List ℕ} {r₁ r₂ : ℕ} → GraphCalled L text t h w t₁ h₁ w₁ r₁ → GraphCalled L text t h w t₂ h₂ w₂ r₂
    → (r₁ ≡ r₂) × (t₁ ≡ t₂) × (h₁ ≡ h₂) × (w₁ ≡ w₂)
graph_called_unique p q =
    let u = graph_unique p.outcome q.outcome in
    (p.returned_is ∙ ap read_code u.0 ∙ sym q.returned_is, u.1, u.2, u.3)

pub coordinates_called_unique : {L : Limits} {text : List ℕ} {n : ℕ} {x y x₁ y₁ x₂ y₂ : List ℤ} {r₁ r₂ : ℕ} → CoordinatesCalled L text n x y x₁ y₁ r₁
    → CoordinatesCalled L text n x y x₂ y₂ r₂ → (r₁ ≡ r₂) × (x₁ ≡ x₂) × (y₁ ≡ y₂)
coordinates_called_unique p q =
    let u = coordinates_unique p.outcome q.outcome in
    (p.returned_is ∙ ap read_code u.0 ∙ sym q.returned_is, u.1, u.2)

pub sites_called_unique : {L : Limits} {text : List ℕ} {n : ℕ} {s s₁ s₂ : List ℕ} {r₁ r₂ : ℕ} → SitesCalled L text n s s₁ r₁ → SitesCalled L text n s s₂ r₂
    → (r₁ ≡ r₂) × (s₁ ≡ s₂)
sites_called_unique p q =
    let u = sites_unique p.outcome q.outcome in
    (p.returned_is ∙ ap read_code u.0 ∙ sym q.returned_is, u.1)

pub search_called_unique : {L : Limits} {t : Tables} {q k : ℕ} {r r₁ r₂ : Rooms} {c₁ c₂ : ℕ} → SearchCalled L t q k r r₁ c₁ → SearchCalled L t q k r r₂ c₂
    → (c₁ ≡ c₂) × (r₁ ≡ r₂)
search_called_unique {L} {t} {q} {k} {r} {r₁} {r₂} x y =
    let u = searched_unique L t q k r r₁ r₂ x.answer y.answer x.outcome y.outcome in
    (x.returned_is ∙ ap answer_code u.0 ∙ sym y.returned_is, u.1)

pub panel_called_unique : {L : Limits} {t : Tables} {q : ℕ} {r r₁ r₂ : Rooms} {c₁ c₂ : ℕ} → PanelCalled L t q r r₁ c₁ → PanelCalled L t q r r₂ c₂
    → (c₁ ≡ c₂) × (r₁ ≡ r₂)
panel_called_unique x y =
    search_called_unique record { answer = x.answer; outcome = x.outcome; returned_is = x.returned_is } record { answer = y.answer; outcome = y.outcome; returned_is = y.returned_is }

-- ---- the stretch

-- a part of a buffer found again by its offset and its size
module _ (routes : List ℕ) (a n : ℕ) (inside : a + n ≤ length routes) where
  part_size : length (take n (drop a routes)) ≡ n
  part_size = length-take-le n (drop a routes) (omega (arith, length-drop a routes))

  part_again : take (length (take n (drop a routes))) (drop (cond (eqb (length (take n (drop a routes))) 0) 0 a) routes) ≡ take n (drop a routes)
  part_again = rw part_size (by (eqb n 0) refl)
    where
      by : (b : Bool) → eqb n 0 ≡ b → take n (drop (cond b 0 a) routes) ≡ take n (drop a routes)
      by true e = rw (eqb-true n 0 e) refl
      by false e = refl

-- a stretch that its rank and ends admit
record Admitted (routes ends : List ℕ) (rank : ℕ) : Type 0 where
  pub low : 1 ≤ rank
  pub high : rank ≤ length ends
  pub ordered : begin_of ends rank ≤ get_or ends (rank - 1) 0
  pub inside : get_or ends (rank - 1) 0 ≤ length routes
  pub is : stretch routes ends rank ≡ take (get_or ends (rank - 1) 0 - begin_of ends rank) (drop (begin_of ends rank) routes)

-- it is the empty one, or admitted
admitted : (routes ends : List ℕ) (rank : ℕ) → (stretch routes ends rank ≡ []) ⊎ Admitted routes ends rank
unfolding stretch
admitted routes ends rank = by (leb 1 rank && leb rank (length ends)) (leb a e && leb e (length routes)) refl refl
  where
    a : ℕ
    a = begin_of ends rank

    e : ℕ
    e = get_or ends (rank - 1) 0

    by : (b c : Bool) → leb 1 rank && leb rank (length ends) ≡ b → leb a e && leb e (length routes) ≡ c → (stretch routes ends rank ≡ []) ⊎ Admitted routes ends rank
    by false c x y = inl (rw x)
    by true false x y = inl (rw (x, y))
    by true true x y =
        let r = both (leb 1 rank) (leb rank (length ends)) x in
        let o = both (leb a e) (leb e (length routes)) y in
        inr record {
          low = leb-true 1 rank r.0;
          high = leb-true rank (length ends) r.1;
          ordered = leb-true a e o.0;
          inside = leb-true e (length routes) o.1;
          is = rw (x, y);
        }

-- the span is the stretch, in its place
pub span_is : (routes ends : List ℕ) (rank : ℕ) → take (stretch_at routes ends rank).size (drop (stretch_at routes ends rank).offset routes) ≡ stretch routes ends rank
span_is routes ends rank = by (admitted routes ends rank)
  where
    by : (stretch routes ends rank ≡ []) ⊎ Admitted routes ends rank → take (stretch_at routes ends rank).size (drop (stretch_at routes ends rank).offset routes) ≡ stretch routes ends rank
    by (inl e) = rw e
    by (inr w) = rw w.is (part_again routes (begin_of ends rank) (get_or ends (rank - 1) 0 - begin_of ends rank) (let h = w.inside in let o = w.ordered in omega arith))

-- a span with entries stops at its rank's end
pub record Stops (routes ends : List ℕ) (rank : ℕ) : Type 0 where
  pub low : 1 ≤ rank
  pub high : rank ≤ length ends
  pub stop : (stretch_at routes ends rank).offset + (stretch_at routes ends rank).size ≡ get_or ends (rank - 1) 0

pub span_stops : (routes ends : List ℕ) (rank : ℕ) → (length (stretch routes ends rank) ≡ 0 → ⊥) → Stops routes ends rank
span_stops routes ends rank some = by (admitted routes ends rank)
  where
    by : (stretch routes ends rank ≡ []) ⊎ Admitted routes ends rank → Stops routes ends rank
    by (inl e) = absurd (some (ap length e))
    by (inr w) =
        let o = w.ordered in
        let h = w.inside in
        let size = ap length w.is ∙ part_size routes (begin_of ends rank) (get_or ends (rank - 1) 0 - begin_of ends rank) (omega arith) in
        record { low = w.low; high = w.high; stop = rw (ne_eqb (length (stretch routes ends rank)) 0 some) (omega arith) }

-- no second span fits: the number returned is an equation's
pub span_unique : (routes ends : List ℕ) (rank r₁ r₂ : ℕ) → r₁ ≡ stretch_code routes ends rank → r₂ ≡ stretch_code routes ends rank → r₁ ≡ r₂
span_unique routes ends rank r₁ r₂ x y = x ∙ sym y
