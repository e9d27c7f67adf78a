-- The search's outcome: one fits, computed from the taking rule, and no second one does.
use mathlib.Core.Path.{◌≡◌, refl, sym, ap, ◌∙◌}
use mathlib.Core.Bool.{Bool}
use mathlib.Core.List.{List}
use Prim.Native.Nat.{ℕ, ◌-◌}
use lib.ListN.{length}
use Rattle.std.specs.Prelude.{Ok, Err}
use Rattle.meaning.specs.declared.Limits.{Limits}
use Rattle.meaning.specs.declared.Tally.{Tally}
use Rattle.meaning.specs.Straight.{straight}
use Rattle.meaning.specs.Region.{Tables, Rooms, region_of, x_at, y_at, LeastArc, is_site}
use Rattle.meaning.specs.Taking.{taken_count}
use Rattle.meaning.specs.Listing.{Stop, Listing}
use Rattle.meaning.specs.Checks.{Verdict, inspect}
use Rattle.meaning.specs.Search.{filled, aim_of, Answer, judged, Searched}
use Rattle.meaning.proofs.Relaxing.{Estimate}
use Rattle.meaning.proofs.Estimates.{sites_estimate, straight_measure}
use Rattle.meaning.proofs.Trace.{list_of}
use Rattle.meaning.proofs.Listings.{listing_unique, list_right}
use Rattle.meaning.proofs.Alike.{least_alike, listing_alike}
use Rattle.meaning.proofs.Passed.{Sound, sound, sound_long, sound_setting}

-- the counts that an accepted search answers with
abbrev tally : Tables → ℕ → ℕ → List Stop → Tally
tally t q k list = record { sites = length list; taken = taken_count (region_of t) (aim_of t) k (q - 1) }

-- ---- no second outcome fits

pub judged_unique : (v : Verdict) (t : Tables) (q k : ℕ) (r r₁ r₂ : Rooms) (a₁ a₂ : Answer) → judged v t q k r r₁ a₁ → judged v t q k r r₂ a₂ → (a₁ ≡ a₂) × (r₁ ≡ r₂)
judged_unique (Ok passed) t q k r r₁ r₂ a₁ a₂ x y =
    let e = listing_unique (LeastArc (region_of t)) (is_site (region_of t)) (q - 1) x.list y.list x.listing y.listing in (
      x.answer_is ∙ ap (λ (list : List Stop). Ok (tally t q k list)) e ∙ sym y.answer_is,
      x.rooms_are ∙ ap (filled r t.n) e ∙ sym y.rooms_are,
    )
judged_unique (Err refused) t q k r r₁ r₂ a₁ a₂ x y = (x.answer_is ∙ sym y.answer_is, x.rooms_are ∙ sym y.rooms_are)

-- the search; with k the panel's, the panel call
pub searched_unique : (L : Limits) (t : Tables) (q k : ℕ) (r r₁ r₂ : Rooms) (a₁ a₂ : Answer) → Searched L t q k r r₁ a₁ → Searched L t q k r r₂ a₂ → (a₁ ≡ a₂) × (r₁ ≡ r₂)
searched_unique L t q k r r₁ r₂ a₁ a₂ = judged_unique (inspect L t q k r) t q k r r₁ r₂ a₁ a₂

-- ---- one fits

-- where the checks pass, the straight line rounded down is a consistent estimate
pub aim_fits : {L : Limits} {t : Tables} {q k : ℕ} {r : Rooms} → Sound L t q k r → Estimate (region_of t) (aim_of t)
aim_fits {t = t} S = sites_estimate (region_of t) (straight (x_at t) (y_at t)) (straight_measure (region_of t) (x_at t) (y_at t) (sound_long S))

-- the list that the taking rule gives, under any consistent estimate, is the paper's
pub list_fits : {L : Limits} {t : Tables} {q k : ℕ} {r : Rooms} → Sound L t q k r → (est : (ℕ → Bool) → ℕ → ℕ) → Estimate (region_of t) est
    → Listing (LeastArc (region_of t)) (is_site (region_of t)) (q - 1) k (list_of (region_of t) est k (q - 1))
list_fits {t = t} {q = q} {k = k} S est fits =
    listing_alike (least_alike (region_of t) (q - 1)) (λ v. (λ z. z, λ z. z))
    (list_right (sound_setting S est fits) k)

abbrev pub answer_of : Verdict → Tables → ℕ → ℕ → Answer
answer_of (Ok passed) t q k = Ok (tally t q k (list_of (region_of t) (aim_of t) k (q - 1)))
answer_of (Err refused) t q k = Err refused

abbrev pub rooms_after : Verdict → Tables → ℕ → ℕ → Rooms → Rooms
rooms_after (Ok passed) t q k r = filled r t.n (list_of (region_of t) (aim_of t) k (q - 1))
rooms_after (Err refused) t q k r = r

judged_fits : (L : Limits) (t : Tables) (q k : ℕ) (r : Rooms) (v : Verdict) → inspect L t q k r ≡ v → judged v t q k r (rooms_after v t q k r) (answer_of v t q k)
judged_fits L t q k r (Ok passed) e =
    let S = sound L t q k r e in
    record { list = list_of (region_of t) (aim_of t) k (q - 1); listing = list_fits S (aim_of t) (aim_fits S); answer_is = refl; rooms_are = refl }
judged_fits L t q k r (Err refused) e = record { answer_is = refl; rooms_are = refl }

pub searched_fits : (L : Limits) (t : Tables) (q k : ℕ) (r : Rooms) → Searched L t q k r (rooms_after (inspect L t q k r) t q k r) (answer_of (inspect L t q k r) t q k)
searched_fits L t q k r = judged_fits L t q k r (inspect L t q k r) refl
