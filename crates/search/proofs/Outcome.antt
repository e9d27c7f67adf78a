-- From a run, its routes and its cleared memory to the outcome of a search.
use mathlib.Core.Path.{◌≡◌, refl, sym, ap, subst, ◌∙◌}
use mathlib.Core.List.{List, [], ◌∷◌, ◌++◌, map}
use mathlib.Core.Bool.{true}
use Prim.Native.Nat.{ℕ, suc, ◌-◌, ◌*◌, ◌≤◌}
use native.Mathlib.Nat.{mul-le-mul_right}
use native.Mathlib.Omega.{arith}
use borrow.Author.Tests.{leb-true}
use lib.Dec.{leb}
use lib.ListN.{length, take, drop, replicate, length-map, length-replicate}
use lib.Seq.{take-append_seam}
use Rattle.meaning.specs.Limits.{base}
use Rattle.meaning.specs.Region.{Tables, Rooms, rooms, Region, region_of}
use Rattle.std.specs.Prelude.{Ok}
use Rattle.meaning.specs.Checks.{Verdict, inspect, rooms_fit}
use Rattle.meaning.specs.Taking.{State, len_at, final, taken_count}
use Rattle.meaning.specs.Listing.{Stop}
use Rattle.meaning.specs.Search.{over, shown, back_to_back, ends_after, aim_of, judged, Searched}
use Rattle.meaning.specs.declared.Tally.{Tally}
use Rattle.meaning.proofs.Tests.{both}
use Rattle.meaning.proofs.Trace.{stops, list_of}
use Rattle.meaning.proofs.Passed.{Sound, sound}
use Rattle.meaning.proofs.Outcomes.{aim_fits, list_fits}
use Rattle.routes.specs.Trace.{lines_in, Leads}
use Rattle.search.specs.Run.{Passed, state_at, sites_at, Ran}
use Rattle.search.proofs.Ways.{lines_are, leads_are}

-- ---- the lines of the list, column by column

shown_stops : (R : Region) (s : State) (vs : List ℕ) → shown (stops R s vs) ≡ map suc vs
unfolding stops
shown_stops R s [] = refl
shown_stops R s (v ∷ vs) = ap (λ (xs : List ℕ). suc v ∷ xs) (shown_stops R s vs)

lengths_stops : (R : Region) (s : State) (vs : List ℕ) → map (λ (l : Stop). l.len) (stops R s vs) ≡ map (len_at s.best) vs
unfolding stops
lengths_stops R s [] = refl
lengths_stops R s (v ∷ vs) = ap (λ (xs : List ℕ). len_at s.best v ∷ xs) (lengths_stops R s vs)

count_stops : (R : Region) (s : State) (vs : List ℕ) → length (stops R s vs) ≡ length vs
unfolding stops
count_stops R s [] = refl
count_stops R s (v ∷ vs) = ap suc (count_stops R s vs)

-- ---- the rooms of an accepted call

record Wide (n k : ℕ) (r : Rooms) : Type 0 where
  pub work : 4 * n ≤ length r.work
  pub sites : k ≤ length r.sites
  pub lengths : k ≤ length r.lengths
  pub ends : k ≤ length r.ends
  pub routes : k * n ≤ length r.routes

wide : (n k : ℕ) (r : Rooms) → rooms_fit n k r ≡ true → Wide n k r
wide n k r h =
    let a = both (leb (4 * n) (length r.work)) _ h in
    let b = both (leb k (length r.sites)) _ a.1 in
    let c = both (leb k (length r.lengths)) _ b.1 in
    let d = both (leb k (length r.ends)) (leb (k * n) (length r.routes)) c.1 in
    record {
      work = leb-true _ _ a.0;
      sites = leb-true _ _ b.0;
      lengths = leb-true _ _ c.0;
      ends = leb-true _ _ d.0;
      routes = leb-true _ _ d.1;
    }

-- ---- the outcome

same_rooms : {a a' b b' c c' d d' e e' : List ℕ} → a ≡ a' → b ≡ b' → c ≡ c' → d ≡ d' → e ≡ e' → rooms a b c d e ≡ rooms a' b' c' d' e'
same_rooms p q r s u = cc

abbrev tally_of : ℕ → ℕ → Tally
tally_of sites taken = record { sites = sites; taken = taken }

same_tally : {c c' n n' : ℕ} → c ≡ c' → n ≡ n' → tally_of c n ≡ tally_of c' n'
same_tally p q = cc

module _ (t : Tables) (q k : ℕ) (r : Rooms) {v : Verdict} (is : v ≡ inspect base t q k r) (fine : v ≡ Ok tt) where
  accepted : Sound base t q k r
  accepted = sound base t q k r (sym is ∙ fine)

  pub passes : Passed t q k
  passes = record { rooms = r; fine = sym is ∙ fine }

  pub may_run : (4 * t.n ≤ length r.work) × ((k ≤ length r.sites) × (k ≤ length r.lengths))
  may_run = let a = wide t.n k r accepted.rooms in (a.work, (a.sites, a.lengths))

  module _ {w listed lengths : List ℕ} {sites taken : ℕ} (ran : Ran t q k t.n r.work r.sites r.lengths w listed lengths sites taken) where
    abbrev vs : List ℕ
    vs = sites_at t (state_at t q k t.n)

    abbrev list : List Stop
    list = stops (region_of t) (state_at t q k t.n) vs

    listing_is : list ≡ list_of (region_of t) (aim_of t) k (q - 1)
    unfolding list_of final
    listing_is = refl

    few : sites ≤ k
    few =
        let m = (list_fits accepted (aim_of t) (aim_fits accepted)).most in
        let e : length (list_of (region_of t) (aim_of t) k (q - 1)) ≡ length vs = ap length (sym listing_is) ∙ count_stops (region_of t) (state_at t q k t.n) vs in
        let c : sites ≡ length vs = ran.sites_are in
        omega arith

    pub may_write : Leads t.n w listed sites × ((sites ≤ length r.ends) × (sites * t.n ≤ length r.routes))
    may_write =
        let a = wide t.n k r accepted.rooms in
        let b : sites * t.n ≤ k * t.n = mul-le-mul_right t.n few in
        let c = few in
        (leads_are accepted t.n ran, (omega (arith, a.ends), omega (arith, a.routes)))

    -- the lines that the memory leads to are the list
    lines : lines_in t.n w (take sites listed) ≡ list
    lines =
        ap (lines_in t.n w) (taken_part (map suc vs) ran.listed_are (ran.sites_are ∙ sym (length-map vs suc)))
        ∙ lines_are accepted t.n ran.live
      where
        taken_part : (xs : List ℕ) → listed ≡ over xs r.sites → sites ≡ length xs → take sites listed ≡ xs
        taken_part xs e c = rw (e, c) (take-append_seam xs (drop (length xs) r.sites))

    clear_is : over (replicate (4 * t.n) 0) w ≡ over (replicate (4 * t.n) 0) r.work
    clear_is = ap (λ (rest : List ℕ). replicate (4 * t.n) 0 ++ rest) (rw (length-replicate {A = ℕ} (4 * t.n) 0) ran.live.holds.past)

    taken_is : taken ≡ taken_count (region_of t) (aim_of t) k (q - 1)
    unfolding taken_count final
    taken_is = ran.taken_are

    pub found : {w' ends routes : List ℕ} → w' ≡ over (replicate (4 * t.n) 0) w
        → ends ≡ over (ends_after 0 (lines_in t.n w (take sites listed))) r.ends
        → routes ≡ over (back_to_back (lines_in t.n w (take sites listed))) r.routes
        → Searched base t q k r (rooms w' listed lengths ends routes) (Ok (tally_of sites taken))
    found {w'} {ends} {routes} ew ee er =
        subst (λ (x : Verdict). judged x t q k r (rooms w' listed lengths ends routes) (Ok (tally_of sites taken))) (sym fine ∙ is)
        (record {
          list = list;
          listing = rw listing_is (list_fits accepted (aim_of t) (aim_fits accepted));
          answer_is = ap Ok (same_tally (ran.sites_are ∙ sym (count_stops (region_of t) (state_at t q k t.n) vs)) taken_is);
          rooms_are =
              same_rooms (ew ∙ clear_is)
              (ran.listed_are ∙ ap (λ (xs : List ℕ). over xs r.sites) (sym (shown_stops (region_of t) (state_at t q k t.n) vs)))
              (ran.lengths_are ∙ ap (λ (xs : List ℕ). over xs r.lengths) (sym (lengths_stops (region_of t) (state_at t q k t.n) vs)))
              (ee ∙ ap (λ (l : List Stop). over (ends_after 0 l) r.ends) lines)
              (er ∙ ap (λ (l : List Stop). over (back_to_back l) r.routes) lines);
        })
