-- The memory leads back along the routes of the search's own list.
use mathlib.Core.Path.{◌≡◌, refl, sym, ◌∙◌}
use mathlib.Core.Bool.{◌&&◌}
use mathlib.Core.Option.{Option, none, some}
use mathlib.Core.List.{List, [], ◌∷◌, ◌++◌, map}
use Prim.Native.Nat.{ℕ, zero, suc, ◌+◌, ◌-◌, ◌≤◌, ◌<◌}
use native.Mathlib.Omega.{arith}
use lib.Dec.{T, eqb, eqb→eq, eqb-suc-zero}
use lib.ListN.{length, get_or, length-append, length-map}
use Rattle.meaning.specs.Limits.{base}
use Rattle.meaning.specs.Region.{Tables, Rooms, Region, region_of}
use Rattle.meaning.specs.Scan.{any}
use Rattle.meaning.specs.Taking.{State, memb, taken, len_at}
use Rattle.meaning.specs.Search.{aim_of}
use Rattle.meaning.proofs.Bools.{and_both}
use Rattle.meaning.proofs.Relaxing.{Setting}
use Rattle.meaning.proofs.Scans.{IsFirst, first_is, any_is}
use Rattle.meaning.proofs.Listed.{Listed, listed_after, sites_in}
use Rattle.meaning.proofs.Orders.{memb_head, memb_tail}
use Rattle.meaning.proofs.Trace.{arc_gives, prev, back, route, stops}
use Rattle.meaning.proofs.Routes.{listed_ends, route_is, route_fits}
use Rattle.meaning.proofs.Passed.{Sound, sound_setting}
use Rattle.meaning.proofs.Outcomes.{aim_fits}
use Rattle.taking.specs.Parents.{parents_after, number_of}
use Rattle.taking.specs.Steps.{Live}
use Rattle.taking.proofs.Parents.{parents_are, parents_below}
use Rattle.routes.specs.Trace.{way_back, way_in, lines_in, Leads}
use Rattle.search.specs.Run.{state_at, sites_at, Ran}

-- ---- one route

module _ (n : ℕ) (w : List ℕ) where
  way_ends : (f v : ℕ) (way : List ℕ) → get_or w (n + n + v) 0 ≡ 0 → way_back n w f v way ≡ v ∷ way
  unfolding way_back
  way_ends zero v way e = refl
  way_ends (suc f) v way e = rw e

  way_on : (f u v : ℕ) (way : List ℕ) → get_or w (n + n + v) 0 ≡ suc u → way_back n w (suc f) v way ≡ way_back n w f u (v ∷ way)
  unfolding way_back
  way_on f u v way e = let d : suc u - 1 ≡ u = omega arith in rw (e, eqb-suc-zero u, d)

module _ (R : Region) (s : State) where
  back_ends : (f : ℕ) (way : List ℕ) → back R s f none way ≡ way
  unfolding back
  back_ends zero way = refl
  back_ends (suc f) way = refl

  back_more : (f : ℕ) (o : Option ℕ) (way : List ℕ) → length way ≤ length (back R s f o way)
  unfolding back
  back_more zero o way = omega arith
  back_more (suc f) none way = omega arith
  back_more (suc f) (some v) way = let l = back_more f (prev R s v) (v ∷ way) in omega arith

  back_one : (f v : ℕ) (way : List ℕ) → 0 < f → suc (length way) ≤ length (back R s f (some v) way)
  unfolding back
  back_one zero v way l = absurd (omega arith)
  back_one (suc f) v way l = back_more f (prev R s v) (v ∷ way)

-- u is seen, at a length less than v's
record Nearer (R : Region) (s : State) (u v : ℕ) : Type 0 where
  below : u < R.n
  seen : 0 < get_or s.best u 0
  less : len_at s.best u < len_at s.best v

-- the node before v is such, if there is one
abbrev Step : Region → State → ℕ → Option ℕ → Type 0
Step R s v none = Unit {0}
Step R s v (some u) = Nearer R s u v

module _ (R : Region) (pos : (i : ℕ) → i < R.m → 1 ≤ R.weight i) (s : State) (seen : (v : ℕ) → T (taken s v) → 0 < get_or s.best v 0) where
  prev_step : (v : ℕ) → Step R s v (prev R s v)
  unfolding prev arc_gives
  prev_step v = go (prev R s v) (first_is (λ u. taken s u && any (arc_gives R s.best u v) R.m) (λ u. 0) R.n)
    where
      go : (o : Option ℕ) → IsFirst (λ u. taken s u && any (arc_gives R s.best u v) R.m) (λ u. 0) R.n o → Step R s v o
      go none F = tt
      go (some u) F =
          let p = and_both (taken s u) (any (arc_gives R s.best u v) R.m) F.holds in
          let j = any_is (arc_gives R s.best u v) R.m p.1 in
          let a = and_both (eqb (R.tail j.0) u) (eqb (R.head j.0) v && eqb (len_at s.best u + R.weight j.0) (len_at s.best v)) j.2 in
          let b = and_both (eqb (R.head j.0) v) (eqb (len_at s.best u + R.weight j.0) (len_at s.best v)) a.1 in
          let e = eqb→eq (len_at s.best u + R.weight j.0) (len_at s.best v) b.1 in
          let l = pos j.0 j.1 in
          record { below = F.below; seen = seen u p.0; less = omega arith }

  -- where the memory leads to the same node before, and both ways back go as far as the query, they are one
  way_is : (w : List ℕ) → ((v : ℕ) → v < R.n → 0 < get_or s.best v 0 → get_or w (R.n + R.n + v) 0 ≡ number_of (prev R s v))
      → (g f v : ℕ) (way : List ℕ) → v < R.n → 0 < get_or s.best v 0 → len_at s.best v < g → length (back R s g (some v) way) ≤ suc f + length way
      → way_back R.n w f v way ≡ back R s g (some v) way
  unfolding back
  way_is w leads zero f v way b z l m = absurd (omega arith)
  way_is w leads (suc g) f v way b z l m = go f (prev R s v) (prev_step v) (leads v b z) m (λ f u. way_is w leads g f u (v ∷ way))
    where
      go : (f : ℕ) (o : Option ℕ) → Step R s v o → get_or w (R.n + R.n + v) 0 ≡ number_of o → length (back R s g o (v ∷ way)) ≤ suc f + length way
          → ((f u : ℕ) → u < R.n → 0 < get_or s.best u 0 → len_at s.best u < g → length (back R s g (some u) (v ∷ way)) ≤ suc f + suc (length way)
          → way_back R.n w f u (v ∷ way) ≡ back R s g (some u) (v ∷ way))
          → way_back R.n w f v way ≡ back R s g o (v ∷ way)
      go f none p e m ih = way_ends R.n w f v way e ∙ sym (back_ends R s g (v ∷ way))
      go zero (some u) p e m ih = let k = p.less in let c = back_one R s g u (v ∷ way) (omega arith) in absurd (omega arith)
      go (suc f) (some u) p e m ih = let k = p.less in way_on R.n w f u v way e ∙ ih f u p.below p.seen (omega arith) (omega arith)

-- ---- the lines

module _ (R : Region) (s : State) (w : List ℕ) where
  lines_of : (vs : List ℕ) → ((v : ℕ) → T (memb v vs) → (get_or w v 0 ≡ get_or s.best v 0) × (way_in R.n w v ≡ route R s v)) → lines_in R.n w (map suc vs) ≡ stops R s vs
  unfolding lines_in stops
  lines_of [] h = refl
  lines_of (v ∷ vs) h =
      let d : suc v - 1 ≡ v = omega arith in
      let p = h v (memb_head v vs) in
      rw (d, p.0, p.1, lines_of vs (λ x m. h x (memb_tail v x vs m)))

-- node numbers, of nodes below n
within : (n : ℕ) (vs : List ℕ) → ((v : ℕ) → T (memb v vs) → v < n) → (past : List ℕ) (j : ℕ) → j < length vs → (1 ≤ get_or (map suc vs ++ past) j 0) × (get_or (map suc vs ++ past) j 0 ≤ n)
within n [] h past j l = absurd (omega arith)
within n (v ∷ vs) h past zero l = let b = h v (memb_head v vs) in (omega arith, omega arith)
within n (v ∷ vs) h past (suc j) l = within n vs (λ x m. h x (memb_tail v x vs m)) past j (omega arith)

module _ {t : Tables} {q k : ℕ} {r : Rooms} (S : Sound base t q k r) (i : ℕ) where
  abbrev G : Setting (region_of t) (aim_of t) (q - 1)
  G = sound_setting S (aim_of t) (aim_fits S)

  listed_at : Listed (region_of t) (q - 1) k (state_at t q k i)
  listed_at = listed_after G k i

  got : (v : ℕ) → T (memb v (sites_at t (state_at t q k i))) → T (taken (state_at t q k i) v)
  unfolding taken
  got v m = (sites_in (region_of t) (state_at t q k i).order v m).0

  below : (v : ℕ) → T (memb v (sites_at t (state_at t q k i))) → v < t.n
  below v m = listed_at.inv.nodes v (got v m)

  short : (v : ℕ) → T (memb v (sites_at t (state_at t q k i))) → length (route (region_of t) (state_at t q k i) v) ≤ t.n
  short v m =
      let L = listed_at in
      let d = L.inv.known.settled v (got v m) in
      let Y = listed_ends (region_of t) (q - 1) k (state_at t q k i) L v (got v m) (sites_in (region_of t) (state_at t q k i).order v m).1 in
      route_fits G (route_is (region_of t) (q - 1) (state_at t q k i) v Y G.positive) d.0 d.2

  -- the lines that the memory leads to are those of the search's own list
  pub lines_are : {rest w : List ℕ} → Live t (state_at t q k i) (parents_after (region_of t) (aim_of t) k (q - 1) i) rest w
      → lines_in t.n w (map suc (sites_at t (state_at t q k i))) ≡ stops (region_of t) (state_at t q k i) (sites_at t (state_at t q k i))
  unfolding way_in route
  lines_are {rest} {w} H = lines_of (region_of t) (state_at t q k i) w (sites_at t (state_at t q k i)) (λ v m. (H.holds.lens v (below v m), way v m))
    where
      way : (v : ℕ) → T (memb v (sites_at t (state_at t q k i))) → way_in t.n w v ≡ route (region_of t) (state_at t q k i) v
      way v m =
          let s = state_at t q k i in
          let l : length (back (region_of t) s (suc (len_at s.best v)) (some v) []) ≤ t.n = short v m in
          let z = S.nodes.0 in
          way_is (region_of t) G.positive s H.holds.seen w (λ x b y. H.holds.before x b ∙ parents_are G k i x b y)
          (suc (len_at s.best v)) (t.n - 1) v [] (below v m) (H.holds.seen v (got v m)) (omega arith) (omega arith)

  -- what writing the routes asks
  pub leads_are : {work listed lengths work' listed' lengths' : List ℕ} {sites taken : ℕ} → Ran t q k i work listed lengths work' listed' lengths' sites taken → Leads t.n work' listed' sites
  leads_are {listed} {listed'} {sites} ran =
      let vs = sites_at t (state_at t q k i) in
      let c : sites ≡ length vs = ran.sites_are in
      let e = ran.listed_are in
      let f = listed_at.size in
      let z = S.lines in
      record {
        linked = record {
          one = S.nodes.0;
          nodes = S.nodes.1;
          room = ran.live.holds.room;
          back = λ v l. rw (ran.live.holds.before v l) (parents_below G k i v);
        };
        few = omega arith;
        lines = rw (e, length-append, length-map) (omega arith);
        low = λ j l. rw e (within t.n vs below _ j (omega arith)).0;
        high = λ j l. rw e (within t.n vs below _ j (omega arith)).1;
      }
