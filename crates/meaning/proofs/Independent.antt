-- The order never depends on how the list was typed: regions with the same arcs and the same sites have the same lists, lengths and routes.
use mathlib.Core.Path.{◌≡◌, refl, sym, ap, subst, ◌∙◌}
use mathlib.Core.Logic.{◌↔◌}
use mathlib.Core.List.{List}
use Prim.Native.Nat.{ℕ, ◌-◌, ◌<◌}
use lib.Dec.{T, eqb}
use lib.ListN.{get_or}
use Rattle.meaning.specs.Region.{Tables, Rooms, region_of, ArcOf, LeastArc, is_site}
use Rattle.meaning.specs.Listing.{Stop, Listing}
use Rattle.meaning.specs.Search.{Answer, filled, Found}
use Rattle.meaning.proofs.Arcs.{arc_tail, arc_head, arc_of}
use Rattle.meaning.proofs.Scans.{any_of, any_is}
use Rattle.meaning.proofs.Listings.{listing_unique}
use Rattle.meaning.proofs.Alike.{same_alike, least_same, listing_alike}

-- the same roads and the same sites, however they are typed
pub record SameRegion (t t' : Tables) : Type 0 where
  pub nodes : t.n ≡ t'.n
  pub arcs : (u v w : ℕ) → ArcOf (region_of t) u v w ↔ ArcOf (region_of t') u v w
  pub sites : (v : ℕ) → T (is_site (region_of t) v) ↔ T (is_site (region_of t') v)

pub same_listing : {t t' : Tables} → SameRegion t t' → (q k : ℕ) (list : List Stop)
    → Listing (LeastArc (region_of t)) (is_site (region_of t)) q k list → Listing (LeastArc (region_of t')) (is_site (region_of t')) q k list
same_listing {t} {t'} s q k list L = listing_alike (same_alike (least_same (region_of t) (region_of t') s.arcs) q) s.sites L

-- the same list, and every lent buffer the same at exit
pub same_search : {t t' : Tables} → SameRegion t t' → (q k : ℕ) (r r₁ r₂ : Rooms) (a₁ a₂ : Answer) (x : Found t q k r r₁ a₁) (y : Found t' q k r r₂ a₂)
    → (x.list ≡ y.list) × (r₁ ≡ r₂)
same_search {t} {t'} s q k r r₁ r₂ a₁ a₂ x y =
    let e = listing_unique (LeastArc (region_of t')) (is_site (region_of t')) (q - 1) x.list y.list (same_listing s (q - 1) k x.list x.listing) y.listing in
    (e, x.rooms_are ∙ ap (λ (n : ℕ). filled r n x.list) s.nodes ∙ ap (filled r t'.n) e ∙ sym y.rooms_are)

-- ---- tables typed in another order are such a region: each entry of one stands somewhere in the other

-- every entry that `from` has below m stands in `to` below m'
pub record Stands (m m' : ℕ) (entry entry' : ℕ → ℕ → ℕ → ℕ → Type 0) : Type 0 where
  pub place : ℕ → ℕ
  pub below : (i : ℕ) → i < m → place i < m'
  pub same : (i u v w : ℕ) → i < m → entry i u v w → entry' (place i) u v w

abbrev arc_at : Tables → ℕ → ℕ → ℕ → ℕ → Type 0
arc_at t i u v w = (get_or t.tails i 0 ≡ u) × (get_or t.heads i 0 ≡ v) × (get_or t.weights i 0 ≡ w)

abbrev site_at : Tables → ℕ → ℕ → ℕ → ℕ → Type 0
site_at t j v _ _ = get_or t.sites j 0 ≡ v

arcs_stand : (t t' : Tables) → Stands t.m t'.m (arc_at t) (arc_at t') → (u v w : ℕ) → ArcOf (region_of t) u v w → ArcOf (region_of t') u v w
arcs_stand t t' s u v w a =
    let i = a.index in
    let e = s.same i (get_or t.tails i 0) (get_or t.heads i 0) (get_or t.weights i 0) a.below (refl, refl, refl) in
    arc_of (s.place i) (s.below i a.below) (ap (λ (x : ℕ). x - 1) e.0 ∙ arc_tail a) (ap (λ (x : ℕ). x - 1) e.1 ∙ arc_head a) (e.2 ∙ a.weighs)

sites_stand : (t t' : Tables) → Stands t.s t'.s (site_at t) (site_at t') → (v : ℕ) → T (is_site (region_of t) v) → T (is_site (region_of t') v)
unfolding is_site
sites_stand t t' s v z =
    let r = any_is (λ j. eqb (get_or t.sites j 0 - 1) v) t.s z in
    let e = s.same r.0 (get_or t.sites r.0 0) 0 0 r.1 refl in
    any_of (λ j. eqb (get_or t'.sites j 0 - 1) v) t'.s (s.place r.0) (s.below r.0 r.1) (subst (λ (x : ℕ). T (eqb (x - 1) v)) (sym e) r.2)

pub reordered : (t t' : Tables) → t.n ≡ t'.n → Stands t.m t'.m (arc_at t) (arc_at t') → Stands t'.m t.m (arc_at t') (arc_at t)
    → Stands t.s t'.s (site_at t) (site_at t') → Stands t'.s t.s (site_at t') (site_at t) → SameRegion t t'
reordered t t' n a b c d = record {
  nodes = n;
  arcs = λ u v w. (arcs_stand t t' a u v w, arcs_stand t' t b u v w);
  sites = λ v. (sites_stand t t' c v, sites_stand t' t d v);
}
