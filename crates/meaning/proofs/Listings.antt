-- The list: no second one fits, a longer one begins with it, and the search's own list is one.
use mathlib.Core.Path.{◌≡◌, refl, sym, ap, subst, ◌∙◌}
use mathlib.Core.Logic.{◌⊎◌, inl, inr, ◌≢◌, ◌↔◌}
use mathlib.Core.Bool.{Bool, not}
use mathlib.Core.List.{List, [], ◌∷◌, map}
use Prim.Native.Nat.{ℕ, ◌≤◌, ◌<◌}
use native.Mathlib.Decide.{dec_lt}
use native.Mathlib.Omega.{arith}
use lib.Dec.{T, T_not, not_T}
use lib.ListN.{length, length-map}
use Rattle.meaning.specs.Region.{Region, ArcOf, is_site}
use Rattle.meaning.specs.Walk.{Walk, Shortest}
use Rattle.meaning.specs.Taking.{State, memb, taken, len_at, sites_of, final}
use Rattle.meaning.specs.Lists.{All}
use Rattle.meaning.specs.Listing.{Stop, Before, Ordered, Right, Listing}
use Rattle.meaning.proofs.Bools.{dec_t}
use Rattle.meaning.proofs.Alls.{all_zip, all_map}
use Rattle.meaning.proofs.Exits.{shortest_unique}
use Rattle.meaning.proofs.Relaxing.{Setting}
use Rattle.meaning.proofs.Orders.{FirstK, Asc, unique, memb_head, memb_tail, memb_cases, memb_not}
use Rattle.meaning.proofs.Listed.{Listed, TheList, Earlier, Reached, earlier_asym, sites_in, listed_after, final_list}
use Rattle.meaning.proofs.Trace.{route, stops, list_of}
use Rattle.meaning.proofs.Routes.{listed_ends, route_unique, route_is}

abbrev pub nodes : List Stop → List ℕ
nodes list = map (λ l. l.node) list

clash : ◌≡◌ {A = ℕ} 0 1 → ⊥
clash z = omega arith

-- ---- what holds of all lines

all_swap : {A : Type 0} (W : ℕ → Type 0) (P : ℕ → A → Type 0) (list : List A) → ((e : ℕ) → W e → All (P e) list) → All (λ l. (e : ℕ) → W e → P e l) list
all_swap W P [] h = tt
all_swap W P (l ∷ list) h = (λ e w. (h e w).0, all_swap W P list (λ e w. (h e w).1))

-- what holds of all lines holds of each listed node
at_node_lem : (P : ℕ → Type 0) (list : List Stop) → All (λ l. P l.node) list → (v : ℕ) → T (memb v (nodes list)) → P v
unfolding memb
at_node_lem P [] p v t = absurd t
at_node_lem P (l ∷ list) p v t = go (memb_cases l.node v (nodes list) t) (at_node_lem P list p.1 v)
  where
    go : (l.node ≡ v) ⊎ T (memb v (nodes list)) → (T (memb v (nodes list)) → P v) → P v
    go (inl e) ih = subst P e p.0
    go (inr z) ih = ih z

unlisted : (list : List Stop) (v : ℕ) → T (not (memb v (nodes list))) → All (λ l. l.node ≢ v) list
unlisted [] v t = tt
unlisted (l ∷ list) v t = (
  λ e. T_not (memb v (nodes (l ∷ list))) t (subst (λ (x : ℕ). T (memb v (x ∷ nodes list))) (sym e) (memb_head v (nodes list))),
  unlisted list v (not_T (memb v (nodes list)) (λ z. T_not (memb v (nodes (l ∷ list))) t (memb_tail l.node v (nodes list) z))),
)

-- ---- no second list fits

-- what comes before a line comes before any longer walk to its node
later : (a d b e f : ℕ) → Before a d b e → e ≤ f → Before a d b f
later a d b e f (inl s) l = inl (omega arith)
later a d b e f (inr s) l = go (dec_lt e f)
  where
    go : Dec (e < f) → Before a d b f
    go (yes z) = let y = s.0 in inl (omega arith)
    go (no z) = let y = s.0 in inr (omega arith, s.1)

module _ (Arc : ℕ → ℕ → ℕ → Type 0) (site : ℕ → Bool) (q : ℕ) where
  ascending : (list : List Stop) → All (Right Arc site q) list → Ordered list → Asc (Earlier Arc q) (nodes list)
  ascending [] r o = tt
  ascending (a ∷ list) r o = (
    at_node_lem (Earlier Arc q a.node) list
        (all_map (λ b. Before a.node a.len b.node b.len × Right Arc site q b) (λ b. Earlier Arc q a.node b.node)
        (λ b z. (a.len, r.0.short, λ e w. later a.node a.len b.node b.len e z.0 (z.1.short.least e w))) list
        (all_zip (λ b. Before a.node a.len b.node b.len) (Right Arc site q) list o.0 r.1)),
    ascending list r.1 o.1,
  )

  -- its nodes are the first k of those reached
  pub listing_first : {k : ℕ} {list : List Stop} → Listing Arc site q k list → FirstK (Reached Arc site q) (Earlier Arc q) k (nodes list)
  listing_first {k} {list} L = record {
    mem = at_node_lem (Reached Arc site q) list (all_map (Right Arc site q) (λ l. Reached Arc site q l.node) (λ l r. (r.names_site, (l.len, r.short.walk))) list L.right);
    asc = ascending list L.right L.ordered;
    size = rw length-map L.most;
    rest = λ v c t.
        let u = unlisted list v t in (
          rw length-map (L.missing v c.1.0 c.0 c.1.1 u).0,
          at_node_lem (λ x. Earlier Arc q x v) list
              (all_map (λ l. Right Arc site q l × ((e : ℕ) → Walk Arc q v e → Before l.node l.len v e)) (λ l. Earlier Arc q l.node v) (λ l z. (l.len, z.0.short, z.1)) list
              (all_zip (Right Arc site q) (λ l. (e : ℕ) → Walk Arc q v e → Before l.node l.len v e) list L.right
              (all_swap (Walk Arc q v) (λ e l. Before l.node l.len v e) list (λ e w. (L.missing v e c.0 w u).1)))),
        );
  }

  right_unique : (a b : Stop) → Right Arc site q a → Right Arc site q b → a.node ≡ b.node → a ≡ b
  right_unique a b x y e =
      let d : a.len ≡ b.len = shortest_unique x.short (rw e y.short) in
      let p : a.way ≡ b.way = route_unique x.route b.node b.way y.route e in
      λ i. record { node = e i; len = d i; way = p i }

  same_stops : (L M : List Stop) → All (Right Arc site q) L → All (Right Arc site q) M → nodes L ≡ nodes M → L ≡ M
  same_stops [] [] x y e = refl
  same_stops [] (b ∷ M) x y e = let z : ◌≡◌ {A = ℕ} 0 1 = cc in absurd (clash z)
  same_stops (a ∷ L) [] x y e = let z : ◌≡◌ {A = ℕ} 0 1 = cc in absurd (clash z)
  same_stops (a ∷ L) (b ∷ M) x y e =
      let h : a.node ≡ b.node = cc in
      let t : nodes L ≡ nodes M = cc in
      let e₁ = right_unique a b x.0 y.0 h in
      let e₂ = same_stops L M x.1 y.1 t in
      cc

  -- no second list fits
  pub listing_unique : {k : ℕ} (L M : List Stop) → Listing Arc site q k L → Listing Arc site q k M → L ≡ M
  listing_unique L M x y =
      same_stops L M x.right y.right (unique (Earlier Arc q) (λ v w c d. earlier_asym Arc q v w) (nodes L) (nodes M) (listing_first x) (listing_first y))

  -- "a site is missing from the list exactly when no walk reaches it or k listed sites come before it": whatever walk reaches it, k lines come before
  pub missing_exactly : {k : ℕ} {list : List Stop} → Listing Arc site q k list → (v : ℕ) → T (site v)
      → All (λ l. l.node ≢ v) list ↔ ((e : ℕ) → Walk Arc q v e → (length list ≡ k) × All (λ l. Before l.node l.len v e) list)
  missing_exactly {k} {list} L v t = (λ u e w. L.missing v e t w u, λ h. go h (dec_t (memb v (nodes list))))
    where
      Beaten : ℕ → Type 0
      Beaten x = (d : ℕ) × Shortest Arc q x d × ((e : ℕ) → Walk Arc q v e → Before x d v e)

      beaten : Beaten v → ⊥
      beaten b = on (b.2 b.0 b.1.walk)
        where
          on : Before v b.0 v b.0 → ⊥
          on (inl z) = omega arith
          on (inr z) = let y = z.1 in omega arith

      go : ((e : ℕ) → Walk Arc q v e → (length list ≡ k) × All (λ l. Before l.node l.len v e) list) → T (memb v (nodes list)) ⊎ T (not (memb v (nodes list))) → All (λ l. l.node ≢ v) list
      go h (inr z) = unlisted list v z
      go h (inl z) =
          absurd (beaten (at_node_lem Beaten list
          (all_map (λ l. Right Arc site q l × ((e : ℕ) → Walk Arc q v e → Before l.node l.len v e)) (λ l. Beaten l.node) (λ l y. (l.len, y.0.short, y.1)) list
          (all_zip (Right Arc site q) (λ l. (e : ℕ) → Walk Arc q v e → Before l.node l.len v e) list L.right
          (all_swap (Walk Arc q v) (λ e l. Before l.node l.len v e) list (λ e w. (h e w).1)))) v z))

-- ---- the search's own list is one

module _ (R : Region) (s : State) where
  all_stops : (P : Stop → Type 0) (vs : List ℕ) → ((v : ℕ) → T (memb v vs) → P (record { node = v; len = len_at s.best v; way = route R s v })) → All P (stops R s vs)
  unfolding stops
  all_stops P [] f = tt
  all_stops P (v ∷ vs) f = (f v (memb_head v vs), all_stops P vs (λ x t. f x (memb_tail v x vs t)))

  pub nodes_stops : (vs : List ℕ) → nodes (stops R s vs) ≡ vs
  unfolding stops
  nodes_stops [] = refl
  nodes_stops (v ∷ vs) = ap (λ (l : List ℕ). v ∷ l) (nodes_stops vs)

  pub length_stops : (vs : List ℕ) → length (stops R s vs) ≡ length vs
  length_stops vs = sym (length-map (stops R s vs) (λ l. l.node)) ∙ ap length (nodes_stops vs)

  listed_not : (vs : List ℕ) (v : ℕ) → All (λ l. l.node ≢ v) (stops R s vs) → T (not (memb v vs))
  unfolding stops memb
  listed_not [] v a = tt
  listed_not (x ∷ vs) v a = memb_not x v vs a.0 (listed_not vs v a.1)

module _ {R : Region} {est : (ℕ → Bool) → ℕ → ℕ} {q : ℕ} (G : Setting R est q) (k : ℕ) where
  module _ (s : State) (L : Listed R q k s) where
    right_at : (v : ℕ) → T (taken s v) × T (is_site R v) → Right (ArcOf R) (is_site R) q (record { node = v; len = len_at s.best v; way = route R s v })
    right_at v p =
        let m = L.inv.known.settled v p.0 in
        let e = m.1 in
        record {
          names_site = p.1;
          short = subst (λ (x : ℕ). Shortest (ArcOf R) q v x) (omega arith) m.2;
          route = route_is R q s v (listed_ends R q k s L v p.0 p.1) G.positive;
        }

    -- x comes before any walk to y, by the length that the state holds
    before_at : (x y : ℕ) → T (taken s x) × T (is_site R x) → Earlier (ArcOf R) q x y → (e : ℕ) → Walk (ArcOf R) q y e → Before x (len_at s.best x) y e
    before_at x y p E e w = subst (λ (d : ℕ). Before x d y e) (shortest_unique E.1 (right_at x p).short) (E.2 e w)

    ordered : (vs : List ℕ) → ((v : ℕ) → T (memb v vs) → T (taken s v) × T (is_site R v)) → Asc (Earlier (ArcOf R) q) vs → Ordered (stops R s vs)
    unfolding stops
    ordered [] h a = tt
    ordered (v ∷ vs) h a = (
      all_stops R s (λ b. Before v (len_at s.best v) b.node b.len) vs (λ y t. before_at v y (h v (memb_head v vs)) (a.0 y t) (len_at s.best y) (right_at y (h y (memb_tail v y vs t))).short.walk),
      ordered vs (λ y t. h y (memb_tail v y vs t)) a.1,
    )

    listing_at : (vs : List ℕ) → ((v : ℕ) → T (memb v vs) → T (taken s v) × T (is_site R v)) → TheList R q k vs → Listing (ArcOf R) (is_site R) q k (stops R s vs)
    listing_at vs h F = record {
      right = all_stops R s (Right (ArcOf R) (is_site R) q) vs (λ v t. right_at v (h v t));
      ordered = ordered vs h F.asc;
      most = rw (length_stops R s vs) F.size;
      missing = λ v e z w u.
          let r = F.rest v (z, (e, w)) (listed_not R s vs v u) in
          (length_stops R s vs ∙ r.0, all_stops R s (λ l. Before l.node l.len v e) vs (λ x t. before_at x v (h x t) (r.1 x t) e w));
    }

  pub list_right : Listing (ArcOf R) (is_site R) q k (list_of R est k q)
  unfolding list_of final taken
  list_right =
      let s = final R est k q in
      listing_at s (listed_after G k R.n) (sites_of R s.order) (λ v t. sites_in R s.order v t) (final_list G k)
