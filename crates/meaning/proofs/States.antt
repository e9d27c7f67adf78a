-- Every state of the search knows what `Walk.Known` says.
use mathlib.Core.Path.{◌≡◌, sym, ◌∙◌}
use mathlib.Core.Logic.{◌⊎◌, inl, inr}
use mathlib.Core.Bool.{Bool, true, false, not}
use mathlib.Core.Option.{Option, none, some}
use mathlib.Core.List.{List, ◌∷◌}
use Prim.Native.Nat.{ℕ, zero, suc, ◌+◌, ◌-◌, ◌≤◌, ◌<◌}
use native.Mathlib.Decide.{dec_lt, ℕ_discrete}
use native.Mathlib.Omega.{arith}
use lib.Dec.{T, eqb, ltb, eqb→eq, eqb_refl, ltb→lt, lt→ltb}
use lib.ListN.{length, get_or, set, replicate, length-set, length-replicate, get_or-replicate, get_or-eq_default}
use lib.Seq.{get_or-set_same, get_or-set_other}
use Rattle.meaning.specs.Region.{Region, ArcOf, is_site}
use Rattle.meaning.specs.Taking.{key, State, memb, taken, len_at, key_in, is_open, aimed, mark, relax_to, take1, take_at, start, choose, full, next, after}
use Rattle.meaning.specs.Walk.{Walk, here, step, Shortest}
use Rattle.meaning.proofs.Arcs.{arc_tail, arc_head}
use Rattle.meaning.proofs.Bools.{dec_t, and_both, and_make, or_cases, or_left, or_right}
use Rattle.meaning.proofs.Exits.{Known, Picked, picked_shortest}
use Rattle.meaning.proofs.Relaxing.{Setting, Valid, aimed_site, Within, within_has, relax_to_length, relax_to_keeps, relax_to_taken, relax_to_hits, relax_to_sound}
use Rattle.meaning.proofs.Scans.{First, IsFirst, first_is}

abbrev pub Has : State → ℕ → ℕ → Type 0
Has s v d = get_or s.best v 0 ≡ suc d

pub record Inv (R : Region) (q : ℕ) (s : State) : Type 0 where
  pub known : Known (ArcOf R) q (Has s) (taken s)
  pub size : length s.best ≡ R.n
  pub nodes : (v : ℕ) → T (taken s v) → v < R.n

same : (s : State) (v d e : ℕ) → Has s v d → Has s v e → d ≡ e
same s v d e p q = omega arith

has_within : (s : State) (v d B : ℕ) → Has s v d → d ≤ B → Within (get_or s.best v 0) (suc B)
has_within s v d B p l = record { seen = omega arith; most = omega arith }

pub taken_cons : (s : State) (u v : ℕ) → T (taken (mark s u) v) → (u ≡ v) ⊎ T (taken s v)
unfolding taken memb
taken_cons s u v t = go (or_cases (eqb u v) (memb v s.order) t)
  where
    go : T (eqb u v) ⊎ T (memb v s.order) → (u ≡ v) ⊎ T (memb v s.order)
    go (inl z) = inl (eqb→eq u v z)
    go (inr z) = inr z

pub taken_new : (s : State) (u v : ℕ) → u ≡ v → T (taken (mark s u) v)
unfolding taken memb
taken_new s u v e = or_left (eqb u v) (memb v s.order) (rw e (eqb_refl v))

pub taken_old : (s : State) (u v : ℕ) → T (taken s v) → T (taken (mark s u) v)
unfolding taken memb
taken_old s u v t = or_right (eqb u v) (memb v s.order) t

module _ (R : Region) (ok : Valid R) (q : ℕ) (s : State) (I : Inv R q s) (u d : ℕ) (hd : Has s u d) (below : u < R.n) (sh : Shortest (ArcOf R) q u d) where
  unfoldable pub aft : State
  aft = record { best = relax_to R (taken (mark s u)) s.best u d R.m; order = u ∷ s.order }

  old : (v : ℕ) → T (taken aft v) → get_or aft.best v 0 ≡ get_or s.best v 0
  unfolding aft taken
  old v t = relax_to_taken R ok (taken (mark s u)) s.best u d I.size R.m (omega arith) v t

  kept : (v B : ℕ) → Within (get_or s.best v 0) B → Within (get_or aft.best v 0) B
  unfolding aft
  kept v B w = relax_to_keeps R ok (taken (mark s u)) s.best u d I.size R.m (omega arith) v B w

  settled_aft : (v : ℕ) → T (taken aft v) → (e : ℕ) × Has aft v e × Shortest (ArcOf R) q v e
  unfolding aft taken
  settled_aft v t = go (taken_cons s u v t)
    where
      go : (u ≡ v) ⊎ T (taken s v) → (e : ℕ) × Has aft v e × Shortest (ArcOf R) q v e
      go (inl e) = (d, old v t ∙ (rw (← e) hd), rw (← e) sh)
      go (inr z) = let k = I.known.settled v z in (k.0, old v t ∙ k.1, k.2)

  relaxed_aft : (x v e w : ℕ) → T (taken aft x) → Has aft x e → ArcOf R x v w → (f : ℕ) × Has aft v f × (f ≤ e + w)
  unfolding aft taken
  relaxed_aft x v e w t h r = go (taken_cons s u x t)
    where
      be : Has s x e
      be = sym (old x t) ∙ h

      new : u ≡ x → T (taken (mark s u) v) ⊎ T (not (taken (mark s u) v)) → (f : ℕ) × Has aft v f × (f ≤ e + w)
      new c (inl z) =
          let k = settled_aft v z in
          let de : d ≡ e = same s u d e hd (rw c be) in
          let l = k.2.least (d + w) (step sh.walk (rw c r)) in
          (k.0, k.1, omega arith)
      new c (inr z) =
          let de : d ≡ e = same s u d e hd (rw c be) in
          within_has _ (e + w) (rw (← (arc_head r), ← r.weighs, ← de) (relax_to_hits R ok (taken (mark s u)) s.best u d I.size R.m (omega arith) r.index r.below (arc_tail r ∙ sym c) (rw (arc_head r) z)))

      go : (u ≡ x) ⊎ T (taken s x) → (f : ℕ) × Has aft v f × (f ≤ e + w)
      go (inl c) = new c (dec_t (taken (mark s u) v))
      go (inr z) =
          let k = I.known.relaxed x v e w z be r in
          within_has _ (e + w) (kept v (suc (e + w)) (has_within s v k.0 (e + w) k.1 k.2))

  begun_aft : Has aft q 0
  begun_aft = go (within_has _ 0 (kept q 1 (has_within s q 0 0 I.known.begun (omega arith))))
    where
      go : (e : ℕ) × Has aft q e × (e ≤ 0) → Has aft q 0
      go k = let z = k.1 in let l = k.2 in omega arith

  nodes_aft : (v : ℕ) → T (taken aft v) → v < R.n
  unfolding aft taken
  nodes_aft v t = go (taken_cons s u v t)
    where
      go : (u ≡ v) ⊎ T (taken s v) → v < R.n
      go (inl e) = omega arith
      go (inr z) = I.nodes v z

  pub inv_aft : Inv R q aft
  unfolding aft
  inv_aft = record {
    known = record {
      begun = begun_aft;
      sound = relax_to_sound R ok (taken (mark s u)) s.best u d I.size I.known.sound sh.walk R.m (omega arith);
      settled = settled_aft;
      relaxed = relaxed_aft;
      single = same aft;
    };
    size = relax_to_length R ok (taken (mark s u)) s.best u d I.size R.m (omega arith);
    nodes = nodes_aft;
  }

-- ---- the first state

abbrev zeros : ℕ → List ℕ
zeros n = replicate n 0

module _ (R : Region) (q : ℕ) (below : q < R.n) where
  start_at : get_or (start R q).best q 0 ≡ 1
  unfolding start
  start_at = get_or-set_same (zeros R.n) q 1 0 (rw length-replicate below)

  blank : (n v : ℕ) → get_or (zeros n) v 0 ≡ 0
  blank n v = go (dec_lt v n)
    where
      go : Dec (v < n) → get_or (zeros n) v 0 ≡ 0
      go (yes z) = get_or-replicate n v 0 0 z
      go (no z) = get_or-eq_default (zeros n) 0 (rw length-replicate (omega arith))

  pub start_zero : (v d : ℕ) → Has (start R q) v d → d ≡ 0
  unfolding start
  start_zero v d h = go (ℕ_discrete v q)
    where
      go : Dec (v ≡ q) → d ≡ 0
      go (yes e) = let z : get_or (set (zeros R.n) q 1) v 0 ≡ 1 = rw e start_at in omega arith
      go (no e) =
          let z = get_or-set_other (zeros R.n) q v 1 0 e in
          let y = blank R.n v in
          absurd (omega arith)

  start_node : (v d : ℕ) → Has (start R q) v d → v ≡ q
  unfolding start
  start_node v d h = go (ℕ_discrete v q)
    where
      go : Dec (v ≡ q) → v ≡ q
      go (yes e) = e
      go (no e) =
          let z = get_or-set_other (zeros R.n) q v 1 0 e in
          let y = blank R.n v in
          absurd (omega arith)

  start_sound : (v d : ℕ) → Has (start R q) v d → Walk (ArcOf R) q v d
  start_sound v d h = rw (start_node v d h, start_zero v d h) here

  pub inv_start : Inv R q (start R q)
  unfolding start taken memb
  inv_start = record {
    known = record {
      begun = start_at;
      sound = start_sound;
      settled = λ v t. absurd t;
      relaxed = λ u v d w t. absurd t;
      single = same (start R q);
    };
    size = length-set (zeros R.n) q 1 ∙ length-replicate R.n 0;
    nodes = λ v t. absurd t;
  }

-- ---- what is picked

seen_len : (x : ℕ) → 0 < x → x ≡ suc (x - 1)
seen_len x l = omega arith

pub has_below : (b : List ℕ) (v e : ℕ) → get_or b v 0 ≡ suc e → v < length b
has_below b v e h = go (dec_lt v (length b))
  where
    go : Dec (v < length b) → v < length b
    go (yes z) = z
    go (no z) = let y : get_or b v 0 ≡ 0 = get_or-eq_default b 0 (omega arith) in absurd (omega arith)

pub open_is : (s : State) (v e : ℕ) → T (not (taken s v)) → Has s v e → T (is_open s v)
unfolding is_open
open_is s v e t h = and_make (ltb 0 (get_or s.best v 0)) (not (taken s v)) (lt→ltb 0 (get_or s.best v 0) (omega arith)) t

pub len_of : (s : State) (v e : ℕ) → Has s v e → len_at s.best v ≡ e
len_of s v e h = omega arith

-- for any estimate at one set of sites
pub picked_by : (R : Region) (h : ℕ → ℕ) (q : ℕ) (s : State) → Inv R q s → (v : ℕ) → First (is_open s) (λ u. key h (is_site R) u (len_at s.best u)) R.n v
    → Picked (Has s) (taken s) (is_site R) h v (len_at s.best v)
unfolding is_open
picked_by R h q s I v F =
    let o = and_both (ltb 0 (get_or s.best v 0)) (not (taken s v)) F.holds in
    record {
      untaken = o.1;
      has = seen_len _ (ltb→lt 0 _ o.0);
      least = λ u e t k. rw (len_of s u e k) at (F.least u (in_reach u e k) (open_is s u e t k));
      lower = λ u e t k l. F.lower u (in_reach u e k) (open_is s u e t k) (rw (len_of s u e k) l);
    }
  where
    in_reach : (u e : ℕ) → Has s u e → u < R.n
    in_reach u e k = rw I.size at (has_below s.best u e k)

module _ (R : Region) (est : (ℕ → Bool) → ℕ → ℕ) (q : ℕ) (s : State) (I : Inv R q s) where
  pub open_of : (v e : ℕ) → T (not (taken s v)) → Has s v e → T (is_open s v)
  open_of v e t h = open_is s v e t h

  pub picked : (v : ℕ) → First (is_open s) (key_in R est s) R.n v → Picked (Has s) (taken s) (is_site R) (est (aimed R s)) v (len_at s.best v)
  picked v F = picked_by R (est (aimed R s)) q s I v F

-- ---- every state

module _ {R : Region} {est : (ℕ → Bool) → ℕ → ℕ} {q : ℕ} (G : Setting R est q) (k : ℕ) where
  pub inv_take : (s : State) → Inv R q s → (v : ℕ) → First (is_open s) (key_in R est s) R.n v → Inv R q (take1 R s v)
  unfolding take1 aft
  inv_take s I v F =
      let P = picked R est q s I v F in
      inv_aft R G.valid q s I v (len_at s.best v) P.has F.below (picked_shortest I.known (G.fits (aimed R s) (aimed_site R s)) 0 (λ x y w a. omega arith) P)

  pub inv_next : (s : State) → Inv R q s → Inv R q (next R est k s)
  unfolding next take_at choose
  inv_next s I = go (full R k s) (choose R est s) (first_is (is_open s) _ R.n)
    where
      go : (b : Bool) (o : Option ℕ) → IsFirst (is_open s) (key_in R est s) R.n o → Inv R q (take_at R s b o)
      go true o f = I
      go false none f = I
      go false (some v) f = inv_take s I v f

  pub inv_after : (i : ℕ) → Inv R q (after R est k q i)
  unfolding after
  inv_after zero = inv_start R q G.below
  inv_after (suc i) = inv_next (after R est k q i) (inv_after i)
