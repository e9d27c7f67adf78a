-- What looking at the arcs of a taken node does to the lengths.
use mathlib.Core.Path.{◌≡◌, refl, sym, ◌∙◌}
use mathlib.Core.Logic.{◌⊎◌, inl, inr}
use mathlib.Core.Bool.{Bool, true, false, not, cond}
use mathlib.Core.List.{List}
use Prim.Native.Nat.{ℕ, zero, suc, ◌+◌, ◌≤◌, ◌<◌, min}
use native.Mathlib.Decide.{dec_lt, ℕ_discrete}
use native.Mathlib.Omega.{arith}
use lib.Dec.{T, T_not, eqb, eqb→eq, eqb_refl}
use lib.ListN.{length, get_or, set, length-set}
use lib.Seq.{get_or-set_same, get_or-set_other}
use Rattle.meaning.specs.Region.{Region, ArcOf, is_site}
use Rattle.meaning.specs.Taking.{State, aimed, taken, lower, looks, relax, relax_to}
use Rattle.meaning.specs.Walk.{Walk, step}
use Rattle.meaning.proofs.Arcs.{arc_of}
use Rattle.meaning.proofs.Bools.{T_true, T_false, dec_t, and_both, and_make}
use Rattle.meaning.proofs.Exits.{Consistent}

-- what a reader or the search's own checks make sure of
pub record Valid (R : Region) : Type 0 where
  pub tails : (i : ℕ) → i < R.m → R.tail i < R.n
  pub heads : (i : ℕ) → i < R.m → R.head i < R.n
  pub sites : (j : ℕ) → j < R.s → R.site j < R.n

-- what the search asks of an estimate: consistent, and 0 at the sites that it looks to, for any set of sites
abbrev pub Estimate : Region → ((ℕ → Bool) → ℕ → ℕ) → Type 0
Estimate R est = (S : ℕ → Bool) → ((s : ℕ) → T (S s) → T (is_site R s)) → Consistent (ArcOf R) S (est S)

-- what the theory of the search rests on: nodes that exist, arcs longer than nothing, a consistent estimate, a query inside
pub record Setting (R : Region) (est : (ℕ → Bool) → ℕ → ℕ) (q : ℕ) : Type 0 where
  pub valid : Valid R
  pub positive : (i : ℕ) → i < R.m → 1 ≤ R.weight i
  pub fits : Estimate R est
  pub below : q < R.n

pub aimed_site : (R : Region) (s : State) (v : ℕ) → T (aimed R s v) → T (is_site R v)
unfolding aimed
aimed_site R s v t = (and_both (is_site R v) (not (taken s v)) t).0

-- an encoded length: seen, and at most B
pub record Within (x B : ℕ) : Type 0 where
  pub seen : 0 < x
  pub most : x ≤ B

pub within_has : (x B : ℕ) → Within x (suc B) → (e : ℕ) × (x ≡ suc e) × (e ≤ B)
within_has zero B h = let z = h.seen in absurd (omega arith)
within_has (suc e) B h = let z = h.most in (e, refl, omega arith)

pub lower_within : (a x : ℕ) → Within (lower a (suc x)) (suc x)
unfolding lower
lower_within zero x = record { seen = omega arith; most = omega arith }
lower_within (suc a) x = record { seen = omega arith; most = omega arith }

pub lower_keeps : (a x B : ℕ) → Within a B → Within (lower a (suc x)) B
unfolding lower
lower_keeps zero x B h = let z = h.seen in absurd (omega arith)
lower_keeps (suc a) x B h = let z = h.most in record { seen = omega arith; most = omega arith }

pub lower_is : (a x : ℕ) → (lower a x ≡ a) ⊎ (lower a x ≡ x)
unfolding lower
lower_is zero x = inr refl
lower_is (suc a) x = go (dec_lt (suc a) x)
  where
    go : Dec (suc a < x) → (min (suc a) x ≡ suc a) ⊎ (min (suc a) x ≡ x)
    go (yes z) = inl (omega arith)
    go (no z) = inr (omega arith)

-- where the arc i gives the node v its length
pub record Hit (R : Region) (tk : ℕ → Bool) (u i v : ℕ) : Type 0 where
  pub tail : R.tail i ≡ u
  pub head : R.head i ≡ v
  pub untaken : T (not (tk v))

-- one node's length after arc i: as it was, or lowered
abbrev pub After : Region → (ℕ → Bool) → ℕ → ℕ → ℕ → List ℕ → ℕ → Type 0
After R tk u d i b v = (get_or (relax R tk u d i b) v 0 ≡ get_or b v 0) ⊎ (Hit R tk u i v × (get_or (relax R tk u d i b) v 0 ≡ lower (get_or b v 0) (suc (d + R.weight i))))

module _ (R : Region) (tk : ℕ → Bool) (u d i : ℕ) (b : List ℕ) (h : R.head i < length b) where
  pub relax_length : length (relax R tk u d i b) ≡ length b
  unfolding relax
  relax_length = go (looks R tk u i)
    where
      go : (c : Bool) → length (cond c (set b (R.head i) (lower (get_or b (R.head i) 0) (suc (d + R.weight i)))) b) ≡ length b
      go true = length-set b _ _
      go false = refl

  pub relax_hit : T (looks R tk u i) → get_or (relax R tk u d i b) (R.head i) 0 ≡ lower (get_or b (R.head i) 0) (suc (d + R.weight i))
  unfolding relax
  relax_hit t = rw (T_true (looks R tk u i) t, relax) (get_or-set_same b (R.head i) _ 0 h)

  set_at : (v : ℕ) → T (looks R tk u i) → Dec (v ≡ R.head i) → After R tk u d i b v
  unfolding relax looks
  set_at v t (yes e) =
      let p = and_both (eqb (R.tail i) u) (not (tk (R.head i))) t in
      inr (record { tail = eqb→eq (R.tail i) u p.0; head = sym e; untaken = rw e p.1 }, rw e (relax_hit t))
  set_at v t (no e) = inl (rw (T_true (looks R tk u i) t, relax) (get_or-set_other b (R.head i) v _ 0 e))

  pub relax_at : (v : ℕ) → After R tk u d i b v
  unfolding relax
  relax_at v = go (dec_t (looks R tk u i))
    where
      go : T (looks R tk u i) ⊎ T (not (looks R tk u i)) → After R tk u d i b v
      go (inl t) = set_at v t (ℕ_discrete v (R.head i))
      go (inr t) = inl (rw (T_false (looks R tk u i) t, relax))

  pub relax_keeps : (v B : ℕ) → Within (get_or b v 0) B → Within (get_or (relax R tk u d i b) v 0) B
  relax_keeps v B w = go (relax_at v)
    where
      go : After R tk u d i b v → Within (get_or (relax R tk u d i b) v 0) B
      go (inl e) = rw e w
      go (inr e) = rw e.1 (lower_keeps (get_or b v 0) (d + R.weight i) B w)

  pub relax_taken : (v : ℕ) → T (tk v) → get_or (relax R tk u d i b) v 0 ≡ get_or b v 0
  relax_taken v t = go (relax_at v)
    where
      go : After R tk u d i b v → get_or (relax R tk u d i b) v 0 ≡ get_or b v 0
      go (inl e) = e
      go (inr e) = absurd (T_not (tk v) e.0.untaken t)

-- after the first i arcs
module _ (R : Region) (ok : Valid R) (tk : ℕ → Bool) (b₀ : List ℕ) (u d : ℕ) (size : length b₀ ≡ R.n) where
  pub relax_to_length : (i : ℕ) → i ≤ R.m → length (relax_to R tk b₀ u d i) ≡ R.n
  unfolding relax_to
  relax_to_length zero l = size
  relax_to_length (suc i) l =
      let p = relax_to_length i (omega arith) in
      relax_length R tk u d i (relax_to R tk b₀ u d i) (rw p (ok.heads i (omega arith))) ∙ p

  room : (i : ℕ) → suc i ≤ R.m → R.head i < length (relax_to R tk b₀ u d i)
  room i l = rw (relax_to_length i (omega arith)) (ok.heads i (omega arith))

  pub relax_to_keeps : (i : ℕ) → i ≤ R.m → (v B : ℕ) → Within (get_or b₀ v 0) B → Within (get_or (relax_to R tk b₀ u d i) v 0) B
  unfolding relax_to
  relax_to_keeps zero l v B w = w
  relax_to_keeps (suc i) l v B w = relax_keeps R tk u d i (relax_to R tk b₀ u d i) (room i l) v B (relax_to_keeps i (omega arith) v B w)

  pub relax_to_taken : (i : ℕ) → i ≤ R.m → (v : ℕ) → T (tk v) → get_or (relax_to R tk b₀ u d i) v 0 ≡ get_or b₀ v 0
  unfolding relax_to
  relax_to_taken zero l v t = refl
  relax_to_taken (suc i) l v t = relax_taken R tk u d i (relax_to R tk b₀ u d i) (room i l) v t ∙ relax_to_taken i (omega arith) v t

  looks_of : (j : ℕ) → R.tail j ≡ u → T (not (tk (R.head j))) → T (looks R tk u j)
  unfolding looks
  looks_of j e t = and_make (eqb (R.tail j) u) (not (tk (R.head j))) (rw e (eqb_refl u)) t

  pub relax_to_hits : (i : ℕ) → i ≤ R.m → (j : ℕ) → j < i → R.tail j ≡ u → T (not (tk (R.head j))) → Within (get_or (relax_to R tk b₀ u d i) (R.head j) 0) (suc (d + R.weight j))
  unfolding relax_to
  relax_to_hits zero l j lt e t = absurd (omega arith)
  relax_to_hits (suc i) l j lt e t = go (dec_lt j i) (relax_to_hits i (omega arith) j)
    where
      go : Dec (j < i) → (j < i → R.tail j ≡ u → T (not (tk (R.head j))) → Within (get_or (relax_to R tk b₀ u d i) (R.head j) 0) (suc (d + R.weight j))) → Within (get_or (relax R tk u d i (relax_to R tk b₀ u d i)) (R.head j) 0) (suc (d + R.weight j))
      go (yes z) ih = relax_keeps R tk u d i (relax_to R tk b₀ u d i) (room i l) (R.head j) _ (ih z e t)
      go (no z) ih =
          let c : j ≡ i = omega arith in
          let k : T (looks R tk u i) = rw c at (looks_of j e t) in
          rw (c, relax_hit R tk u d i (relax_to R tk b₀ u d i) (room i l) k) (lower_within _ _)

  -- whatever holds of the lengths before, and of what u's arcs give, holds of the lengths after
  pub relax_to_all : (Q : ℕ → ℕ → Type 0) → ((v e : ℕ) → get_or b₀ v 0 ≡ suc e → Q v e) → ((i : ℕ) → i < R.m → R.tail i ≡ u → Q (R.head i) (d + R.weight i)) → (i : ℕ) → i ≤ R.m
      → (v e : ℕ) → get_or (relax_to R tk b₀ u d i) v 0 ≡ suc e → Q v e
  unfolding relax_to
  relax_to_all Q k g zero l v e h = k v e h
  relax_to_all Q k g (suc i) l v e h = go (relax_at R tk u d i (relax_to R tk b₀ u d i) (room i l) v) (relax_to_all Q k g i (omega arith) v e)
    where
      new : Hit R tk u i v → suc (d + R.weight i) ≡ suc e → Q v e
      new t z =
          let y : d + R.weight i ≡ e = omega arith in
          rw (← y, ← t.head) (g i (omega arith) t.tail)

      low : (a : ℕ) → lower a (suc (d + R.weight i)) ≡ suc e → (a ≡ suc e → Q v e) → Hit R tk u i v
          → (lower a (suc (d + R.weight i)) ≡ a) ⊎ (lower a (suc (d + R.weight i)) ≡ suc (d + R.weight i)) → Q v e
      low a z ih t (inl y) = ih (sym y ∙ z)
      low a z ih t (inr y) = new t (sym y ∙ z)

      go : After R tk u d i (relax_to R tk b₀ u d i) v → (get_or (relax_to R tk b₀ u d i) v 0 ≡ suc e → Q v e) → Q v e
      go (inl y) ih = ih (sym y ∙ h)
      go (inr y) ih = low (get_or (relax_to R tk b₀ u d i) v 0) (sym y.1 ∙ h) ih y.0 (lower_is _ _)

  pub relax_to_sound : {q : ℕ} → ((v e : ℕ) → get_or b₀ v 0 ≡ suc e → Walk (ArcOf R) q v e) → Walk (ArcOf R) q u d → (i : ℕ) → i ≤ R.m
      → (v e : ℕ) → get_or (relax_to R tk b₀ u d i) v 0 ≡ suc e → Walk (ArcOf R) q v e
  relax_to_sound {q} k p = relax_to_all (Walk (ArcOf R) q) k (λ i l e. step p (arc_of i l e refl refl))
