-- The first k of some candidates in a strict order: at most one list is that.
use mathlib.Core.Path.{◌≡◌, refl, sym, ap, ◌∙◌}
use mathlib.Core.Logic.{◌⊎◌, inl, inr}
use mathlib.Core.Bool.{Bool, true, false, not, ◌||◌}
use mathlib.Core.List.{List, [], ◌∷◌}
use Prim.Native.Nat.{ℕ, suc, ◌-◌, ◌≤◌, ◌<◌}
use native.Mathlib.Omega.{arith}
use native.Mathlib.Decide.{ℕ_discrete}
use lib.Dec.{T, T_not, eqb, eqb→eq, eqb_refl, not_T}
use lib.ListN.{length}
use Rattle.meaning.specs.Taking.{memb}
use Rattle.meaning.proofs.Bools.{T_true, T_false, dec_t, or_cases, or_left, or_right}
use Rattle.meaning.proofs.Counting.{count, count_more, count_none, count_le}

abbrev pub Asc : (ℕ → ℕ → Type 0) → List ℕ → Type 0
Asc E [] = Unit {0}
Asc E (x ∷ xs) = ((y : ℕ) → T (memb y xs) → E x y) × Asc E xs

pub record FirstK (C : ℕ → Type 0) (E : ℕ → ℕ → Type 0) (k : ℕ) (L : List ℕ) : Type 0 where
  pub mem : (v : ℕ) → T (memb v L) → C v
  pub asc : Asc E L
  pub size : length L ≤ k
  pub rest : (v : ℕ) → C v → T (not (memb v L)) → (length L ≡ k) × ((x : ℕ) → T (memb x L) → E x v)

pub memb_head : (x : ℕ) (xs : List ℕ) → T (memb x (x ∷ xs))
unfolding memb
memb_head x xs = or_left (eqb x x) (memb x xs) (eqb_refl x)

pub memb_tail : (x y : ℕ) (xs : List ℕ) → T (memb y xs) → T (memb y (x ∷ xs))
unfolding memb
memb_tail x y xs t = or_right (eqb x y) (memb y xs) t

pub memb_cases : (x y : ℕ) (xs : List ℕ) → T (memb y (x ∷ xs)) → (x ≡ y) ⊎ T (memb y xs)
unfolding memb
memb_cases x y xs t = go (or_cases (eqb x y) (memb y xs) t)
  where
    go : T (eqb x y) ⊎ T (memb y xs) → (x ≡ y) ⊎ T (memb y xs)
    go (inl z) = inl (eqb→eq x y z)
    go (inr z) = inr z

pub memb_not : (x y : ℕ) (xs : List ℕ) → (x ≡ y → ⊥) → T (not (memb y xs)) → T (not (memb y (x ∷ xs)))
memb_not x y xs n t = not_T (memb y (x ∷ xs)) (λ z. go (memb_cases x y xs z))
  where
    go : (x ≡ y) ⊎ T (memb y xs) → ⊥
    go (inl e) = n e
    go (inr z) = T_not (memb y xs) t z

module _ (E : ℕ → ℕ → Type 0) where
  -- the head of a first-k list comes before any other candidate
  before : {C : ℕ → Type 0} {k x y : ℕ} {xs : List ℕ} → FirstK C E k (x ∷ xs) → C y → (x ≡ y → ⊥) → E x y
  before {x} {y} {xs} F c n = go (dec_t (memb y (x ∷ xs)))
    where
      among : (x ≡ y) ⊎ T (memb y xs) → E x y
      among (inl e) = absurd (n e)
      among (inr z) = F.asc.0 y z

      go : T (memb y (x ∷ xs)) ⊎ T (not (memb y (x ∷ xs))) → E x y
      go (inl t) = among (memb_cases x y xs t)
      go (inr t) = (F.rest y c t).1 x (memb_head x xs)

  tail_of : {C : ℕ → Type 0} {k x : ℕ} {xs : List ℕ} → (E x x → ⊥) → FirstK C E k (x ∷ xs) → FirstK (λ v. C v × (x ≡ v → ⊥)) E (k - 1) xs
  tail_of {C} {k} {x} {xs} irr F = record {
    mem = λ v t. (F.mem v (memb_tail x v xs t), λ e. irr (F.asc.0 x (rw e t)));
    asc = F.asc.1;
    size = let z = F.size in omega arith;
    rest = λ v c t. (let z = (F.rest v c.0 (memb_not x v xs c.1 t)).0 in omega arith, λ y z. (F.rest v c.0 (memb_not x v xs c.1 t)).1 y (memb_tail x y xs z));
  }

  pub unique : {C : ℕ → Type 0} → ((x y : ℕ) → C x → C y → E x y → E y x → ⊥) → {k : ℕ} (L M : List ℕ) → FirstK C E k L → FirstK C E k M → L ≡ M
  unfolding memb
  unique {C} asym [] [] F G = refl
  unique {C} asym [] (y ∷ ys) F G = let z = (F.rest y (G.mem y (memb_head y ys)) tt).0 in let l = G.size in absurd (omega arith)
  unique {C} asym (x ∷ xs) [] F G = let z = (G.rest x (F.mem x (memb_head x xs)) tt).0 in let l = F.size in absurd (omega arith)
  unique {C} asym {k} (x ∷ xs) (y ∷ ys) F G = go (ℕ_discrete x y) (λ a b. unique {C = λ v. C v × (x ≡ v → ⊥)} (λ v w c d. asym v w c.0 d.0) xs ys a b)
    where
      cx : C x
      cx = F.mem x (memb_head x xs)

      cy : C y
      cy = G.mem y (memb_head y ys)

      go : Dec (x ≡ y) → (FirstK (λ v. C v × (x ≡ v → ⊥)) E (k - 1) xs → FirstK (λ v. C v × (x ≡ v → ⊥)) E (k - 1) ys → xs ≡ ys) → x ∷ xs ≡ y ∷ ys
      go (yes e) ih =
          let i = ih (tail_of (λ z. asym x x cx cx z z) F) (rw e (tail_of (λ z. asym y y cy cy z z) G)) in
          cc
      go (no n) ih = absurd (asym x y cx cy (before F cy n) (before G cx (λ e. n (sym e))))

-- ---- a list in a strict order fits into the numbers that it draws from

pub memb_else : (x v : ℕ) (xs : List ℕ) → (v ≡ x → ⊥) → memb v (x ∷ xs) ≡ memb v xs
unfolding memb
memb_else x v xs n = go (eqb x v) (λ t. n (sym (eqb→eq x v t)))
  where
    go : (b : Bool) → (T b → ⊥) → (b || memb v xs) ≡ memb v xs
    go true z = absurd (z tt)
    go false z = refl

pub asc_count : (E : ℕ → ℕ → Type 0) → ((x : ℕ) → E x x → ⊥) → (n : ℕ) (p : List ℕ) → Asc E p → ((x : ℕ) → T (memb x p) → x < n) → count (λ v. memb v p) n ≡ length p
unfolding memb
asc_count E irr n [] a h = count_none (λ v. false) n (λ v. refl)
asc_count E irr n (x ∷ xs) a h =
    count_more (λ v. memb v xs) (λ v. memb v (x ∷ xs)) x n (h x (memb_head x xs)) (T_false (memb x xs) (not_T (memb x xs) (λ t. irr x (a.0 x t)))) (T_true (memb x (x ∷ xs)) (memb_head x xs)) (λ v z. memb_else x v xs z)
    ∙ ap suc (asc_count E irr n xs a.1 (λ y t. h y (memb_tail x y xs t)))

pub asc_fits : (E : ℕ → ℕ → Type 0) → ((x : ℕ) → E x x → ⊥) → (n : ℕ) (p : List ℕ) → Asc E p → ((x : ℕ) → T (memb x p) → x < n) → length p ≤ n
asc_fits E irr n p a h = let c = asc_count E irr n p a h in let l = count_le (λ v. memb v p) n in omega arith
