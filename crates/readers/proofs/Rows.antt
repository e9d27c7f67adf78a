-- What rows store when they are a text's entries.
use Prim.Native.Nat.{ℕ, zero, suc, ◌+◌, ◌-◌, ◌<◌}
use mathlib.Core.Path.{◌≡◌, refl, ap, sym, ◌∙◌}
use mathlib.Core.List.{List, [], ◌∷◌, map}
use lib.ListN.{length, get_or, set, get_or-map}
use lib.Seq.{sets}
use native.Mathlib.Omega.{arith}
use Rattle.meaning.specs.Lists.{All}
use Rattle.meaning.specs.Files.{node_of, put_all}
use Rattle.meaning.specs.declared.Entry.{Entry}
use Rattle.meaning.specs.declared.Entry.TheVariants.{Site}
use Rattle.readers.specs.Writing.{stored, in_order}

-- what stands behind the last entry, as a row of zeros
abbrev pub none : Entry
none = Site 0

pub all_at : (P : Entry → Type 0) (es : List Entry) → All P es → (i : ℕ) → i < length es → P (get_or es i none)
all_at P [] a i h = absurd (omega arith)
all_at P (e ∷ es) a zero h = a.0
all_at P (e ∷ es) a (suc i) h = all_at P es a.1 i (omega arith)

pub row_is : {B : Type 0} (row_of : Entry → B) (es : List Entry) (i : ℕ) → get_or (map row_of es) i (row_of none) ≡ row_of (get_or es i none)
row_is row_of es i = get_or-map row_of es i none

-- ---- all rows

stored_first : {A : Type 0} (place : ℕ → ℕ) (v : ℕ → A) (n : ℕ) (xs : List A)
    → stored place v (suc n) xs ≡ stored (λ i. place (suc i)) (λ i. v (suc i)) n (set xs (place 0) (v 0))
stored_first place v zero xs = refl
stored_first {A} place v (suc n) xs = ap (λ (l : List A). set l (place (suc n)) (v (suc n))) (stored_first place v n xs)

module _ {A : Type 0} (value : Entry → A) where
  -- what goes through the entries from the first on, and puts the value of entry k at a place, stores the rows
  module _ (at : ℕ → Entry → ℕ) (puts : ℕ → List Entry → List A → List A) (none_left : (k : ℕ) (xs : List A) → puts k [] xs ≡ xs)
      (one_more : (k : ℕ) (e : Entry) (es : List Entry) (xs : List A) → puts k (e ∷ es) xs ≡ puts (suc k) es (set xs (at k e) (value e))) where
    stored_as : (es : List Entry) (k : ℕ) (place : ℕ → ℕ) (v : ℕ → A) (xs : List A) → ((i : ℕ) → i < length es → place i ≡ at (k + i) (get_or es i none))
        → ((i : ℕ) → i < length es → v i ≡ value (get_or es i none)) → stored place v (length es) xs ≡ puts k es xs
    stored_as [] k place v xs p q = sym (none_left k xs)
    stored_as (e ∷ es) k place v xs p q =
        let a : place 0 ≡ at k e = p 0 (omega arith) ∙ ap (λ (n : ℕ). at n e) (omega arith) in
        let b : v 0 ≡ value e = q 0 (omega arith) in
        stored_first place v (length es) xs
        ∙ stored_as es (suc k) (λ i. place (suc i)) (λ i. v (suc i)) (set xs (place 0) (v 0))
        (λ i l. p (suc i) (omega arith) ∙ ap (λ (n : ℕ). at n (get_or es i none)) (omega arith))
        (λ i l. q (suc i) (omega arith))
        ∙ ap (puts (suc k) es) (rw (a, b))
        ∙ sym (one_more k e es xs)

  module _ (es : List Entry) (v : ℕ → A) (q : (i : ℕ) → i < length es → v i ≡ value (get_or es i none)) (xs : List A) where
    pub stored_front : stored in_order v (length es) xs ≡ sets xs 0 (map value es)
    stored_front = stored_as (λ k e. k) (λ k es xs. sets xs k (map value es)) (λ k xs. refl) (λ k e es xs. refl) es 0 in_order v xs (λ i l. omega arith) q

    pub stored_by_node : (place : ℕ → ℕ) → ((i : ℕ) → i < length es → place i ≡ node_of (get_or es i none) - 1) → stored place v (length es) xs ≡ put_all value es xs
    stored_by_node place p =
        stored_as (λ k e. node_of e - 1) (λ k es xs. put_all value es xs) (λ k xs. refl) (λ k e es xs. refl) es 0 place v xs p q
