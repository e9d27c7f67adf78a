-- "A listed route is shown as the very stretch of the route buffer where it was written": the stretch of a rank is that line's route.
use mathlib.Core.Path.{◌≡◌, refl, sym, ap, ◌∙◌}
use mathlib.Core.List.{List, [], ◌∷◌, ◌++◌, map, append_assoc}
use Prim.Native.Nat.{ℕ, suc, ◌+◌, ◌-◌, ◌≤◌}
use native.Mathlib.Nat.{zero-add}
use native.Mathlib.Omega.{arith}
use borrow.Author.Tests.{le-leb, lt-leb}
use lib.ListN.{length, get_or, take, drop, length-append, length-map}
use lib.Seq.{drop_at, take_at}
use Rattle.meaning.specs.Listing.{Stop}
use Rattle.meaning.specs.Search.{over, back_to_back, ends_after, begin_of, stretch}

-- no second stretch fits
pub stretch_unique : (routes ends : List ℕ) (rank : ℕ) (part₁ part₂ : List ℕ) → part₁ ≡ stretch routes ends rank → part₂ ≡ stretch routes ends rank → part₁ ≡ part₂
stretch_unique routes ends rank part₁ part₂ x y = x ∙ sym y

joined : (front list : List Stop) → back_to_back (front ++ list) ≡ back_to_back front ++ back_to_back list
unfolding back_to_back
joined [] list = refl
joined (l ∷ front) list = ap (λ (b : List ℕ). map suc l.way ++ b) (joined front list) ∙ sym (append_assoc (map suc l.way) (back_to_back front) (back_to_back list))

module _ (l : Stop) (back : List Stop) (rest : List ℕ) where
  -- where the line after `front` ends
  end_at : (front : List Stop) (used : ℕ) → get_or (ends_after used (front ++ l ∷ back) ++ rest) (length front) 0 ≡ used + length (back_to_back front) + length l.way
  unfolding ends_after back_to_back
  end_at [] used = omega arith
  end_at (f ∷ front) used = let e = end_at front (used + length f.way) in e ∙ simp (length-append, length-map) (omega arith)

  -- and where it begins: at the end of the one before
  begin_at : (f : Stop) (front : List Stop) (used : ℕ) → get_or (ends_after used (f ∷ front ++ l ∷ back) ++ rest) (length front) 0 ≡ used + length (back_to_back (f ∷ front))
  unfolding ends_after back_to_back
  begin_at f [] used = simp (length-append, length-map) (omega arith)
  begin_at f (g ∷ front) used = begin_at g front (used + length f.way) ∙ simp (length-append, length-map) (omega arith)

  begin_is : (front : List Stop) → begin_of (ends_after 0 (front ++ l ∷ back) ++ rest) (suc (length front)) ≡ length (back_to_back front)
  unfolding back_to_back
  begin_is [] = refl
  begin_is (f ∷ front) =
      let e : suc (suc (length front)) - 2 ≡ length front = omega arith in
      rw (lt-leb (suc (suc (length front))) 1 (omega arith), e) (begin_at f front 0 ∙ zero-add (length (back_to_back (f ∷ front))))

length_ends : (list : List Stop) (used : ℕ) → length (ends_after used list) ≡ length list
unfolding ends_after
length_ends [] used = refl
length_ends (l ∷ list) used = ap suc (length_ends list (used + length l.way))

pub stretch_shows : (front : List Stop) (l : Stop) (back : List Stop) (routes ends : List ℕ)
    → stretch (over (back_to_back (front ++ l ∷ back)) routes) (over (ends_after 0 (front ++ l ∷ back)) ends) (suc (length front)) ≡ map suc l.way
unfolding stretch back_to_back
stretch_shows front l back routes ends =
    rw (le-leb 1 (suc (length front)) (omega arith), le-leb (suc (length front)) (length es) rank, begin_is l back rest_e front, at, end_at l back rest_e front 0, le-leb a (0 + a + w) (omega arith), le-leb (0 + a + w) (length rs) room, shape)
    (part (0 + a + w - a) (omega arith))
  where
    list : List Stop
    list = front ++ l ∷ back

    rest_e : List ℕ
    rest_e = drop (length (ends_after 0 list)) ends

    rest_r : List ℕ
    rest_r = drop (length (back_to_back list)) routes

    es : List ℕ
    es = over (ends_after 0 list) ends

    rs : List ℕ
    rs = over (back_to_back list) routes

    at : suc (length front) - 1 ≡ length front
    at = omega arith

    a : ℕ
    a = length (back_to_back front)

    w : ℕ
    w = length l.way

    shape : rs ≡ back_to_back front ++ (map suc l.way ++ (back_to_back back ++ rest_r))
    shape =
        ap (λ (b : List ℕ). b ++ rest_r) (joined front (l ∷ back)) ∙ append_assoc (back_to_back front) (map suc l.way ++ back_to_back back) rest_r
        ∙ ap (λ (b : List ℕ). back_to_back front ++ b) (append_assoc (map suc l.way) (back_to_back back) rest_r)

    rank : suc (length front) ≤ length es
    rank = let e = length_ends list 0 in let c = length-append front (l ∷ back) in let d = length-append (ends_after 0 list) rest_e in omega arith

    room : 0 + a + w ≤ length rs
    room = rw shape (simp (length-append, length-map) (omega arith))

    part : (n : ℕ) → n ≡ w → take n (drop a (back_to_back front ++ (map suc l.way ++ (back_to_back back ++ rest_r)))) ≡ map suc l.way
    part n e = rw (drop_at (back_to_back front) (map suc l.way ++ (back_to_back back ++ rest_r)) a refl, e) (take_at (map suc l.way) (back_to_back back ++ rest_r) w (length-map l.way suc))
