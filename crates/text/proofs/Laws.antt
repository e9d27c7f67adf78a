-- Laws of lines, fields and numbers, in the steps in which the code walks over the bytes.
use Rattle.std.proofs.Common.{◌≡◌, ℕ, suc, ◌+◌, ◌-◌, ◌≤◌, ◌<◌, Bool, true, false, cond, ltb, eqb, List, [], ◌∷◌, length, get_or, take, drop, refl, ap, sym, ◌∙◌, arith, length-drop, ne_eqb, le-leb, one-add}
use lib.Seq.{drop-drop, take_all}
use borrow.Author.Tests.{lt-ltb}
use Rattle.std.specs.List.{list_all}
use Rattle.std.proofs.lemmas.List.Sums.{prefix_len-le-length}
use Rattle.meaning.specs.Text.{trim, number, lines, joined, fields, is_blank, first, others, none, digits}
use Rattle.text.specs.Scan.{run, is_ink, in_line}

-- a part from a start to the end
pub tail_all : (xs : List ℕ) (a : ℕ) → take (length xs - a) (drop a xs) ≡ drop a xs
tail_all xs a = take_all (length xs - a) (drop a xs) (omega (arith, length-drop a xs))

-- the first line of a text that has one, and the rest
abbrev pub cut : List ℕ → List (List ℕ)
cut xs = take (run in_line xs) xs ∷ lines (drop (suc (run in_line xs)) xs)

line_by : (b : ℕ) (bs : List ℕ) (t : Bool) → eqb b 10 ≡ t
    → (lines bs ≡ cond (ltb 0 (length bs)) (cut bs) []) → lines (b ∷ bs) ≡ cut (b ∷ bs)
line_by b bs true e h = rw e
line_by b [] false e h = rw e
line_by b (c ∷ cs) false e h =
    let g : lines (c ∷ cs) ≡ cut (c ∷ cs) = rw (lt-ltb 0 (suc (length cs)) (omega arith)) at h in
    rw (e, one-add (run in_line (c ∷ cs))) (ap (joined b) g)

pub lines_all : (xs : List ℕ) → lines xs ≡ cond (ltb 0 (length xs)) (cut xs) []
lines_all [] = refl
lines_all (b ∷ bs) = rw (lt-ltb 0 (suc (length bs)) (omega arith)) (line_by b bs (eqb b 10) refl (lines_all bs))

pub lines_cut : (xs : List ℕ) → 0 < length xs → lines xs ≡ cut xs
lines_cut xs h = rw (lt-ltb 0 (length xs) h) at (lines_all xs)

-- the line that starts at a position of a text lies inside it
pub line_inside : (text : List ℕ) (at : ℕ) → at < length text → at + run in_line (drop at text) ≤ length text
line_inside text at h = omega (arith, prefix_len-le-length in_line (drop at text), length-drop at text)

-- and it is the first of the lines from there on
pub lines_at : (text : List ℕ) (at : ℕ) → at < length text
    → lines (drop at text)
    ≡ take (run in_line (drop at text)) (drop at text)
    ∷ lines (drop (at + run in_line (drop at text) + 1) text)
lines_at text at h =
    let len : ℕ = run in_line (drop at text) in
    let same_place : at + suc len ≡ at + len + 1 = omega arith in
    let rest : drop (suc len) (drop at text) ≡ drop (at + len + 1) text
    = drop-drop (suc len) at text ∙ ap (λ (k : ℕ). drop k text) same_place in
    lines_cut (drop at text) (omega (arith, length-drop at text))
    ∙ ap (λ (r : List ℕ). take len (drop at text) ∷ lines r) rest

-- a line whose last byte is no CR
pub trim_other : (l : List ℕ) → (get_or l (length l - 1) 0 ≡ 13 → ⊥) → l ≡ trim l
trim_other l h = rw (ne_eqb (get_or l (length l - 1) 0) 13 h)

-- the first field of what starts with one, and the rest
abbrev pub part : List ℕ → List (List ℕ)
part xs = take (run is_ink xs) xs ∷ fields (drop (run is_ink xs) xs)

word_by : (b c : ℕ) (cs : List ℕ) (t : Bool) → is_blank b ≡ false → is_blank c ≡ t
    → (is_blank c ≡ false → fields (c ∷ cs) ≡ part (c ∷ cs))
    → fields (b ∷ c ∷ cs) ≡ part (b ∷ c ∷ cs)
word_by b c cs true e k h = simp (e, k)
word_by b c cs false e k h =
    let l : fields (b ∷ c ∷ cs) ≡ joined b (fields (c ∷ cs)) = simp (e, k) in
    let m : part (b ∷ c ∷ cs) ≡ joined b (part (c ∷ cs)) = simp (e, one-add) in
    l ∙ ap (joined b) (h k) ∙ sym m

pub fields_word : (b : ℕ) (bs : List ℕ) → is_blank b ≡ false → fields (b ∷ bs) ≡ part (b ∷ bs)
fields_word b [] e = rw e
fields_word b (c ∷ cs) e = word_by b c cs (is_blank c) e refl (fields_word c cs)

-- past the blanks
abbrev pub lead : List ℕ → List ℕ
lead xs = drop (run is_blank xs) xs

-- stands the next field, and behind it the others
pub record Parted (xs : List ℕ) : Type 0 where
  pub word : take (run is_ink (lead xs)) (lead xs) ≡ first (fields xs)
  pub after : fields (drop (run is_ink (lead xs)) (lead xs)) ≡ others (fields xs)

parted_by : (b : ℕ) (bs : List ℕ) (t : Bool) → is_blank b ≡ t → Parted bs → Parted (b ∷ bs)
parted_by b bs true e h = record { word = rw (e, one-add) h.word; after = rw (e, one-add) h.after }
parted_by b bs false e h =
    let l : lead (b ∷ bs) ≡ b ∷ bs = rw e in
    record {
      word = rw l (sym (ap first (fields_word b bs e)));
      after = rw l (sym (ap others (fields_word b bs e)));
    }

pub parted : (xs : List ℕ) → Parted xs
parted [] = record { word = refl; after = refl }
parted (b ∷ bs) = parted_by b bs (is_blank b) refl (parted bs)

none_by : (b : ℕ) (bs : List ℕ) (t : Bool) → is_blank b ≡ t → list_all is_blank bs ≡ none (fields bs)
    → list_all is_blank (b ∷ bs) ≡ none (fields (b ∷ bs))
none_by b bs true e h = rw e h
none_by b bs false e h =
    let l : list_all is_blank (b ∷ bs) ≡ false = rw e in
    l ∙ sym (ap none (fields_word b bs e))

-- no field is left where all bytes are blanks
pub blank_none : (xs : List ℕ) → list_all is_blank xs ≡ none (fields xs)
blank_none [] = refl
blank_none (b ∷ bs) = none_by b bs (is_blank b) refl (blank_none bs)

-- "A number is 1 to 9 decimal digits"
pub number_digits : (f : List ℕ) → 1 ≤ length f → length f ≤ 9 → number f ≡ digits 0 f
number_digits f l h = rw (le-leb 1 (length f) l, le-leb (length f) 9 h)
