-- Lines, fields, words and numbers of a text, as functions of its bytes.
use Rattle.std.specs.Prelude.{ℕ, ℤ, Option, Some, None, ◌+◌, ◌-◌, ◌*◌, List, [], ◌∷◌, Bool, true, false, not, cond, ◌&&◌, ◌||◌, length, get_or, take, drop, leb, eqb, pos, neg_ℤ}

-- a byte put in front of the first part
abbrev pub joined : ℕ → List (List ℕ) → List (List ℕ)
joined b [] = (b ∷ []) ∷ []
joined b (l ∷ ls) = (b ∷ l) ∷ ls

-- "A line ends at LF or the end of the text. After the last LF there is a further line only if bytes follow."
abbrev pub lines : List ℕ → List (List ℕ)
lines [] = []
lines (b ∷ bs) = cond (eqb b 10) ([] ∷ lines bs) (joined b (lines bs))

-- "one CR just before that end is dropped"
abbrev pub trim : List ℕ → List ℕ
trim l = cond (eqb (get_or l (length l - 1) 0) 13) (take (length l - 1) l) l

-- "spaces or tabs"
abbrev pub is_blank : ℕ → Bool
is_blank b = eqb b 32 || eqb b 9

-- whether a field goes on
abbrev pub goes_on : List ℕ → Bool
goes_on [] = false
goes_on (b ∷ bs) = not (is_blank b)

-- "Fields are separated by one or more spaces or tabs; blanks may also lead or trail."
abbrev pub fields : List ℕ → List (List ℕ)
fields [] = []
fields (b ∷ bs) = cond (is_blank b) (fields bs) (cond (goes_on bs) (joined b (fields bs)) ((b ∷ []) ∷ fields bs))

-- the next field, empty where none is left
abbrev pub first : List (List ℕ) → List ℕ
first [] = []
first (f ∷ fs) = f

-- the fields after it
abbrev pub others : List (List ℕ) → List (List ℕ)
others [] = []
others (f ∷ fs) = fs

-- whether no field is left
abbrev pub none : List (List ℕ) → Bool
none [] = true
none (f ∷ fs) = false

-- "compared byte by byte"
abbrev pub same : List ℕ → List ℕ → Bool
same [] [] = true
same [] (y ∷ ys) = false
same (x ∷ xs) [] = false
same (x ∷ xs) (y ∷ ys) = eqb x y && same xs ys

-- "decimal digits"
abbrev pub is_digit : ℕ → Bool
is_digit b = leb 48 b && leb b 57

-- the value of digits that follow the value a
abbrev pub digits : ℕ → List ℕ → Option ℕ
digits a [] = Some a
digits a (b ∷ bs) = cond (is_digit b) (digits (a * 10 + (b - 48)) bs) None

-- "A number is 1 to 9 decimal digits; leading zeros are allowed."
abbrev pub number : List ℕ → Option ℕ
number f = cond (leb 1 (length f) && leb (length f) 9) (digits 0 f) None

-- a number without a sign
abbrev pub plus : Option ℕ → Option ℤ
plus (Some v) = Some (pos v)
plus None = None

-- a number behind a minus sign; -0 is 0
abbrev pub minus : Option ℕ → Option ℤ
minus (Some v) = Some (neg_ℤ (pos v))
minus None = None

-- "X and Y may have one minus sign before the digits, and -0 is 0."
abbrev pub signed : List ℕ → Option ℤ
signed f = cond (eqb (get_or f 0 0) 45) (minus (number (drop 1 f))) (plus (number f))
