-- What is known of a line that was read in one go. Where the code answers None nothing is said: the
-- line is then read field by field.
use Rattle.std.specs.Prelude.{◌≡◌, ℕ, ◌<◌, ℤ, Some}
use Rattle.std.specs.Prelude.{List, [], ◌∷◌, ◌++◌, length, take}
use Rattle.meaning.specs.Text.{trim, fields, number, signed}
use Rattle.meaning.specs.Grammar.{line_of}
use Rattle.meaning.specs.declared.Entry.{Entry}
use Rattle.meaning.specs.declared.Kind.{Kind}
use Rattle.meaning.specs.declared.Line.{Line}
use Rattle.meaning.specs.declared.Line.TheVariants.{Data}
use Rattle.text.specs.Scan.{run, in_line}

-- what the first line of the bytes says
abbrev pub first_says : Kind → ℕ → List ℕ → Line
first_says kind given text = line_of kind given (fields (trim (take (run in_line text) text)))

-- the first line of a text says e, whatever N is handed in, and behind its LF comes `rest`
pub record Says (kind : Kind) (text : List ℕ) (e : Entry) (rest : List ℕ) : Type 0 where
  pub line : (given : ℕ) → first_says kind given text ≡ Data e
  pub stands : text ≡ take (run in_line text) text ++ 10 ∷ rest

-- bytes that lie above a number: above 32 there is no blank, above 31 neither CR nor LF
abbrev pub Above : ℕ → List ℕ → Type 0
Above m [] = Unit
Above m (b ∷ bs) = (m < b) × Above m bs

-- the bytes f come first, then the byte `end`, then the rest
pub record Field (text f : List ℕ) (end : ℕ) (rest : List ℕ) : Type 0 where
  pub stands : text ≡ f ++ end ∷ rest
  pub some : 0 < length f
  pub inks : Above 32 f

-- such a field, and what is known of its bytes
pub record Read (text : List ℕ) (end : ℕ) (rest : List ℕ) (Known : List ℕ → Type 0) : Type 0 where
  pub field : List ℕ
  pub here : Field text field end rest
  pub known : Known field

abbrev pub NumberRead : List ℕ → ℕ → ℕ → List ℕ → Type 0
NumberRead text end value rest = Read text end rest (λ f. number f ≡ Some value)

abbrev pub SignedRead : List ℕ → ℕ → ℤ → List ℕ → Type 0
SignedRead text end value rest = Read text end rest (λ f. signed f ≡ Some value)

-- one to nine digits
pub record DigitsSaid (text : List ℕ) (end value : ℕ) (rest : List ℕ) : Type 0 where
  pub small : value < 1000000000
  pub said : NumberRead text end value rest
