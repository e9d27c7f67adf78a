-- How the code walks over bytes: by the length of the run at the front that passes a test.
use Rattle.std.specs.Prelude.{ℕ, List, Bool, not, eqb}
use Rattle.std.specs.List.{prefix_len}
use Rattle.meaning.specs.Text.{is_blank}

-- the number of bytes before the first that fails the test
abbrev pub run : (ℕ → Bool) → List ℕ → ℕ
run test bs = prefix_len test bs

-- the bytes of a line, and those of a field
abbrev pub in_line : ℕ → Bool
in_line b = not (eqb b 10)

abbrev pub is_ink : ℕ → Bool
is_ink b = not (is_blank b)
