-- What the code asks of the fields of a line, and the line that it makes of them.
use Rattle.std.specs.Prelude.{◌≡◌, Bool, ℕ, List, Option, Some, None}
use Rattle.meaning.specs.Text.{fields, first, others, none, same}
use Rattle.meaning.specs.declared.Counts.{Counts}
use Rattle.meaning.specs.declared.Entry.{Entry}
use Rattle.meaning.specs.declared.Line.{Line}
use Rattle.meaning.specs.declared.Line.TheVariants.{Problem, Data, Malformed}

-- whether the word w is the next field of the rest of a line
abbrev pub IsNext : List ℕ → List ℕ → Bool → Type 0
IsNext w rest answer = same (first (fields rest)) w ≡ answer

-- whether no field follows the next
abbrev pub IsLast : List ℕ → Bool → Type 0
IsLast rest answer = none (others (fields rest)) ≡ answer

-- the line that what was read of its fields stands for: where nothing was, it is of no permitted
-- form
abbrev pub problem_line : Option Counts → Line
problem_line (Some c) = Problem c
problem_line None = Malformed

abbrev pub data_line : Option Entry → Line
data_line (Some e) = Data e
data_line None = Malformed
