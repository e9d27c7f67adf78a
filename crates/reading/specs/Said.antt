-- What the line of a text at a position says, and where the next line starts.
use Rattle.std.specs.Prelude.{ℕ, ◌+◌, List, cond, length, drop, ltb}
use Rattle.meaning.specs.declared.Kind.{Kind}
use Rattle.meaning.specs.declared.Line.TheVariants.{Nothing}
use Rattle.text.specs.Scan.{run, in_line}
use Rattle.grammar.specs.Plain.{first_says}
use Rattle.reading.specs.declared.Said.{Said}

-- past the end nothing is said
abbrev pub said_at : Kind → ℕ → List ℕ → ℕ → Said
said_at kind given text at =
    cond (ltb at (length text))
    (record { line = first_says kind given (drop at text); next = at + run in_line (drop at text) + 1 })
    (record { line = Nothing; next = at })
