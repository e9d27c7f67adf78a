-- The line of a text that starts at a position.
use Rattle.std.specs.Prelude.{◌≡◌, ℕ, ◌+◌, List, cond, length, drop, ltb, Option, Some, None}
use Rattle.text.specs.Scan.{run, in_line}
use Rattle.text.specs.declared.Lines.{Lines}
use Rattle.text.specs.declared.Piece.{Piece}

-- where it starts, its length, and where the next starts
abbrev pub piece_at : List ℕ → ℕ → Option Piece
piece_at text at =
    cond (ltb at (length text))
    (Some (record {
      start = at;
      len = run in_line (drop at text);
      next = at + run in_line (drop at text) + 1;
    }))
    None

-- where the next line starts; at the end a reader stays where it stands
abbrev pub past_of : Option Piece → ℕ → ℕ
past_of (Some p) at = p.next
past_of None at = at

-- the reader on the same text, at another position
abbrev pub moved_to : Lines → ℕ → Lines
moved_to r at = record { text = r.text; at = at }

-- a reader gives the line at its position, and goes on past it
abbrev pub GivesLine : Lines → Option Piece → Lines → Type 0
GivesLine before piece after =
    (piece ≡ piece_at before.text.now before.at)
    × (after ≡ moved_to before (past_of piece before.at))
