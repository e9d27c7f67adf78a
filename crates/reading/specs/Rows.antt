-- The entries of a text as rows, kept until the last line has been judged.
use Rattle.std.specs.Prelude.{◌≤◌, List, map, ◌≡◌, length, take}
use Rattle.meaning.specs.Limits.{base}
use Rattle.meaning.specs.Files.{Reading, refused, read, most_rows}
use Rattle.meaning.specs.declared.Entry.{Entry}
use Rattle.meaning.specs.declared.Kind.{Kind}

-- enough for any text of that kind
abbrev pub Wide : {A : Type 0} → Kind → List A → Type 0
Wide kind rows = most_rows base kind ≤ length rows

-- the entries stand in front of the rows, in order
abbrev pub Rows : {A : Type 0} → (Entry → A) → List Entry → List A → Type 0
Rows row_of es rows = take (length es) rows ≡ map row_of es

-- the entries of what was read
abbrev pub RowsRead : {A : Type 0} → (Entry → A) → Reading → List A → Type 0
RowsRead row_of (refused fault place) rows = Unit {0}
RowsRead row_of (read counts es) rows = Rows row_of es rows
