-- What a line of each of the three texts says, by its fields.
use Rattle.std.specs.Prelude.{ℕ, ℤ, Option, Some, None, List, [], ◌∷◌, cond, ◌&&◌, ◌||◌}
use Rattle.meaning.specs.Text.{first, others, none, same, number, signed}
use Rattle.meaning.specs.declared.Kind.{Kind}
use Rattle.meaning.specs.declared.Kind.TheVariants.{Graph, Coordinates, Sites}
use Rattle.meaning.specs.declared.Entry.TheVariants.{Arc, Point, Site}
use Rattle.meaning.specs.declared.Line.{Line}
use Rattle.meaning.specs.declared.Line.TheVariants.{Nothing, Problem, Data, Malformed}

-- "The words p, sp, aux, co, ss, a, v, s and c", as bytes: p
abbrev pub word_p : List ℕ
word_p = 112 ∷ []

-- sp
abbrev pub word_sp : List ℕ
word_sp = 115 ∷ 112 ∷ []

-- aux
abbrev pub word_aux : List ℕ
word_aux = 97 ∷ 117 ∷ 120 ∷ []

-- co
abbrev pub word_co : List ℕ
word_co = 99 ∷ 111 ∷ []

-- ss
abbrev pub word_ss : List ℕ
word_ss = 115 ∷ 115 ∷ []

-- a
abbrev pub word_a : List ℕ
word_a = 97 ∷ []

-- v
abbrev pub word_v : List ℕ
word_v = 118 ∷ []

-- s
abbrev pub word_s : List ℕ
word_s = 115 ∷ []

-- c
abbrev pub word_c : List ℕ
word_c = 99 ∷ []

-- a last field that is a number
abbrev pub last_number : List (List ℕ) → Option ℕ
last_number fs = cond (none (others fs)) (number (first fs)) None

-- a last field that is a coordinate
abbrev pub last_signed : List (List ℕ) → Option ℤ
last_signed fs = cond (none (others fs)) (signed (first fs)) None

-- aux, sp and a third word, then one number and no more
abbrev pub aux_count : List ℕ → List (List ℕ) → Option ℕ
aux_count third fs =
    cond (same (first fs) word_aux && (same (first (others fs)) word_sp && same (first (others (others fs))) third))
    (last_number (others (others (others fs))))
    None

-- N and M
abbrev pub graph_counts : Option ℕ → Option ℕ → Line
graph_counts (Some n) (Some m) = Problem (record { nodes = n; rows = m })
graph_counts (Some n) None = Malformed
graph_counts None m = Malformed

-- N, which is the number of data lines too
abbrev pub point_counts : Option ℕ → Line
point_counts (Some n) = Problem (record { nodes = n; rows = n })
point_counts None = Malformed

-- S, beside the N handed in
abbrev pub site_counts : ℕ → Option ℕ → Line
site_counts given (Some s) = Problem (record { nodes = given; rows = s })
site_counts given None = Malformed

-- after p: "sp N M", "aux sp co N", "aux sp ss S"
abbrev pub problem_of : Kind → ℕ → List (List ℕ) → Line
problem_of Graph given fs = cond (same (first fs) word_sp) (graph_counts (number (first (others fs))) (last_number (others (others fs)))) Malformed
problem_of Coordinates given fs = point_counts (aux_count word_co fs)
problem_of Sites given fs = site_counts given (aux_count word_ss fs)

-- U V W, all of them numbers
abbrev pub arc_data : Option ℕ → Option ℕ → Option ℕ → Line
arc_data (Some u) (Some v) (Some w) = Data (Arc u v w)
arc_data (Some u) (Some v) None = Malformed
arc_data (Some u) None w = Malformed
arc_data None v w = Malformed

-- ID X Y: a number and two coordinates
abbrev pub point_data : Option ℕ → Option ℤ → Option ℤ → Line
point_data (Some v) (Some x) (Some y) = Data (Point v x y)
point_data (Some v) (Some x) None = Malformed
point_data (Some v) None y = Malformed
point_data None x y = Malformed

-- ID, a number
abbrev pub site_data : Option ℕ → Line
site_data (Some v) = Data (Site v)
site_data None = Malformed

-- "a U V W", "v ID X Y", "s ID": the first field, and those after it
abbrev pub data_of : Kind → List ℕ → List (List ℕ) → Line
data_of Graph word fs =
    cond (same word word_a) (arc_data (number (first fs)) (number (first (others fs))) (last_number (others (others fs)))) Malformed
data_of Coordinates word fs =
    cond (same word word_v) (point_data (number (first fs)) (signed (first (others fs))) (last_signed (others (others fs)))) Malformed
data_of Sites word fs = cond (same word word_s) (site_data (last_number fs)) Malformed

-- "A line without a field says nothing. A line whose first field is exactly c is a comment."
abbrev pub line_of : Kind → ℕ → List (List ℕ) → Line
line_of kind given fs =
    cond (none fs || same (first fs) word_c) Nothing
    (cond (same (first fs) word_p) (problem_of kind given (others fs)) (data_of kind (first fs) (others fs)))
