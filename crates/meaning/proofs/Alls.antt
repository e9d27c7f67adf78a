-- What holds of all elements of a list.
use mathlib.Core.List.{List, [], ◌∷◌, ◌++◌}
use Rattle.meaning.specs.Lists.{All}

pub all_zip : {A : Type 0} (P Q : A → Type 0) (list : List A) → All P list → All Q list → All (λ l. P l × Q l) list
all_zip P Q [] p q = tt
all_zip P Q (l ∷ list) p q = ((p.0, q.0), all_zip P Q list p.1 q.1)

pub all_map : {A : Type 0} (P Q : A → Type 0) → ((l : A) → P l → Q l) → (list : List A) → All P list → All Q list
all_map P Q f [] p = tt
all_map P Q f (l ∷ list) p = (f l p.0, all_map P Q f list p.1)

pub all_more : {A : Type 0} (P : A → Type 0) (list : List A) (l : A) → All P list → P l → All P (list ++ l ∷ [])
all_more P [] l a p = (p, tt)
all_more P (x ∷ list) l a p = (a.0, all_more P list l a.1 p)
