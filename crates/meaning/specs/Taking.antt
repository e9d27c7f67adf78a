-- "The taking rule", as a step and a run that compute, over any estimate.
use Rattle.std.specs.Prelude.{Bool, true, false, not, cond, ◌||◌, ◌&&◌, List, [], ◌∷◌, ◌++◌, ℕ, zero, suc, ◌+◌, ◌-◌, ◌*◌, min, leb, ltb, eqb, length, get_or, set, replicate}
use Rattle.std.proofs.Math.Option.{Option, none, some}
use Rattle.meaning.specs.Scan.{any, first}
use Rattle.meaning.specs.Region.{Region, is_site}

-- A state of the search. best: for each node 0 where it has not been seen, and one more than its best length so far where it has,
-- for length 0 is the query node's. order: the taken nodes, the last one first.
pub record State : Type 0 where
  pub best : List ℕ
  pub order : List ℕ

-- a seen node's best length so far
abbrev pub len_at : List ℕ → ℕ → ℕ
len_at best v = get_or best v 0 - 1

-- whether v is one of the nodes
unfoldable pub memb : ℕ → List ℕ → Bool
memb v [] = false
memb v (x ∷ xs) = eqb x v || memb v xs

-- whether v has been taken
unfoldable pub taken : State → ℕ → Bool
taken s v = memb v s.order

-- seen, and not taken
unfoldable pub is_open : State → ℕ → Bool
is_open s v = ltb 0 (get_or s.best v 0) && not (taken s v)

-- the sites that the estimate aims at: "a site not yet taken"
unfoldable pub aimed : Region → State → ℕ → Bool
aimed R s v = is_site R v && not (taken s v)

-- the value at the index found, and 0 where none is
unfoldable pub least_at : (ℕ → ℕ) → Option ℕ → ℕ
least_at f none = 0
least_at f (some j) = f j

-- "the least straight line to a site not yet taken": the least measure from v to a site of the set
unfoldable pub to_sites : Region → (ℕ → ℕ → ℕ) → (ℕ → Bool) → ℕ → ℕ
to_sites R measure set v = least_at (λ j. measure v (R.site j)) (first (λ j. set (R.site j)) (λ j. measure v (R.site j)) R.s)

-- "An open node's total is its best length so far plus the least straight line": the one place where d_N and d_E meet
abbrev pub total : ℕ → ℕ → ℕ
total road line = road + line

-- 0 for a node that isn't a site, 1 for a site
abbrev pub bit : Bool → ℕ
bit true = 1
bit false = 0

-- "the least total; among equals, nodes that aren't sites go first": v, seen at d, under the estimate h
abbrev pub key : (ℕ → ℕ) → (ℕ → Bool) → ℕ → ℕ → ℕ
key h site v d = total d (h v) * 2 + bit (site v)

-- the taken sites, in the order in which they were taken
unfoldable pub sites_of : Region → List ℕ → List ℕ
sites_of R [] = []
sites_of R (v ∷ vs) = cond (is_site R v) (sites_of R vs ++ v ∷ []) (sites_of R vs)

-- the shorter of two lengths: one that has been seen gives way only to a shorter one
unfoldable pub lower : ℕ → ℕ → ℕ
lower zero x = x
lower (suc y) x = min (suc y) x

-- "the heads of its arcs that haven't been taken": arc i is one of the node u; `tk` tells the taken nodes
unfoldable pub looks : Region → (ℕ → Bool) → ℕ → ℕ → Bool
looks R tk u i = eqb (R.tail i) u && not (tk (R.head i))

-- "open, or shorten": arc i is followed from u, taken at length d
unfoldable pub relax : Region → (ℕ → Bool) → ℕ → ℕ → ℕ → List ℕ → List ℕ
relax R tk u d i best = cond (looks R tk u i) (set best (R.head i) (lower (get_or best (R.head i) 0) (suc (d + R.weight i)))) best

-- the lengths after the first i arcs, where u is taken at length d
unfoldable pub relax_to : Region → (ℕ → Bool) → List ℕ → ℕ → ℕ → ℕ → List ℕ
relax_to R tk best u d zero = best
relax_to R tk best u d (suc i) = relax R tk u d i (relax_to R tk best u d i)

-- u marked as taken
abbrev pub mark : State → ℕ → State
mark s u = record { best = s.best; order = u ∷ s.order }

-- u taken, and the arcs out of it followed
unfoldable pub take1 : Region → State → ℕ → State
take1 R s u = record { best = relax_to R (taken (mark s u)) s.best u (len_at s.best u) R.m; order = u ∷ s.order }

-- a step: stopped, or none is open, or the chosen node is taken
unfoldable pub take_at : Region → State → Bool → Option ℕ → State
take_at R s true o = s
take_at R s false none = s
take_at R s false (some u) = take1 R s u

-- "The search starts with the query node open at length 0."
unfoldable pub start : Region → ℕ → State
start R q = record { best = set (replicate R.n 0) q 1; order = [] }

-- "stop if k sites have been taken, no site is untaken": the third, that no node is open, is that none can be chosen
unfoldable pub full : Region → ℕ → State → Bool
full R k s = leb k (length (sites_of R s.order)) || not (any (aimed R s) R.n)

module _ (R : Region) (est : (ℕ → Bool) → ℕ → ℕ) where
  -- "totals follow the present set of such sites"
  abbrev pub key_in : State → ℕ → ℕ
  key_in s v = key (est (aimed R s)) (is_site R) v (len_at s.best v)

  -- "take the open node with the least total; .. then the lower number"
  unfoldable pub choose : State → Option ℕ
  choose s = first (is_open s) (key_in s) R.n

  -- one step; a search that has stopped stays as it is
  unfoldable pub next : ℕ → State → State
  next k s = take_at R s (full R k s) (choose s)

  -- after i steps
  unfoldable pub after : ℕ → ℕ → ℕ → State
  after k q zero = start R q
  after k q (suc i) = next k (after k q i)

  -- where it stops: it takes no node twice, so n steps are enough
  unfoldable pub final : ℕ → ℕ → State
  final k q = after k q R.n

  -- "The taken count is the number of nodes taken, sites included."
  unfoldable pub taken_count : ℕ → ℕ → ℕ
  taken_count k q = length (final k q).order
