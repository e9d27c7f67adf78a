-- What a search is lent: the tables of a region and the rooms for its answer; and the region that the tables describe.
use Rattle.std.specs.Prelude.{◌≡◌, Bool, ◌&&◌, List, ℕ, ◌-◌, ◌≤◌, ◌<◌, T, eqb, ℤ, pos, get_or}
use Rattle.meaning.specs.Scan.{any}
use Rattle.meaning.specs.declared.Tables.{Tables as LentTables}

-- the lent tables, with the counts N, M and S
pub record Tables : Type 0 where
  pub tails : List ℕ
  pub heads : List ℕ
  pub weights : List ℕ
  pub xs : List ℤ
  pub ys : List ℤ
  pub sites : List ℕ
  pub n : ℕ
  pub m : ℕ
  pub s : ℕ

-- "work"; "the lists of site numbers, lengths and route ends"; "routes"
pub record Rooms : Type 0 where
  pub work : List ℕ
  pub sites : List ℕ
  pub lengths : List ℕ
  pub ends : List ℕ
  pub routes : List ℕ

-- as a contract has them: the lent tables' entries and counts
abbrev pub tables : List ℕ → List ℕ → List ℕ → List ℤ → List ℤ → List ℕ → ℕ → ℕ → ℕ → Tables
tables tails heads weights xs ys sites n m s = record { tails = tails; heads = heads; weights = weights; xs = xs; ys = ys; sites = sites; n = n; m = m; s = s }

-- the entries and counts of the tables as the code is lent them
abbrev pub tables_of : LentTables → Tables
tables_of t = tables t.tails.now t.heads.now t.weights.now t.xs.now t.ys.now t.sites.now t.n t.m t.s

-- and the lent rooms' entries
abbrev pub rooms : List ℕ → List ℕ → List ℕ → List ℕ → List ℕ → Rooms
rooms work sites lengths ends routes = record { work = work; sites = sites; lengths = lengths; ends = ends; routes = routes }

-- A region: n nodes, m arcs, s sites. Nodes are 0 to n-1 in all that follows: a node's number in a table is one more.
pub record Region : Type 0 where
  pub n : ℕ
  pub m : ℕ
  pub s : ℕ
  pub tail : ℕ → ℕ
  pub head : ℕ → ℕ
  pub weight : ℕ → ℕ
  pub site : ℕ → ℕ

-- the region of the tables; entries past the counts are not looked at
abbrev pub region_of : Tables → Region
region_of t = record {
  n = t.n;
  m = t.m;
  s = t.s;
  tail = λ i. get_or t.tails i 0 - 1;
  head = λ i. get_or t.heads i 0 - 1;
  weight = λ i. get_or t.weights i 0;
  site = λ j. get_or t.sites j 0 - 1;
}

-- a node's X
abbrev pub x_at : Tables → ℕ → ℤ
x_at t v = get_or t.xs v (pos 0)

-- a node's Y
abbrev pub y_at : Tables → ℕ → ℤ
y_at t v = get_or t.ys v (pos 0)

-- "Arcs are one-way": whether arc i leads from u to v
abbrev pub joins : Region → ℕ → ℕ → ℕ → Bool
joins R u v i = eqb (R.tail i) u && eqb (R.head i) v

-- an arc leads from u to v and weighs w
pub record ArcOf (R : Region) (u v w : ℕ) : Type 0 where
  pub index : ℕ
  pub below : index < R.m
  pub ends : T (joins R u v index)
  pub weighs : R.weight index ≡ w

-- "the least weights among the parallel arcs"
pub record LeastArc (R : Region) (u v w : ℕ) : Type 0 where
  pub arc : ArcOf R u v w
  pub least : (x : ℕ) → ArcOf R u v x → w ≤ x

-- "Sites stand on nodes"
unfoldable pub is_site : Region → ℕ → Bool
is_site R v = any (λ j. eqb (R.site j) v) R.s
