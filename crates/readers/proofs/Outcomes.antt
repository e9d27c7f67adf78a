-- The outcome of each reader, from the answer to its text, the rows kept of it, and what the rows stored.
use Prim.Native.Nat.{ℕ, min, ◌-◌, ◌≤◌, ◌<◌}
use mathlib.Core.Path.{◌≡◌, refl, ap, sym, ◌∙◌, subst}
use mathlib.Core.List.{List, map}
use lib.IntN.{ℤ}
use lib.ListN.{length, get_or, take, length-take, length-map}
use native.Mathlib.Omega.{arith}
use Rattle.std.specs.Prelude.{Result, Ok}
use Rattle.meaning.specs.Limits.{base, fine}
use Rattle.meaning.specs.Text.{lines}
use Rattle.meaning.specs.Files.{entry_fault, Reading, read, reading, answered, in_front, by_node, node_of, head_of, weight_of, x_of, y_of, graph_rules, coordinate_rules, site_rules, GraphRead, CoordinatesRead, SitesRead}
use Rattle.meaning.specs.declared.Kind.TheVariants.{Graph, Coordinates, Sites}
use Rattle.meaning.specs.declared.Rules.{Rules}
use Rattle.meaning.specs.declared.Counts.{Counts}
use Rattle.meaning.specs.declared.Refusal.{Refusal}
use Rattle.meaning.specs.declared.Entry.{Entry}
use Rattle.meaning.specs.declared.Entry.TheVariants.{Arc, Point, Site}
use Rattle.meaning.proofs.Reading as Known
use Rattle.meaning.proofs.Alls.{all_zip, all_map}
use Rattle.meaning.proofs.Reading.{IsOf, NodeFine, accepted, front_sets, node_fine}
use Rattle.meaning.proofs.Accepted.{was_read}
use Rattle.reading.specs.Rows.{RowsRead}
use Rattle.readers.specs.declared.ArcRow.{ArcRow}
use Rattle.readers.specs.declared.PointRow.{PointRow}
use Rattle.readers.specs.declared.SiteRow.{SiteRow}
use Rattle.readers.specs.Writing.{arc_row, point_row, site_row, stored, in_order, at_node, tail_in, head_in, weight_in, x_in, y_in, site_in, ArcRows, PointRows}
use Rattle.readers.proofs.Rows.{none, all_at, row_is, stored_front, stored_by_node}

-- ---- an accepted text of any kind, and as many of the rows as it has entries

pub record Taken {B : Type 0} (row_of : Entry → B) (R : Rules) (text : List ℕ) (c : Counts) (rows : List B) : Type 0 where
  pub entries : List Entry
  pub was : reading R text ≡ read c entries
  pub known : Known.Accepted R (lines text) c entries
  pub rows_are : take c.rows rows ≡ map row_of entries

pub taken : {B : Type 0} (row_of : Entry → B) (R : Rules) (text : List ℕ) (rows : List B) (answer : Result Counts Refusal) (c : Counts) → RowsRead row_of (reading R text) rows
    → answer ≡ answered (reading R text) → answer ≡ Ok c → Taken row_of R text c rows
taken row_of R text rows answer c kept is e =
    let told = was_read (reading R text) c (sym e ∙ is) in
    let known = accepted R text c told.entries told.was in
    record {
      entries = told.entries;
      was = told.was;
      known = known;
      rows_are = rw known.full at (subst (λ (r : Reading). RowsRead row_of r rows) told.was kept);
    }

module _ {B : Type 0} {row_of : Entry → B} {R : Rules} {text : List ℕ} {c : Counts} {rows : List B} (k : Taken row_of R text c rows) where
  pub counted : length (take c.rows rows) ≡ c.rows
  counted = ap length k.rows_are ∙ length-map k.entries row_of ∙ k.known.full

  pub enough : c.rows ≤ length rows
  enough = omega (arith, counted, length-take c.rows rows)

  pub in_room : length (take c.rows rows) ≤ R.room
  in_room = omega (arith, counted, k.known.room)

  -- row i; past the end that of a site 0
  abbrev row_at : ℕ → B
  row_at i = get_or (take c.rows rows) i (row_of none)

  each_row : (P : B → Type 0) → ((e : Entry) → entry_fault R.limits c.nodes e ≡ fine → IsOf R.kind e → P (row_of e)) → (i : ℕ) → i < length (take c.rows rows) → P (row_at i)
  each_row P f i l =
      rw (k.rows_are, row_is row_of k.entries i)
      (all_at (λ e. P (row_of e)) k.entries
      (all_map (λ e. (entry_fault R.limits c.nodes e ≡ fine) × IsOf R.kind e) (λ e. P (row_of e)) (λ e p. f e p.0 p.1) k.entries
      (all_zip (λ e. entry_fault R.limits c.nodes e ≡ fine) (IsOf R.kind) k.entries k.known.fine k.known.of_kind)) i (omega (arith, counted, k.known.full)))

  values : {A : Type 0} (f : B → A) (value : Entry → A) → ((e : Entry) → IsOf R.kind e → f (row_of e) ≡ value e)
      → (i : ℕ) → i < length k.entries → f (get_or (map row_of k.entries) i (row_of none)) ≡ value (get_or k.entries i none)
  values f value same i l =
      ap f (row_is row_of k.entries i) ∙ all_at (λ e. f (row_of e) ≡ value e) k.entries (all_map (IsOf R.kind) (λ e. f (row_of e) ≡ value e) same k.entries k.known.of_kind) i l

  module _ {A : Type 0} (f : B → A) (value : Entry → A) (same : (e : Entry) → IsOf R.kind e → f (row_of e) ≡ value e) (xs : List A) where
    front_written : R.room ≤ length xs → stored in_order (λ i. f (row_at i)) (length (take c.rows rows)) xs ≡ in_front value (reading R text) xs
    front_written h =
        rw (k.rows_are, length-map k.entries row_of, k.was)
        (stored_front value k.entries (λ i. f (get_or (map row_of k.entries) i (row_of none))) (values f value same) xs
        ∙ sym (front_sets value c k.entries xs (omega (arith, k.known.full, k.known.room))))

    node_written : (node : B → ℕ) → ((e : Entry) → IsOf R.kind e → node (row_of e) ≡ node_of e)
        → stored (λ i. node (row_at i) - 1) (λ i. f (row_at i)) (length (take c.rows rows)) xs ≡ by_node value (reading R text) xs
    node_written node at =
        rw (k.rows_are, length-map k.entries row_of, k.was)
        (stored_by_node value k.entries (λ i. f (get_or (map row_of k.entries) i (row_of none))) (values f value same) xs
        (λ i. node (get_or (map row_of k.entries) i (row_of none)) - 1) (λ i l. ap (λ (n : ℕ). n - 1) (values node node_of at i l)))

-- ---- a graph text

record ArcIs (e : Entry) : Type 0 where
  pub tail_is : (arc_row e).tail ≡ node_of e
  pub head_is : (arc_row e).head ≡ head_of e
  pub weight_is : (arc_row e).weight ≡ weight_of e

arc_is : (e : Entry) → IsOf Graph e → ArcIs e
arc_is (Arc u v w) o = record { tail_is = refl; head_is = refl; weight_is = refl }
arc_is (Point v x y) o = absurd o
arc_is (Site v) o = absurd o

module _ {text t h w : List ℕ} {c : Counts} {rows : List ArcRow} (k : Taken arc_row (graph_rules base (min (length t) (min (length h) (length w)))) text c rows) where
  pub arcs_fit : ArcRows (take c.rows rows) t h w
  arcs_fit = record { in_tails = omega (arith, in_room k); in_heads = omega (arith, in_room k); in_weights = omega (arith, in_room k) }

  pub graph_written : (t' h' w' : List ℕ) → t' ≡ stored in_order (tail_in (take c.rows rows)) (length (take c.rows rows)) t
      → h' ≡ stored in_order (head_in (take c.rows rows)) (length (take c.rows rows)) h
      → w' ≡ stored in_order (weight_in (take c.rows rows)) (length (take c.rows rows)) w
      → GraphRead base text t h w t' h' w' (Ok c)
  graph_written t' h' w' a b d = record {
    answer_is = rw k.was refl;
    tails_are = a ∙ front_written k (λ r. r.tail) node_of (λ e o. (arc_is e o).tail_is) t (omega arith);
    heads_are = b ∙ front_written k (λ r. r.head) head_of (λ e o. (arc_is e o).head_is) h (omega arith);
    weights_are = d ∙ front_written k (λ r. r.weight) weight_of (λ e o. (arc_is e o).weight_is) w (omega arith);
  }

-- ---- a coordinate text

record PointIs (e : Entry) : Type 0 where
  pub node_is : (point_row e).node ≡ node_of e
  pub x_is : (point_row e).x ≡ x_of e
  pub y_is : (point_row e).y ≡ y_of e

point_is : (e : Entry) → IsOf Coordinates e → PointIs e
point_is (Arc u v w) o = absurd o
point_is (Point v x y) o = record { node_is = refl; x_is = refl; y_is = refl }
point_is (Site v) o = absurd o

module _ {text : List ℕ} {given : ℕ} {x y : List ℤ} {c : Counts} {rows : List PointRow} (k : Taken point_row (coordinate_rules base given (min (length x) (length y))) text c rows) where
  pub points_fit : PointRows (take c.rows rows) x y
  points_fit = record { in_xs = each_row k (λ r. NodeFine (length x) r.node) (in_table (length x) (omega arith)); in_ys = each_row k (λ r. NodeFine (length y) r.node) (in_table (length y) (omega arith)) }
    where
      in_table : (size : ℕ) → min (length x) (length y) ≤ size → (e : Entry) → entry_fault base c.nodes e ≡ fine → IsOf Coordinates e → NodeFine size (point_row e).node
      in_table size l e z o =
          let f = node_fine base c.nodes e z in
          rw (point_is e o).node_is (record { low = f.low; high = omega (arith, f.high, k.known.rows, k.known.room) })

  pub points_written : (x' y' : List ℤ) → x' ≡ stored (at_node (take c.rows rows)) (x_in (take c.rows rows)) (length (take c.rows rows)) x
      → y' ≡ stored (at_node (take c.rows rows)) (y_in (take c.rows rows)) (length (take c.rows rows)) y
      → CoordinatesRead base text given x y x' y' (Ok c)
  points_written x' y' a b = record {
    answer_is = rw k.was refl;
    xs_are = a ∙ node_written k (λ r. r.x) x_of (λ e o. (point_is e o).x_is) x (λ r. r.node) (λ e o. (point_is e o).node_is);
    ys_are = b ∙ node_written k (λ r. r.y) y_of (λ e o. (point_is e o).y_is) y (λ r. r.node) (λ e o. (point_is e o).node_is);
  }

-- ---- a site text

site_is : (e : Entry) → IsOf Sites e → (site_row e).node ≡ node_of e
site_is (Arc u v w) o = absurd o
site_is (Point v x y) o = absurd o
site_is (Site v) o = refl

module _ {text : List ℕ} {given : ℕ} {s : List ℕ} {c : Counts} {rows : List SiteRow} (k : Taken site_row (site_rules base given (length s)) text c rows) where
  pub sites_written : (s' : List ℕ) → s' ≡ stored in_order (site_in (take c.rows rows)) (length (take c.rows rows)) s → SitesRead base text given s s' (Ok c)
  sites_written s' a = record { answer_is = rw k.was refl; sites_are = a ∙ front_written k (λ r. r.node) node_of site_is s (omega arith) }
