-- "After an accepted reading the first entries hold the data .. and later entries are unchanged", for arcs and sites.
use Prim.Native.Nat.{ℕ, ◌+◌, ◌-◌, min, ◌≤◌, ◌<◌}
use mathlib.Core.Path.{◌≡◌, sym, ◌∙◌, ap}
use mathlib.Core.List.{List, map}
use lib.ListN.{length, drop, get_or, length-map, length-append, length-drop, get_or-append, get_or-map}
use lib.Seq.{get_or-append-add, get_or-drop}
use native.Mathlib.Omega.{arith}
use Rattle.std.specs.Prelude.{Ok}
use Rattle.meaning.specs.Text.{lines}
use Rattle.meaning.specs.Files.{Reading, refused, read, reading, answered, in_front, node_of, head_of, weight_of, graph_rules, site_rules, graph_reading, site_reading, GraphRead, SitesRead}
use Rattle.meaning.specs.declared.Limits.{Limits}
use Rattle.meaning.specs.declared.Kind.TheVariants.{Graph, Sites}
use Rattle.meaning.specs.declared.Rules.{Rules}
use Rattle.meaning.specs.declared.Counts.{Counts}
use Rattle.meaning.specs.declared.Entry.{Entry}
use Rattle.meaning.proofs.Reading.{entries_of, accepted}

-- a table at exit: one value of each of the m entries in front, in order, and the rest as it was
pub record InOrder {A : Type 0} (value : Entry → A) (m : ℕ) (es : List Entry) (xs xs' : List A) : Type 0 where
  pub held : (i : ℕ) (e : Entry) → i < m → get_or xs' i (value e) ≡ value (get_or es i e)
  pub later : (i : ℕ) (d : A) → m ≤ i → get_or xs' i d ≡ get_or xs i d
  pub size : length xs' ≡ length xs

module _ {A : Type 0} (value : Entry → A) (c : Counts) (es : List Entry) (xs : List A) where
  front_held : (i : ℕ) (e : Entry) → i < length es → get_or (in_front value (read c es) xs) i (value e) ≡ value (get_or es i e)
  front_held i e l =
      let n = length-map es value in
      get_or-append (map value es) (drop (length es) xs) (value e) i (omega arith) ∙ get_or-map value es i e

  front_later : (i : ℕ) (d : A) → length es ≤ i → get_or (in_front value (read c es) xs) i d ≡ get_or xs i d
  front_later i d l =
      let n = length-map es value in
      let j : i ≡ length (map value es) + (i - length es) = omega arith in
      let k : length es + (i - length es) ≡ i = omega arith in
      ap (λ (x : ℕ). get_or (in_front value (read c es) xs) x d) j
      ∙ get_or-append-add (map value es) (drop (length es) xs) (i - length es) d
      ∙ get_or-drop (length es) xs (i - length es) d
      ∙ ap (λ (x : ℕ). get_or xs x d) k

  front_size : length es ≤ length xs → length (in_front value (read c es) xs) ≡ length xs
  front_size h = omega (arith, length-append (map value es) (drop (length es) xs), length-map es value, length-drop (length es) xs)

-- the data of an accepted text, in a table that has the room that the reading was told of
pub in_order_lem : {A : Type 0} (value : Entry → A) (R : Rules) (text : List ℕ) (c : Counts) (es : List Entry) (xs : List A) → reading R text ≡ read c es → R.room ≤ length xs
    → InOrder value c.rows (entries_of R.kind R.given (lines text)) xs (in_front value (reading R text) xs)
in_order_lem value R text c es xs h l =
    let a = accepted R text c es h in
    let full : length es ≡ c.rows = a.full in
    let room : c.rows ≤ R.room = a.room in
    let fits : length es ≤ length xs = omega arith in
    rw (h, ← a.entries) record {
      held = λ i e m. front_held value c es xs i e (omega arith);
      later = λ i d m. front_later value c es xs i d (omega arith);
      size = front_size value c es xs fits;
    }

-- ---- what an accepted answer of a reader says of its tables

pub record WasRead (r : Reading) (c : Counts) : Type 0 where
  pub entries : List Entry
  pub was : r ≡ read c entries

pub was_read : (r : Reading) (c : Counts) → Ok c ≡ answered r → WasRead r c
was_read (refused fault place) c h = let z : ◌≡◌ {A = ℕ} 0 1 = cc in absurd (omega arith)
was_read (read d es) c h = let e : c ≡ d = cc in record { entries = es; was = ap (λ (x : Counts). read x es) (sym e) }

pub record GraphHeld (text t h w t' h' w' : List ℕ) (m : ℕ) : Type 0 where
  pub tails : InOrder node_of m (entries_of Graph 0 (lines text)) t t'
  pub heads : InOrder head_of m (entries_of Graph 0 (lines text)) h h'
  pub weights : InOrder weight_of m (entries_of Graph 0 (lines text)) w w'

pub graph_accepted : {L : Limits} {text t h w t' h' w' : List ℕ} {c : Counts} → GraphRead L text t h w t' h' w' (Ok c) → GraphHeld text t h w t' h' w' c.rows
graph_accepted {L} {text} {t} {h} {w} {c = c} g =
    let k = was_read (graph_reading L text t h w) c g.answer_is in
    let R : Rules = graph_rules L (min (length t) (min (length h) (length w))) in
    rw (g.tails_are, g.heads_are, g.weights_are) record {
      tails = in_order_lem node_of R text c k.entries t k.was (omega arith);
      heads = in_order_lem head_of R text c k.entries h k.was (omega arith);
      weights = in_order_lem weight_of R text c k.entries w k.was (omega arith);
    }

pub sites_accepted : {L : Limits} {text : List ℕ} {n : ℕ} {s s' : List ℕ} {c : Counts} → SitesRead L text n s s' (Ok c)
    → InOrder node_of c.rows (entries_of Sites n (lines text)) s s'
sites_accepted {L} {text} {n} {s} {c = c} g =
    let k = was_read (site_reading L text n s) c g.answer_is in
    rw g.sites_are (in_order_lem node_of (site_rules L n (length s)) text c k.entries s k.was (omega arith))
