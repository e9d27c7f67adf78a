-- "coordinates by node number": where a coordinate text is accepted, each of its N nodes has the values of its one line.
use Prim.Native.Nat.{ℕ, suc, ◌-◌, min, ◌≤◌}
use mathlib.Core.Path.{◌≡◌, refl, sym, ◌∙◌, ap}
use mathlib.Core.List.Memᴰ
use mathlib.Core.List.{List, [], ◌∷◌, Memᴰ}
use mathlib.Core.Logic.{◌⊎◌, inl, inr}
use mathlib.Core.Bool.{Bool, true, false, false≢true, ◌||◌}
use lib.ListN.{length, set, get_or, length-set}
use lib.Seq.{get_or-set_same, get_or-set_other}
use lib.Dec.{eqb}
use lib.IntN.{ℤ}
use native.Mathlib.Omega.{arith}
use borrow.Author.Tests.{eqb-true, eqb-false, eq-eqb, ne_eqb}
use Rattle.std.specs.Prelude.{Ok}
use Rattle.meaning.specs.Text.{lines}
use Rattle.meaning.specs.Files.{node_of, is_given, read, put_all, by_node, x_of, y_of, coordinate_rules, coordinate_reading, CoordinatesRead}
use Rattle.meaning.specs.declared.Limits.{Limits}
use Rattle.meaning.specs.declared.Kind.TheVariants.{Coordinates}
use Rattle.meaning.specs.declared.Counts.{Counts}
use Rattle.meaning.specs.declared.Entry.{Entry}
use Rattle.meaning.specs.declared.Entry.TheVariants.{Arc, Point, Site}
use Rattle.meaning.proofs.Tests.{neither}
use Rattle.meaning.proofs.Reading.{AllFine, IsOf, AllOf, Distinct, NodeFine, node_fine, entries_of, accepted}
use Rattle.meaning.proofs.Accepted.{was_read}
use Rattle.meaning.proofs.Counting.{count, count_none, count_more, count_full}

-- ---- storing each entry's value at its node

pub put_size : {A : Type 0} (value : Entry → A) (es : List Entry) (xs : List A) → length (put_all value es xs) ≡ length xs
put_size value [] xs = refl
put_size value (e ∷ es) xs = rw (put_size value es, length-set)

module _ {A : Type 0} (value : Entry → A) (L : Limits) (n : ℕ) where
  -- a node that no entry is of keeps its value
  put_other : (es : List Entry) (xs : List A) (v : ℕ) (d : A) → AllFine L n es → 1 ≤ v → is_given v es ≡ false → get_or (put_all value es xs) (v - 1) d ≡ get_or xs (v - 1) d
  put_other [] xs v d fine l h = refl
  put_other (e ∷ es) xs v d fine l h =
      let p = neither (eqb (node_of e) v) (is_given v es) h in
      let f = node_fine L n e fine.0 in
      let apart = eqb-false (node_of e) v p.0 in
      put_other es (set xs (node_of e - 1) (value e)) v d fine.1 l p.1
      ∙ get_or-set_other xs (node_of e - 1) (v - 1) (value e) d (λ s. apart (omega arith))

  -- each entry's value stands at its node, where no later entry is of that node
  pub put_held : (es : List Entry) (xs : List A) (e : Entry) (d : A) → AllFine L n es → Distinct es → n ≤ length xs → Memᴰ e es
      → get_or (put_all value es xs) (node_of e - 1) d ≡ value e
  put_held [] xs e d fine apart l m = absurd (Memᴰ.not-nil m)
  put_held (b ∷ es) xs e d fine apart l m = at (Memᴰ.cases_cons m) (put_held es (set xs (node_of b - 1) (value b)) e d fine.1 apart.1 (rw length-set l))
    where
      f : NodeFine n (node_of b)
      f = node_fine L n b fine.0

      at : (e ≡ b) ⊎ Memᴰ e es → (Memᴰ e es → get_or (put_all value (b ∷ es) xs) (node_of e - 1) d ≡ value e) → get_or (put_all value (b ∷ es) xs) (node_of e - 1) d ≡ value e
      at (inl same) ih =
          let first = f.low in
          let last = f.high in
          rw same (put_other es (set xs (node_of b - 1) (value b)) (node_of b) d fine.1 first apart.0 ∙ get_or-set_same xs (node_of b - 1) (value b) d (omega arith))
      at (inr later) ih = ih later

  -- entries past the nodes stay
  pub put_later : (es : List Entry) (xs : List A) (i : ℕ) (d : A) → AllFine L n es → n ≤ i → get_or (put_all value es xs) i d ≡ get_or xs i d
  put_later [] xs i d fine l = refl
  put_later (e ∷ es) xs i d fine l =
      let f = node_fine L n e fine.0 in
      put_later es (set xs (node_of e - 1) (value e)) i d fine.1 l ∙ get_or-set_other xs (node_of e - 1) i (value e) d (λ s. omega arith)

-- ---- n entries of distinct nodes from 1 to n are of all of them

module _ (L : Limits) (n : ℕ) where
  abbrev among : List Entry → ℕ → Bool
  among es v = is_given (suc v) es

  given_count : (es : List Entry) → AllFine L n es → Distinct es → count (among es) n ≡ length es
  given_count [] fine apart = count_none (among []) n (λ v. refl)
  given_count (e ∷ es) fine apart =
      let f = node_fine L n e fine.0 in
      let low = f.low in
      let back : suc (node_of e - 1) ≡ node_of e = omega arith in
      let before : is_given (suc (node_of e - 1)) es ≡ false = ap (λ (v : ℕ). is_given v es) back ∙ apart.0 in
      let here : eqb (node_of e) (suc (node_of e - 1)) ≡ true = eq-eqb (node_of e) (suc (node_of e - 1)) (sym back) in
      count_more (among es) (among (e ∷ es)) (node_of e - 1) n (omega arith) before (ap (λ (b : Bool). b || is_given (suc (node_of e - 1)) es) here)
      (λ v other. ap (λ (b : Bool). b || is_given (suc v) es) (ne_eqb (node_of e) (suc v) (λ s. other (omega arith))))
      ∙ ap suc (given_count es fine.1 apart.1)

  pub all_given : (es : List Entry) → AllFine L n es → Distinct es → length es ≡ n → (v : ℕ) → 1 ≤ v → v ≤ n → is_given v es ≡ true
  all_given es fine apart full v l h =
      let back : suc (v - 1) ≡ v = omega arith in
      ap (λ (u : ℕ). is_given u es) (sym back) ∙ count_full (among es) n (given_count es fine apart ∙ full) (v - 1) (omega arith)

-- a point of that node among the entries
pub record HasLine (v : ℕ) (es : List Entry) : Type 0 where
  pub x : ℤ
  pub y : ℤ
  pub stands : Memᴰ (Point v x y) es

line_more : (v : ℕ) (e : Entry) (es : List Entry) → HasLine v es → HasLine v (e ∷ es)
line_more v e es l = record { x = l.x; y = l.y; stands = Memᴰ.tail l.stands }

line_here : (v : ℕ) (e : Entry) (es : List Entry) → IsOf Coordinates e → node_of e ≡ v → HasLine v (e ∷ es)
line_here v (Arc t h w) es k s = absurd k
line_here v (Point u a b) es k s = record { x = a; y = b; stands = Memᴰ.head (ap (λ (i : ℕ). Point i a b) (sym s)) }
line_here v (Site u) es k s = absurd k

line_of : (v : ℕ) (es : List Entry) → AllOf Coordinates es → is_given v es ≡ true → HasLine v es
line_of v [] k h = absurd (false≢true h)
line_of v (e ∷ es) k h = at (eqb (node_of e) v) refl (line_of v es k.1)
  where
    at : (b : Bool) → eqb (node_of e) v ≡ b → (is_given v es ≡ true → HasLine v es) → HasLine v (e ∷ es)
    at true t ih = line_here v e es k.0 (eqb-true (node_of e) v t)
    at false t ih = line_more v e es (ih (rw t at h))

-- ---- the tables of an accepted coordinate text

pub record EachNode (n : ℕ) (es : List Entry) (xs ys xs' ys' : List ℤ) : Type 0 where
  pub all : (v : ℕ) → 1 ≤ v → v ≤ n → HasLine v es
  pub x_held : (v : ℕ) (x y d : ℤ) → Memᴰ (Point v x y) es → get_or xs' (v - 1) d ≡ x
  pub y_held : (v : ℕ) (x y d : ℤ) → Memᴰ (Point v x y) es → get_or ys' (v - 1) d ≡ y
  pub x_later : (i : ℕ) (d : ℤ) → n ≤ i → get_or xs' i d ≡ get_or xs i d
  pub y_later : (i : ℕ) (d : ℤ) → n ≤ i → get_or ys' i d ≡ get_or ys i d
  pub x_size : length xs' ≡ length xs
  pub y_size : length ys' ≡ length ys

pub each_node : (L : Limits) (text : List ℕ) (n : ℕ) (xs ys : List ℤ) (c : Counts) (es : List Entry) → coordinate_reading L text n xs ys ≡ read c es
    → EachNode n es xs ys (by_node x_of (read c es) xs) (by_node y_of (read c es) ys)
each_node L text n xs ys c es h =
    let a = accepted (coordinate_rules L n (min (length xs) (length ys))) text c es h in
    let own : c.nodes ≡ n = a.given in
    let rows : c.rows ≡ c.nodes = a.rows in
    let full : length es ≡ c.rows = a.full in
    let room : c.rows ≤ min (length xs) (length ys) = a.room in
    let fine : AllFine L n es = rw own at a.fine in
    record {
      all = λ v l m. line_of v es a.of_kind (all_given L n es fine a.distinct (omega arith) v l m);
      x_held = λ v x y d m. put_held x_of L n es xs (Point v x y) d fine a.distinct (omega arith) m;
      y_held = λ v x y d m. put_held y_of L n es ys (Point v x y) d fine a.distinct (omega arith) m;
      x_later = λ i d l. put_later x_of L n es xs i d fine l;
      y_later = λ i d l. put_later y_of L n es ys i d fine l;
      x_size = put_size x_of es xs;
      y_size = put_size y_of es ys;
    }

-- what an accepted answer of the reader says of its tables
pub coordinates_accepted : {L : Limits} {text : List ℕ} {n : ℕ} {xs ys xs' ys' : List ℤ} {c : Counts} → CoordinatesRead L text n xs ys xs' ys' (Ok c)
    → EachNode n (entries_of Coordinates n (lines text)) xs ys xs' ys'
coordinates_accepted {L} {text} {n} {xs} {ys} {c = c} g =
    let k = was_read (coordinate_reading L text n xs ys) c g.answer_is in
    let es = (accepted (coordinate_rules L n (min (length xs) (length ys))) text c k.entries k.was).entries in
    rw (g.xs_are, g.ys_are, k.was, ← es) (each_node L text n xs ys c k.entries k.was)
