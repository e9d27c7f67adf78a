-- The lines of a text one after the other, as the loop walks over them.
use Prim.Native.Nat.{ℕ, zero, suc, ◌+◌, ◌-◌, ◌/◌, ◌%◌, ◌^◌, ◌≤◌, ◌<◌}
use mathlib.Core.Path.{◌≡◌, refl, ap, sym, ◌∙◌}
use mathlib.Core.List.{List}
use mathlib.Core.Bool.{Bool, true, false, cond}
use lib.ListN.{length, take, drop, get_or, replicate, drop_of_length-le}
use lib.Dec.{ltb, eqb}
use native.Mathlib.Nat.{zero-div}
use native.Mathlib.Numerals.{add-one}
use native.Mathlib.Omega.{arith}
use borrow.Author.Tests.{lt-ltb, ltb-true}
use Rattle.std.specs.Prelude.{Some, None, Result, Ok, Err, MatchResult}
use Rattle.std.specs.Result.{is_ok, IsErrAnd}
use Rattle.meaning.specs.Text.{lines, trim, fields}
use Rattle.meaning.specs.Grammar.{line_of}
use Rattle.meaning.specs.Limits.{Test, fine}
use Rattle.meaning.specs.Files.{Progress, awaiting, begun, Next, stop, go, step, on_next, Reading, refused, read, read_from, finish}
use Rattle.meaning.specs.declared.Fault.{Fault}
use Rattle.meaning.specs.declared.Refusal.{Refusal}
use Rattle.meaning.specs.declared.Fault.TheVariants.{DataMiscounted}
use Rattle.meaning.specs.declared.Kind.{Kind}
use Rattle.meaning.specs.declared.Line.{Line}
use Rattle.meaning.specs.declared.Counts.{Counts}
use Rattle.meaning.specs.declared.Entry.{Entry}
use Rattle.meaning.specs.declared.Rules.{Rules}
use Rattle.meaning.proofs.Tests.{not_both, not_fine}
use Rattle.text.specs.Scan.{run, in_line}
use Rattle.text.specs.Read.{piece_at}
use Rattle.text.specs.declared.Piece.{Piece}
use Rattle.text.proofs.Laws.{line_inside, lines_at}
use Rattle.grammar.specs.Plain.{first_says}
use Rattle.reading.specs.Said.{said_at}
use Rattle.reading.specs.Rows.{Rows, RowsRead}
use Rattle.reading.specs.Follows.{moved_to, entries_since, Keeps, Went, Starts, Follows, AnswersNext}
use Rattle.reading.proofs.Steps.{opened}
use Rattle.reading.specs.declared.Said.{Said}
use Rattle.reading.specs.declared.Reader.{Reader}

-- ---- what the code finds at a position

pub record Found (text : List ℕ) (at : ℕ) (p : Piece) : Type 0 where
  pub some : at < length text
  pub start_is : p.start ≡ at
  pub len_is : p.len ≡ run in_line (drop at text)
  pub next_is : p.next ≡ at + run in_line (drop at text) + 1
  pub ends : p.start + p.len ≤ length text

pub found : (text : List ℕ) (at : ℕ) (p : Piece) → piece_at text at ≡ Some p → Found text at p
found text at p h = by (ltb at (length text)) refl h
  where
    piece : Piece
    piece = record { start = at; len = run in_line (drop at text); next = at + run in_line (drop at text) + 1 }

    by : (t : Bool) → ltb at (length text) ≡ t → cond t (Some piece) None ≡ Some p → Found text at p
    by true t e =
        let same : p ≡ piece = cc in
        let i : at < length text = ltb-true at (length text) t in
        rw same (record { some = i; start_is = refl; len_is = refl; next_is = refl; ends = line_inside text at i })
    by false t e = let z : ◌≡◌ {A = ℕ} 0 1 = cc in absurd (omega arith)

-- the line that was found says what the text says there
pub said_line : (kind : Kind) (given : ℕ) (text x : List ℕ) (at : ℕ) (p : Piece) (line : Line) → Found text at p
    → x ≡ trim (take ((p.start + p.len) - p.start) (drop p.start text)) → line ≡ line_of kind given (fields x)
    → record { line = line; next = p.next } ≡ said_at kind given text at
said_line kind given text x at p line f b c =
    let n : (p.start + p.len) - p.start ≡ run in_line (drop at text) = omega (arith, f.len_is) in
    rw (lt-ltb at (length text) f.some, c, b, n, f.start_is, f.next_is)

-- ---- a text cut at a position

module _ (kind : Kind) (given : ℕ) (text : List ℕ) (at : ℕ) (h : at < length text) where
  said_is : said_at kind given text at ≡ record { line = first_says kind given (drop at text); next = at + run in_line (drop at text) + 1 }
  said_is = rw (lt-ltb at (length text) h)

  next_is : (said_at kind given text at).next ≡ at + run in_line (drop at text) + 1
  next_is = ap (λ (s : Said). s.next) said_is

  next_high : (said_at kind given text at).next ≤ length text + 1
  next_high = omega (arith, next_is, line_inside text at h)

-- ---- the judging loop: what is left to read gives the whole reading

blank_word : (n i : ℕ) → ◌≡◌ {A = ℕ} (get_or (replicate n zero) i zero) zero
blank_word zero i = refl
blank_word (suc n) zero = refl
blank_word (suc n) (suc i) = blank_word n i

pub started : (R : Rules) (marks : List ℕ) → marks ≡ replicate 32 0 → Starts R (record { rules = R; at = 0; counts = None; count = 0; marks = marks })
started R marks e = record {
  rules_are = refl;
  at_is = refl;
  stands = record {
    counts_are = refl;
    passed = tt;
    count_is = refl;
    tracks = λ j h. rw (e, blank_word 32 (j / 32), zero-div (2 ^ (j % 32)));
  };
  none_yet = refl;
}

-- the lines up to a reader's position led to a progress that it keeps
pub record Judged {A : Type 0} (row_of : Entry → A) (R : Rules) (text : List ℕ) (rows₀ : List A) (s : Reader) (rows : List A) (place : ℕ) : Type 0 where
  pub progress : Progress
  pub rules_are : s.rules ≡ R
  pub keeps : Keeps row_of s rows progress
  pub size : length rows ≡ length rows₀
  pub low : place ≤ s.at
  pub high : s.at ≤ length text + 1
  pub same : read_from R (lines text) awaiting 0 ≡ read_from R (lines (drop s.at text)) progress place

pub judged_start : {A : Type 0} (row_of : Entry → A) (R : Rules) (text : List ℕ) (rows : List A) (s : Reader) → Starts R s → Judged row_of R text rows s rows 0
judged_start row_of R text rows s starts =
    let went : Went row_of R 0 s rows awaiting = opened row_of R 0 s rows awaiting starts in
    record {
      progress = awaiting;
      rules_are = went.rules_are;
      keeps = went.keeps;
      size = refl;
      low = omega arith;
      high = omega (arith, went.at_is);
      same = rw went.at_is;
    }

-- wherever the next line starts
moved_keeps : {A : Type 0} (row_of : Entry → A) (s : Reader) (at : ℕ) (rows : List A) (p : Progress) → Keeps row_of s rows p → Keeps row_of (moved_to s at) rows p
moved_keeps row_of s at rows p k = record {
  stands = record { counts_are = k.stands.counts_are; passed = k.stands.passed; count_is = k.stands.count_is; tracks = k.stands.tracks };
  rows_are = k.rows_are;
}

-- a test, from what became of its refusal
pub passes : (r : Test) (m : Result (Unit {0}) Refusal) → is_ok m ≡ is_ok r → m ≡ Ok tt → r ≡ fine
passes (Ok tt) m v e = refl
passes (Err fault) m v e = let z : false ≡ true = sym v ∙ ap is_ok e in absurd (not_both z)

pub fails : (r : Test) (m : Result (Unit {0}) Refusal) (Post : Fault → Refusal → Type 0)
    → MatchResult r (λ x. m ≡ Ok x) (λ e. IsErrAnd m (Post e)) → (y : Refusal) → m ≡ Err y
    → (fault : Fault) × (r ≡ Err fault) × Post fault y
fails (Ok tt) m Post h y e = absurd (not_fine y (sym e ∙ h))
fails (Err fault) m Post h y e = (fault, refl, rw e at h)

-- the code refuses with the rules, or goes on with them
stopped : {A : Type 0} (row_of : Entry → A) (R : Rules) (at : ℕ) (r : Test) (s : Reader) (rows : List A) (fault : Fault) → r ≡ Err fault → (x : Next) → Follows (Went row_of R at s rows) r x → x ≡ stop fault
stopped row_of R at r s rows fault is (stop other) f = let e : ◌≡◌ {A = Test} (Err other) (Err fault) = sym f ∙ is in let o : other ≡ fault = cc in ap stop o
stopped row_of R at r s rows fault is (go p) f = absurd (not_fine fault (sym is ∙ f.0))

record Gone {A : Type 0} (row_of : Entry → A) (R : Rules) (at : ℕ) (s : Reader) (rows : List A) (x : Next) : Type 0 where
  pub progress : Progress
  pub same : x ≡ go progress
  pub went : Went row_of R at s rows progress

gone : {A : Type 0} (row_of : Entry → A) (R : Rules) (at : ℕ) (r : Test) (s : Reader) (rows : List A) → r ≡ fine → (x : Next) → Follows (Went row_of R at s rows) r x → Gone row_of R at s rows x
gone row_of R at r s rows is (stop fault) f = absurd (not_fine fault (sym f ∙ is))
gone row_of R at r s rows is (go p) f = record { progress = p; same = refl; went = f.1 }

module _ {A : Type 0} {row_of : Entry → A} {R : Rules} {text : List ℕ} {rows₀ : List A} {s : Reader} {rows : List A} {place : ℕ} (j : Judged row_of R text rows₀ s rows place) where
  -- the next line, and the code's answer to it
  module _ (h : s.at < length text) (r : Test) (s' : Reader) (rows' : List A) (answers : AnswersNext row_of text s rows r s' rows') where
    abbrev said : Said
    said = said_at R.kind R.given text s.at

    abbrev later : Progress → Reading
    later p = read_from R (lines (drop said.next text)) p (suc place)

    here : read_from R (lines text) awaiting 0 ≡ on_next (step R j.progress said.line) (suc place) later
    here =
        j.same ∙ ap (λ (ls : List (List ℕ)). read_from R ls j.progress place) (lines_at text s.at h)
        ∙ ap (λ (x : Said). on_next (step R j.progress x.line) (suc place) (λ p. read_from R (lines (drop x.next text)) p (suc place)))
        (sym (said_is R.kind R.given text s.at h))

    follows : Follows (Went row_of R said.next s' rows') r (step R j.progress said.line)
    follows = rw j.rules_are at (answers j.progress (moved_keeps row_of s _ rows j.progress j.keeps))

    pub judged_stop : (fault : Fault) → r ≡ Err fault → read_from R (lines text) awaiting 0 ≡ refused fault (place + 1)
    judged_stop fault z =
        here ∙ ap (λ (x : Next). on_next x (suc place) later) (stopped row_of R said.next r s' rows' fault z (step R j.progress said.line) follows)
        ∙ ap (refused fault) (sym (add-one place))

    module _ (z : r ≡ fine) where
      on : Gone row_of R said.next s' rows' (step R j.progress said.line)
      on = gone row_of R said.next r s' rows' z (step R j.progress said.line) follows

      pub judged_up : s.at < s'.at
      judged_up = omega (arith, on.went.at_is, next_is R.kind R.given text s.at h)

      pub judged_on : length rows' ≡ length rows → Judged row_of R text rows₀ s' rows' (place + 1)
      judged_on l = record {
        progress = on.progress;
        rules_are = on.went.rules_are;
        keeps = on.went.keeps;
        size = l ∙ j.size;
        low = omega (arith, j.low, judged_up);
        high = omega (arith, on.went.at_is, next_high R.kind R.given text s.at h);
        same =
            here ∙ ap (λ (x : Next). on_next x (suc place) later) on.same
            ∙ ap (λ (k : ℕ). read_from R (lines (drop k text)) on.progress (suc place)) (sym on.went.at_is)
            ∙ ap (read_from R (lines (drop s'.at text)) on.progress) (sym (add-one place));
      }

  pub judged_end : length text ≤ s.at → read_from R (lines text) awaiting 0 ≡ finish j.progress
  judged_end h = j.same ∙ ap (λ (r : List ℕ). read_from R (lines r) j.progress place) (drop_of_length-le text h)

  pub judged_rows : RowsRead row_of (finish j.progress) rows
  judged_rows = by j.progress j.keeps.rows_are
    where
      either : (b : Bool) (c : Counts) (es : List Entry) → Rows row_of es rows → RowsRead row_of (cond b (read c es) (refused DataMiscounted 0)) rows
      either true c es h = h
      either false c es h = tt

      by : (p : Progress) → Rows row_of (entries_since p) rows → RowsRead row_of (finish p) rows
      by awaiting h = tt
      by (begun c es) h = either (eqb (length es) c.rows) c es h
