-- A line in its plain form, field by field: what stands there, and so what it says.
use Rattle.std.proofs.Common.{◌≡◌, ℕ, zero, suc, ◌+◌, ◌-◌, ◌*◌, ◌^◌, ◌<◌, ◌≤◌, Bool, true, false, not, List, [], ◌∷◌, ◌++◌, length, get_or, take, drop, ℤ, pos, neg_ℤ, sym, refl, ap, ◌∙◌, append_assoc, append-nil, add-one, one-add, arith, length-take, length-drop, drop-cons, ne_eqb, le-leb, Some, None}
use native.Mathlib.Nat.{pow-le-pow_right, pow-suc}
use Rattle.std.proofs.lemmas.List.{take-append-drop, take_more}
use lib.Seq.{take-append_seam, drop-append_seam}
use Rattle.meaning.specs.Text.{trim, fields, is_blank, is_digit, digits}
use Rattle.meaning.specs.Grammar.{line_of}
use Rattle.meaning.specs.declared.Entry.{Entry}
use Rattle.meaning.specs.declared.Entry.TheVariants.{Arc, Point, Site}
use Rattle.meaning.specs.declared.Kind.{Kind}
use Rattle.meaning.specs.declared.Kind.TheVariants.{Graph, Coordinates, Sites}
use Rattle.meaning.specs.declared.Line.TheVariants.{Data}
use Rattle.text.specs.Scan.{run, in_line, is_ink}
use Rattle.text.proofs.Laws.{fields_word, trim_other, number_digits, tail_all}
use Rattle.grammar.specs.Plain.{Says, Above, Field, NumberRead, SignedRead, DigitsSaid}

-- a test that all bytes above a number pass runs to where it fails
run_above : (p : ℕ → Bool) (m : ℕ) → ((b : ℕ) → m < b → p b ≡ true) → (l r : List ℕ) → Above m l → run p r ≡ 0 → run p (l ++ r) ≡ length l
run_above p m ok [] r h e = e
run_above p m ok (b ∷ l) r h e = rw (ok b h.0, one-add) (ap suc (run_above p m ok l r h.1 e))

in_line_lem : (b : ℕ) → 31 < b → in_line b ≡ true
in_line_lem b h = rw (ne_eqb b 10 (omega arith))

no_blank : (b : ℕ) → 32 < b → is_blank b ≡ false
no_blank b h = rw (ne_eqb b 32 (omega arith), ne_eqb b 9 (omega arith))

-- a field in front of a blank or of the end
fields_front : (f l : List ℕ) → 0 < length f → Above 32 f → run is_ink l ≡ 0 → fields (f ++ l) ≡ f ∷ fields l
fields_front [] l s h e = absurd (omega arith)
fields_front (b ∷ f) l s h e =
    fields_word b (f ++ l) (no_blank b h.0)
    ∙ rw (run_above is_ink 32 (λ d k. ap not (no_blank d k)) (b ∷ f) l h e, take-append_seam (b ∷ f) l, drop-append_seam (b ∷ f) l)

-- no CR stands in such a line
no_cr : (l : List ℕ) (k : ℕ) → Above 31 l → get_or l k 0 ≡ 13 → ⊥
no_cr [] k h e = omega arith
no_cr (b ∷ l) zero h e = omega arith
no_cr (b ∷ l) (suc k) h e = no_cr l k h.1 e

above_append : (m k : ℕ) → m ≤ k → (f l : List ℕ) → Above k f → Above m l → Above m (f ++ l)
above_append m k e [] l i h = h
above_append m k e (b ∷ f) l i h = (omega arith, above_append m k e f l i.1 h)

-- what a line of such bytes says
clear_line : (l r : List ℕ) → Above 31 l → fields (trim (take (run in_line (l ++ 10 ∷ r)) (l ++ 10 ∷ r))) ≡ fields l
clear_line l r h =
    rw (run_above in_line 31 in_line_lem l (10 ∷ r) h refl, take-append_seam l (10 ∷ r)) (ap fields (sym (trim_other l (no_cr l (length l - 1) h))))

-- plain fields come first, then LF, then the rest
record Reads (text : List ℕ) (fs : List (List ℕ)) (rest : List ℕ) : Type 0 where
  line : List ℕ
  stands : text ≡ line ++ 10 ∷ rest
  clear : Above 31 line
  says : fields line ≡ fs

module _ {text f rest : List ℕ} where
  last : Field text f 10 rest → Reads text (f ∷ []) rest
  last h = record {
    line = f;
    stands = h.stands;
    clear = rw append-nil at (above_append 31 32 (omega arith) f [] h.inks tt);
    says = rw append-nil at (fields_front f [] h.some h.inks refl);
  }

  more : {after : List ℕ} {fs : List (List ℕ)} → Field text f 32 rest → Reads rest fs after → Reads text (f ∷ fs) after
  more {after} h r = record {
    line = f ++ 32 ∷ r.line;
    stands = h.stands ∙ rw r.stands (sym (append_assoc f (32 ∷ r.line) (10 ∷ after)));
    clear = above_append 31 32 (omega arith) f (32 ∷ r.line) h.inks (omega arith, r.clear);
    says = fields_front f (32 ∷ r.line) h.some h.inks refl ∙ ap (λ (fs : List (List ℕ)). f ∷ fs) r.says;
  }

said : {kind : Kind} {text rest : List ℕ} {fs : List (List ℕ)} {e : Entry}
    → ((given : ℕ) → line_of kind given fs ≡ Data e) → Reads text fs rest → Says kind text e rest
said {kind} {text} {rest} h r =
    let len : run in_line text ≡ length r.line = rw r.stands (run_above in_line 31 in_line_lem r.line (10 ∷ rest) r.clear refl) in
    record {
      line = λ given. rw r.stands (ap (line_of kind given) (clear_line r.line rest r.clear ∙ r.says) ∙ h given);
      stands = rw (len, r.stands, take-append_seam r.line (10 ∷ rest));
    }

word : {text rest : List ℕ} {w : ℕ} → 32 < w → text ≡ w ∷ 32 ∷ rest → Field text (w ∷ []) 32 rest
word h s = record { stands = s; some = omega arith; inks = (h, tt) }

-- what is said of a line, by what was read of it
module _ {line from rest : List ℕ} where
  pub arc_said : {u v w : ℕ} {a b : List ℕ} → line ≡ 97 ∷ 32 ∷ from → NumberRead from 32 u a → NumberRead a 32 v b
      → NumberRead b 10 w rest → Says Graph line (Arc u v w) rest
  arc_said s u v w =
      said (λ given. rw (u.known, v.known, w.known)) (more (word (omega arith) s) (more u.here (more v.here (last w.here))))

  pub point_said : {v : ℕ} {x y : ℤ} {a b : List ℕ} → line ≡ 118 ∷ 32 ∷ from → NumberRead from 32 v a → SignedRead a 32 x b
      → SignedRead b 10 y rest → Says Coordinates line (Point v x y) rest
  point_said s v x y =
      said (λ given. rw (v.known, x.known, y.known)) (more (word (omega arith) s) (more v.here (more x.here (last y.here))))

  pub site_said : {v : ℕ} → line ≡ 115 ∷ 32 ∷ from → NumberRead from 10 v rest → Says Sites line (Site v) rest
  site_said s v = said (λ given. rw v.known) (more (word (omega arith) s) (last v.here))

-- digits that are followed by others
digits_by : (b : ℕ) (f g : List ℕ) (a v : ℕ) (t : Bool) → is_digit b ≡ t → digits a (b ∷ f) ≡ Some v
    → (digits (a * 10 + (b - 48)) f ≡ Some v → digits (a * 10 + (b - 48)) (f ++ g) ≡ digits v g)
    → digits a (b ∷ f ++ g) ≡ digits v g
digits_by b f g a v true e h go = rw e (go (rw e at h))
digits_by b f g a v false e h go =
    let k : None ≡ Some v = rw e at h in
    absurd (let z : ◌≡◌ {A = ℕ} 0 1 = cc in omega arith)

digits_append : (f g : List ℕ) (a v : ℕ) → digits a f ≡ Some v → digits a (f ++ g) ≡ digits v g
digits_append [] g a v h = ap (λ (x : ℕ). digits x g) (cc)
digits_append (b ∷ f) g a v h = digits_by b f g a v (is_digit b) refl h (digits_append f g (a * 10 + (b - 48)) v)

-- the first i bytes are digits, and v is their value
pub record Sofar (text : List ℕ) (i v : ℕ) : Type 0 where
  pub value : digits 0 (take i text) ≡ Some v
  pub small : v < 10 ^ i
  pub inks : Above 32 (take i text)

one_digit : (b d v : ℕ) → d ≤ 9 → b ≡ d + 48 → digits v (b ∷ []) ≡ Some (v * 10 + d)
one_digit b d v l e =
    let k : b - 48 ≡ d = omega arith in
    rw (le-leb 48 b (omega arith), le-leb b 57 (omega arith), k)

module _ {text : List ℕ} {i v : ℕ} (s : Sofar text i v) where
  pub sofar_small : i ≤ 9 → v < 1000000000
  sofar_small h = omega (arith, s.small, pow-le-pow_right {n = 10} (omega arith) {i = i} {j = 9} h)

  pub sofar_more : (d : ℕ) → i < length text → d ≤ 9 → get_or text i 0 ≡ d + 48 → Sofar text (i + 1) (v * 10 + d)
  sofar_more d h l e = record {
    value = rw (take_more text i 0 h)
        (digits_append (take i text) (get_or text i 0 ∷ []) 0 v s.value ∙ one_digit (get_or text i 0) d v l e);
    small = rw (add-one, pow-suc 10 i) (omega (arith, s.small));
    inks = rw (take_more text i 0 h)
        (above_append 32 32 (omega arith) (take i text) (get_or text i 0 ∷ []) s.inks (omega arith, tt));
  }

  -- the number ends where another byte stands
  pub sofar_ended : {end : ℕ} {after : List ℕ} → after ≡ drop i text → i ≤ 9 → 0 < i → 0 < length after → get_or after 0 0 ≡ end
      → DigitsSaid text end v (take (length after - 1) (drop 1 after))
  sofar_ended {end} {after} e few some more is =
      let n : length (take i text) ≡ i = omega (arith, length-take i text, length-drop i text, ap length e) in
      rw (tail_all after 1) record {
        small = sofar_small few;
        said = record {
          field = take i text;
          here = record {
            stands = sym (take-append-drop i text) ∙ ap (λ (l : List ℕ). take i text ++ l) (sym e ∙ drop-cons after 0 0 more ∙ rw is);
            some = omega arith;
            inks = s.inks;
          };
          known = number_digits (take i text) (omega arith) (omega arith) ∙ s.value;
        };
      }

-- a minus sign, and a number behind it
pub signed_minus : {text tail rest : List ℕ} {end v : ℕ} → text ≡ 45 ∷ tail → NumberRead tail end v rest
    → SignedRead text end (neg_ℤ (pos v)) rest
signed_minus h r = record {
  field = 45 ∷ r.field;
  here = record {
    stands = h ∙ rw r.here.stands;
    some = omega arith;
    inks = (omega arith, r.here.inks);
  };
  known = rw r.known;
}
