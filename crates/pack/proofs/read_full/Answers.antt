use Rattle.std.proofs.Common.{◌≡◌, ℕ, ◌+◌, ◌-◌, ◌≤◌, List, ◌++◌, rules, length, take}
use Rattle.std.proofs.Common.{sym, ap, ◌∙◌, subst, length-take-le}
use Rattle.std.proofs.lemmas.List.{take-append-le}
use Rattle.std.proofs.Math.Seq.{take-append-add}
use Rattle.std.specs.Io.KnownBytes.{Consumes}
use Rattle.std.proofs.KnownBytes.{Consumes-trans}
use borrow.Rule.Slice.PartMut.{put_mid, post_of}
use Rattle.pack.proofs.read_full.Goals as goal

-- what a read put behind the first `a` bytes follows them
take-put_mid_part : (a k n : ℕ) (xs ys : List ℕ) → a ≤ length xs → n ≤ length ys
    → take (a + n) (put_mid a k xs ys) ≡ take a xs ++ take n ys
take-put_mid_part a k n xs ys within fits =
    ap (λ m. take (m + n) (put_mid a k xs ys)) (sym (length-take-le a xs within))
    ∙ take-append-add (take a xs) (ys ++ post_of a k xs) n
    ∙ ap (λ l. take a xs ++ l) (take-append-le n ys (post_of a k xs) fits)

pub loop-done-preserved : goal.loop-done-preserved
loop-done-preserved g c =
    let done = c.loop-done.done in
    let text = c.loop-done.text in
    let before = c.loop-done.invariant in
    let got = c.in-Ok.got in
    let ys = c.read.new.buf in
    let read = c.in-Ok.ensures in
    let room = length text - done in
    let joined = take-put_mid_part done room got text ys before.within read.bound.0 in
    let bytes = Consumes-trans _ _ _ _ _ before.bytes read.bytes.0 in
    record {
      within = search rules;
      same_length = search rules;
      bytes = subst (Consumes _ _) (sym joined) bytes;
    }
