use Rattle.std.proofs.Common.{arith}
use Rattle.std.proofs.lemmas.List.Sums.{prefix_len-le-length}
use Rattle.meaning.specs.Text.{is_blank}
use Rattle.text.specs.Scan.{is_ink}
use Rattle.text.proofs.Laws.{parted, tail_all}
use Rattle.text.proofs.split_word.Goals as goal

pub slice_bounds-lead-count : goal.slice_bounds-lead-count
slice_bounds-lead-count c = omega (arith, c.blanks.ensures, prefix_len-le-length is_blank c.args.rest.now)

pub slice_bounds-lead-start : goal.slice_bounds-lead-start
slice_bounds-lead-start c = omega (arith, c.blanks.ensures, prefix_len-le-length is_blank c.args.rest.now)

pub split_at-requires : goal.split_at-requires
split_at-requires c = rw c.inks.ensures (prefix_len-le-length is_ink _)

pub returns-clause-word : goal.returns-clause-word
returns-clause-word c =
    rw (c.split_at.ensures.front, c.inks.ensures, tail_all, c.blanks.ensures) (parted c.args.rest.now).word

pub returns-clause-after : goal.returns-clause-after
returns-clause-after c =
    rw (c.split_at.ensures.back, c.inks.ensures, tail_all, c.blanks.ensures) (parted c.args.rest.now).after
