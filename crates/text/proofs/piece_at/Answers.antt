use Rattle.std.proofs.Common.{arith}
use Rattle.text.proofs.Laws.{line_inside, tail_all}
use Rattle.text.proofs.piece_at.Goals as goal

pub overflow_add-result : goal.overflow_add-result
overflow_add-result c =
    let len = rw tail_all at c.line_len-len.ensures in
    omega (arith, len, line_inside c.args.text.now c.args.at)

pub overflow_add-result-2 : goal.overflow_add-result-2
overflow_add-result-2 c =
    let len = rw tail_all at c.line_len-len.ensures in
    omega (arith, len, line_inside c.args.text.now c.args.at)
