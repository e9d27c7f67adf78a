use native.Mathlib.Omega.{arith}
use Rattle.straight.proofs.Laws.{sum_is, sum_small}
use Rattle.straight.proofs.squares.Goals as goal

pub overflow_add-result : goal.overflow_add-result
overflow_add-result c = omega (arith, sum_small c.requires.from c.requires.to c.apart.ensures c.apart-2.ensures)

pub returns : goal.returns
returns c =
    let p = c.requires.from in
    let q = c.requires.to in
    (sum_is p q c.apart.ensures c.apart-2.ensures, sum_small p q c.apart.ensures c.apart-2.ensures)
