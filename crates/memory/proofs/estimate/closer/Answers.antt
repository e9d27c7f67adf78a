use native.Mathlib.Omega.{arith}
use Rattle.memory.proofs.Closest.{sum_fits}
use Rattle.memory.proofs.estimate.closer.Goals as goal

pub overflow_add-square : goal.overflow_add-square
overflow_add-square c = omega (arith, sum_fits c.requires c.apart.ensures c.apart-2.ensures)
