use Rattle.std.proofs.Common.{arith}
use Rattle.reading.proofs.Bits.{added}
use lib.Bits.{and_mask}
use lib.Pow.{shl_exact}
use native.Mathlib.Nat.{one-mul}
use Prim.Native.Nat.{◌%◌}
use Rattle.reading.proofs.marks.Marks.insert.Goals as goal

pub returns : goal.returns
returns c =
    rw (← c.self.view_is, and_mask c.args.k 5, shl_exact {a = 1} 1 (c.args.k % 32) 32 (omega arith) (omega arith), one-mul)
    (added c.self.inside.words c.args.k (omega (arith, c.self.told)))
