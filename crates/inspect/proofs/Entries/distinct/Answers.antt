use native.Mathlib.Omega.{arith}
use Prim.Native.Nat.{◌<◌}
use Rattle.std.proofs.Common.{get_or-take, length-take}
use Rattle.inspect.proofs.Marked.{stood_none, stood_more}
use Rattle.inspect.proofs.Entries.distinct.Goals as goal

pub loop-number-init : goal.loop-number-init
loop-number-init c = stood_none _ _

pub loop-number-preserved : goal.loop-number-preserved
loop-number-preserved c =
    let t = c.args.self.now.tables in
    let below : c.loop-number.number-index < t.s = omega (arith, simp length-take at c.loop-number-test.true) in
    stood_more _ _ _ _ c.loop-number.invariant (rw (c.from.ensures, get_or-take) at (c.is_new.ensures c.if-not-is_new.false))
