use Rattle.reading.proofs.Lines.{Judged}
use Prim.Native.Nat.{◌+◌, ◌-◌}
use lib.ListN.{length}
use Rattle.reading.proofs.judge.Given as goal

abbrev pub invariant-loop-reader : goal.invariant-loop-reader
invariant-loop-reader g l = Judged g.R.Row.row_of l.fn.rules l.text l.initial.rows l.reader l.rows l.place

abbrev pub decreases-loop-reader : goal.decreases-loop-reader
decreases-loop-reader g l = (length l.text + 1) - l.reader.at
