use Rattle.std.proofs.Common.{◌≡◌}
use Rattle.readers.specs.Writing.{stored, in_order, tail_in, head_in, weight_in}
use Rattle.readers.proofs.write_arcs.Given as goal

abbrev pub invariant-loop-i : goal.invariant-loop-i
invariant-loop-i l =
    (l.tails ≡ stored in_order (tail_in l.rows) l.i l.initial.tails)
    × (l.heads ≡ stored in_order (head_in l.rows) l.i l.initial.heads)
    × (l.weights ≡ stored in_order (weight_in l.rows) l.i l.initial.weights)
