use Rattle.std.proofs.Common.{◌≡◌}
use Rattle.readers.specs.Writing.{stored, at_node, x_in, y_in}
use Rattle.readers.proofs.write_points.Given as goal

abbrev pub invariant-loop-row : goal.invariant-loop-row
invariant-loop-row l =
    (l.xs ≡ stored (at_node l.rows) (x_in l.rows) l.row-index l.initial.xs)
    × (l.ys ≡ stored (at_node l.rows) (y_in l.rows) l.row-index l.initial.ys)
