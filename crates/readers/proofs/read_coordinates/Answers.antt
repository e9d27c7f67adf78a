use Prim.Native.Nat.{min}
use lib.ListN.{length}
use Rattle.std.proofs.Common.{rules, ◌≡◌, sym}
use Rattle.meaning.specs.Limits.{base}
use Rattle.meaning.specs.Files.{coordinate_rules}
use Rattle.readers.specs.Writing.{point_row}
use Rattle.readers.proofs.Outcomes.{Taken, taken, counted, enough, points_fit, points_written}
use Rattle.readers.proofs.read_coordinates.Goals as goal
use Rattle.readers.proofs.read_coordinates.Goals.{In_ok-counts}

was_taken : (c : In_ok-counts) → Taken point_row (coordinate_rules base c.args.nodes (min (length c.args.xs.now) (length c.args.ys.now))) c.args.text.now c.in_ok-counts.counts c.judged.new.rows
was_taken c =
    let room : c.min-room.result ≡ min (length c.args.xs.now) (length c.args.ys.now) = search rules in
    taken point_row _ c.args.text.now c.judged.new.rows c.judged.result c.in_ok-counts.counts (rw room at c.judged.ensures.rows_read) (rw room at c.judged.ensures.value) c.in_ok-counts.was

pub slice_bounds-rows-end : goal.slice_bounds-rows-end
slice_bounds-rows-end c = enough (was_taken (goal.at.slice_bounds-rows-end c).In_ok-counts)

pub slice_bounds-write_points-end : goal.slice_bounds-write_points-end
slice_bounds-write_points-end c = sym (counted (was_taken (goal.at.slice_bounds-write_points-end c).In_ok-counts))

pub write_points-requires : goal.write_points-requires
write_points-requires c = points_fit (was_taken (goal.at.write_points-requires c).In_ok-counts)

pub returns : goal.returns
returns c = points_written (was_taken (goal.at.returns c).In_ok-counts) _ _ c.write_points.ensures.xs_are c.write_points.ensures.ys_are
