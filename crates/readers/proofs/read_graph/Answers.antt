use Prim.Native.Nat.{min}
use lib.ListN.{length}
use Rattle.std.proofs.Common.{rules, ◌≡◌, sym}
use Rattle.meaning.specs.Limits.{base}
use Rattle.meaning.specs.Files.{graph_rules}
use Rattle.readers.specs.Writing.{arc_row}
use Rattle.readers.proofs.Outcomes.{Taken, taken, counted, enough, arcs_fit, graph_written}
use Rattle.readers.proofs.read_graph.Goals as goal
use Rattle.readers.proofs.read_graph.Goals.{In_ok-counts}

was_taken : (c : In_ok-counts) → Taken arc_row (graph_rules base (min (length c.args.tails.now) (min (length c.args.heads.now) (length c.args.weights.now)))) c.args.text.now c.in_ok-counts.counts c.judged.new.rows
was_taken c =
    let room : c.min-room.result ≡ min (length c.args.tails.now) (min (length c.args.heads.now) (length c.args.weights.now)) = search rules in
    taken arc_row _ c.args.text.now c.judged.new.rows c.judged.result c.in_ok-counts.counts (rw room at c.judged.ensures.rows_read) (rw room at c.judged.ensures.value) c.in_ok-counts.was

pub slice_bounds-rows-end : goal.slice_bounds-rows-end
slice_bounds-rows-end c = enough (was_taken (goal.at.slice_bounds-rows-end c).In_ok-counts)

pub slice_bounds-write_arcs-end : goal.slice_bounds-write_arcs-end
slice_bounds-write_arcs-end c = sym (counted (was_taken (goal.at.slice_bounds-write_arcs-end c).In_ok-counts))

pub write_arcs-requires : goal.write_arcs-requires
write_arcs-requires c = arcs_fit (was_taken (goal.at.write_arcs-requires c).In_ok-counts)

pub returns : goal.returns
returns c = graph_written (was_taken (goal.at.returns c).In_ok-counts) _ _ _ c.write_arcs.ensures.tails_are c.write_arcs.ensures.heads_are c.write_arcs.ensures.weights_are
