use lib.ListN.{length}
use Rattle.std.proofs.Common.{sym}
use Rattle.meaning.specs.Limits.{base}
use Rattle.meaning.specs.Files.{site_rules}
use Rattle.readers.specs.Writing.{site_row}
use Rattle.readers.proofs.Outcomes.{Taken, taken, counted, enough, in_room, sites_written}
use Rattle.readers.proofs.read_sites.Goals as goal
use Rattle.readers.proofs.read_sites.Goals.{In_ok-counts}

was_taken : (c : In_ok-counts) → Taken site_row (site_rules base c.args.nodes (length c.args.sites.now)) c.args.text.now c.in_ok-counts.counts c.judged.new.rows
was_taken c = taken site_row _ c.args.text.now c.judged.new.rows c.judged.result c.in_ok-counts.counts c.judged.ensures.rows_read c.judged.ensures.value c.in_ok-counts.was

pub slice_bounds-rows-end : goal.slice_bounds-rows-end
slice_bounds-rows-end c = enough (was_taken (goal.at.slice_bounds-rows-end c).In_ok-counts)

pub slice_bounds-write_sites-end : goal.slice_bounds-write_sites-end
slice_bounds-write_sites-end c = sym (counted (was_taken (goal.at.slice_bounds-write_sites-end c).In_ok-counts))

pub write_sites-requires : goal.write_sites-requires
write_sites-requires c = in_room (was_taken (goal.at.write_sites-requires c).In_ok-counts)

pub returns : goal.returns
returns c = sites_written (was_taken (goal.at.returns c).In_ok-counts) _ c.write_sites.ensures
