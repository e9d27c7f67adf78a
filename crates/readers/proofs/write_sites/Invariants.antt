use Rattle.std.proofs.Common.{◌≡◌}
use Rattle.readers.specs.Writing.{stored, in_order, site_in}
use Rattle.readers.proofs.write_sites.Given as goal

abbrev pub invariant-loop-i : goal.invariant-loop-i
invariant-loop-i l = l.sites ≡ stored in_order (site_in l.rows) l.i l.initial.sites
