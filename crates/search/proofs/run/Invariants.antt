use Prim.Native.Nat.{◌-◌}
use Rattle.search.proofs.Runs.{Going}
use Rattle.search.proofs.run.Given as goal

-- As many steps of the taking rule have been made as nodes are counted.
abbrev pub invariant-loop-u : goal.invariant-loop-u
invariant-loop-u l =
    Going l.network.region l.query l.k l.fn.work l.fn.listed l.fn.lengths l.guide l.work l.listed
    l.lengths l.sites l.taken

abbrev pub decreases-loop-u : goal.decreases-loop-u
decreases-loop-u l = l.network.region.n - l.taken
