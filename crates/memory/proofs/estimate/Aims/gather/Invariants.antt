use Rattle.meaning.specs.Region.{tables_of}
use Rattle.memory.proofs.Columns.{Gathered}
use Rattle.memory.proofs.estimate.Aims.gather.Given as goal

abbrev pub invariant-loop-j : goal.invariant-loop-j
invariant-loop-j l =
    Gathered (tables_of l.t) l.t.xs.now l.j l.initial.self.xs l.self.xs
    × Gathered (tables_of l.t) l.t.ys.now l.j l.initial.self.ys l.self.ys
