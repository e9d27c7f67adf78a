use mathlib.Core.Path.{◌≡◌}
use Rattle.meaning.specs.Region.{tables_of}
use Rattle.memory.proofs.Columns.{Forgetting}
use Rattle.memory.proofs.estimate.Aims.forget.Given as goal

abbrev pub invariant-loop-j : goal.invariant-loop-j
invariant-loop-j l =
    Forgetting (tables_of l.t) l.j l.v l.initial.self.xs l.self.xs × (l.self.ys ≡ l.initial.self.ys)
