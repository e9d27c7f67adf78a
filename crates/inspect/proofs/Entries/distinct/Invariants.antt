use Rattle.meaning.specs.Region.{tables_of}
use Rattle.inspect.proofs.Marked.{Stood}
use Rattle.inspect.proofs.Entries.distinct.Given as goal

abbrev pub invariant-loop-number : goal.invariant-loop-number
invariant-loop-number l = Stood (tables_of l.self.tables) l.seen l.number-index
