use Rattle.meaning.specs.Region.{tables_of}
use Rattle.taking.proofs.Chaining.{Linking}
use Rattle.taking.proofs.network.Network.link.Given as goal

-- The loop's invariant: the arcs from arc i on are linked.
abbrev pub invariant-loop-i : goal.invariant-loop-i
invariant-loop-i l = Linking (tables_of l.t) l.chains.starts l.chains.nexts l.i
