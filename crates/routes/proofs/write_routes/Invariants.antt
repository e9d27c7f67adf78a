use Rattle.routes.proofs.Lines.{Lined}
use Rattle.routes.proofs.write_routes.Given as goal

abbrev pub invariant-loop-i : goal.invariant-loop-i
invariant-loop-i l =
    Lined l.n l.work l.listed l.count l.initial.ends l.initial.routes l.ends l.routes l.at l.i
