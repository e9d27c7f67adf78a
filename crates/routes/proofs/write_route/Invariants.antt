use Rattle.routes.proofs.Route.{Filled}
use Rattle.routes.proofs.write_route.Given as goal

abbrev pub invariant-loop-place : goal.invariant-loop-place
invariant-loop-place l = Filled l.n l.work l.initial.routes l.v l.at l.end l.routes l.here l.place
