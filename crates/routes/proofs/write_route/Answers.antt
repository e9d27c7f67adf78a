use Prim.Native.Nat.{◌≤◌}
use lib.ListN.{length}
use native.Mathlib.Omega.{arith}
use Rattle.routes.proofs.Route.{filled_start, filled_size, filled_most, filled_on}
use Rattle.routes.proofs.Ways.{way_most}
use Rattle.routes.proofs.write_route.Goals as goal
use Rattle.routes.proofs.write_route.Goals.{In-loop-place}

-- the entry that is written stands in the buffer
inside : (c : In-loop-place) → c.loop-place.place ≤ length c.loop-place.routes
inside c =
    omega (
      arith,
      filled_most c.loop-place.invariant c.requires.linked,
      filled_size c.loop-place.invariant,
    )

pub overflow_add-end : goal.overflow_add-end
overflow_add-end c =
    omega (
      arith,
      c.size.ensures,
      way_most c.args.n c.args.work.now c.args.v c.requires.linked.one,
      c.well_formed,
    )

pub loop-place-init : goal.loop-place-init
loop-place-init c =
    filled_start c.requires.linked c.requires.v_is_node (omega (arith, c.size.ensures))

pub offset_bounds-routes-place : goal.offset_bounds-routes-place
offset_bounds-routes-place c =
    omega (arith, inside (goal.at.offset_bounds-routes-place c).In-loop-place, c.well_formed)

pub bounds-routes-place : goal.bounds-routes-place
bounds-routes-place c = omega (arith, inside (goal.at.bounds-routes-place c).In-loop-place)

pub loop-place-preserved : goal.loop-place-preserved
loop-place-preserved c =
    filled_on c.loop-place.invariant c.requires.linked _ (omega arith) (omega arith) _
    (rw c.before-in-loop-place.ensures at c.unwrap_or-here.ensures)
