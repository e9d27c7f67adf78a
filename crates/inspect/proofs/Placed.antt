-- All coordinates are in range, once all points have passed.
use mathlib.Core.Path.{◌≡◌}
use mathlib.Core.Bool.{◌&&◌}
use native.Mathlib.Omega.{arith}
use borrow.Author.Tests.{leb-true}
use Rattle.std.proofs.Common.{Ok}
use Rattle.meaning.specs.Limits.{base, fine}
use Rattle.meaning.specs.Region.{Tables, x_at, y_at}
use Rattle.meaning.specs.Files.{is_coordinate}
use Rattle.meaning.specs.Checks.{first_fault, point_fault}
use Rattle.meaning.specs.declared.Fault.TheVariants.{ValueOutside}
use Rattle.meaning.proofs.Tests.{both, passed}
use Rattle.meaning.proofs.Passed.{all_fine}
use Rattle.inspect.specs.Entries.{Long, AllPlaced}

pub points_placed : (t : Tables) → Long t → first_fault (point_fault base t) t.n ≡ Ok tt → AllPlaced t
unfolding point_fault
points_placed t long h v l =
    let p = passed (is_coordinate base (x_at t v) && is_coordinate base (y_at t v)) fine ValueOutside (all_fine (point_fault base t) t.n h v l) in
    let q = both (is_coordinate base (x_at t v)) (is_coordinate base (y_at t v)) p.0 in
    record { x_room = omega (arith, long.xs); y_room = omega (arith, long.ys); x_near = leb-true _ _ q.0; y_near = leb-true _ _ q.1 }
