use mathlib.Core.Path.{◌≡◌}
use Prim.Native.Nat.{◌*◌}
use native.Mathlib.Omega.{arith}
use lib.ListN.{replicate}
use Rattle.meaning.specs.Search.{over}
use Rattle.memory.specs.Aim.{NoneTaken}
use Rattle.memory.proofs.Columns.{aims_same}
use Rattle.taking.proofs.Reaching.{open_taken}
use Rattle.taking.proofs.Starting.{none_taken, start_tree, started}
use Rattle.taking.proofs.start.Goals as goal
use Rattle.taking.proofs.start.Goals.{After-clear}

-- the four quarters are 0
cleared : (c : After-clear)
    → c.clear.new.work ≡ over (replicate (4 * c.args.r.now.n) 0) c.args.work.now
cleared c = rw c.nodes-n.ensures.count at c.clear.ensures

-- no node is taken
none : (c : After-clear) → NoneTaken c.args.r.now.n c.clear.new.work
none c =
    none_taken c.args.r.now.n c.args.work.now c.clear.new.work c.requires.q_in_bounds.0 (cleared c)

pub aim-rival-requires-clause-aims : goal.aim-rival-requires-clause-aims
aim-rival-requires-clause-aims c =
    c.gather.ensures _ (none (goal.at.aim-rival-requires-clause-aims c).After-clear)

pub replay-requires-clause-but_for_v : goal.replay-requires-clause-but_for_v
replay-requires-clause-but_for_v c =
    rw c.nodes-n.ensures.count
    (start_tree c.args.r.now.n c.args.work.now c.clear.new.work c.requires.q_in_bounds.0
    (cleared (goal.at.replay-requires-clause-but_for_v c).After-clear) c.args.q _ c.aim-rival.result
    c.requires.q_in_bounds.1 c.requires.bare)

pub returns-clause-guided : goal.returns-clause-guided
returns-clause-guided c =
    let n = c.nodes-n.ensures.count in
    let bare = none (goal.at.returns-clause-guided c).After-clear in
    let room = c.clear.auto.work in
    let same = open_taken c.args.r.now.n c.args.q _ c.aim-rival.result c.clear.new.work
    c.requires.q_in_bounds.1 (omega arith)
    (bare c.args.q c.requires.q_in_bounds.1) (omega (arith, c.aim-rival.ensures)) in
    record {
      aims = aims_same {w = c.clear.new.work} c.nodes-n.ensures.sound.ground
          (c.gather.ensures _ bare) (rw n same);
      tree = rw (← n) c.replay.ensures;
    }

pub returns-clause-live : goal.returns-clause-live
returns-clause-live c =
    rw c.nodes-n.ensures.count
    (started _ c.args.q c.args.work.now c.clear.new.work c.requires.q_in_bounds.0
    c.requires.q_in_bounds.1 c.nodes-n.ensures.sound.ground
    (cleared (goal.at.returns-clause-live c).After-clear) c.aim-rival.result c.aim-rival.ensures)
