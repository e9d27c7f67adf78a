use native.Mathlib.Omega.{arith}
use Rattle.memory.proofs.TreeTop.{top_none, top_node}
use Rattle.memory.proofs.tree.Winners.first_open.Goals as goal

pub returns-then-top-eq0 : goal.returns-then-top-eq0
returns-then-top-eq0 c = λ w I.
    let tree = rw (← c.self.view_is) at I in
    top_none tree c.requires (omega (arith, tree.room)) c.if-top-eq0.true

pub returns : goal.returns
returns c = λ w I.
    let tree = rw (← c.self.view_is) at I in
    top_node tree c.requires (omega (arith, tree.room)) c.if-top-eq0.false
