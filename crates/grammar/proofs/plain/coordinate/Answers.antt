use Rattle.std.proofs.Common.{rules, arith, ◌≡◌, ◌∷◌, pos, neg_ℤ, ◌-ℤ◌, to_z, of_z, w32, length, ◌-◌, take, drop}
use Rattle.std.proofs.lemmas.Grind.{common_steps}
use Rattle.grammar.proofs.Lines.{signed_minus}
use Rattle.grammar.proofs.plain.coordinate.Goals as goal

pub returns-in-45 : goal.returns-in-45
returns-in-45 c =
    let e : to_z w32 (of_z w32 (pos 0 -ℤ to_z w32 c.in_ok-size.size)) ≡ neg_ℤ (pos c.in_ok-size.size)
    = search rules in
    let h : c.args.rest.now ≡ 45 ∷ take (length c.args.rest.now - 1) (drop 1 c.args.rest.now)
    = grind (arith, common_steps) in
    rw e (signed_minus h c.in_ok-size.ensures.said)
