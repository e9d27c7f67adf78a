use Rattle.std.proofs.Common.{arith, ◌≡◌, length-take, get_or-take}
use Rattle.text.proofs.Laws.{tail_all}
use Rattle.grammar.proofs.Lines.{sofar_more, sofar_ended}
use Rattle.grammar.proofs.plain.digits.Goals as goal

pub loop-byte-preserved : goal.loop-byte-preserved
loop-byte-preserved c =
    let cut = length-take c.min-most.result c.args.rest.now in
    let same = get_or-take c.min-most.result c.args.rest.now c.loop-byte.byte-index 0 (omega arith) in
    let len : c.loop-byte.len ≡ c.loop-byte.byte-index = c.loop-byte.invariant.len_is in
    record {
      len_is = omega arith;
      sofar = sofar_more c.loop-byte.invariant.sofar c.from.result (omega arith)
          (omega (arith, c.from.ensures)) (rw len (omega (arith, c.from.ensures)));
    }

pub returns-in-len1-up : goal.returns-in-len1-up
returns-in-len1-up c =
    sofar_ended c.loop-byte.invariant.sofar (tail_all c.args.rest.now c.loop-byte.len)
    (omega (arith, length-take c.min-most.result c.args.rest.now)) (omega arith) (omega arith) c.if-byte-end.true
