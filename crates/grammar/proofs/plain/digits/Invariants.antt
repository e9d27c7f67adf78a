use Rattle.std.proofs.Common.{◌≡◌}
use Rattle.grammar.proofs.Lines.{Sofar}
use Rattle.grammar.proofs.plain.digits.Given as goal

-- the first len bytes are digits, and value is theirs
abbrev pub invariant-loop-byte : goal.invariant-loop-byte
invariant-loop-byte l = record {
  len_is : l.len ≡ l.byte-index;
  sofar : Sofar l.rest l.len l.value;
}
