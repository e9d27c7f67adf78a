use Rattle.std.proofs.Common.{◌≡◌, ◌^◌, ◌≤◌, ◌<◌, length, drop}
use Rattle.meaning.specs.Text.{number as number_of, digits}
use Rattle.text.proofs.number.Given as goal

-- the digits before b are read, and value is theirs: the number is what the rest makes of it
abbrev pub invariant-loop-b : goal.invariant-loop-b
invariant-loop-b l = record {
  few : length l.f ≤ 9;
  small : l.value < 10 ^ l.b-index;
  sofar : number_of l.f ≡ digits l.value (drop l.b-index l.f);
}
