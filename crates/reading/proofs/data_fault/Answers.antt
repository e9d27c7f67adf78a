use Rattle.std.proofs.Common.{rules}
use Rattle.meaning.specs.Limits.{and_then}
use Rattle.reading.proofs.data_fault.Goals as goal

pub returns-in_err-too_many : goal.returns-in_err-too_many
unfolding and_then
returns-in_err-too_many c = search rules

pub returns : goal.returns
unfolding and_then
returns c = search rules
