use Rattle.taking.proofs.Parents.{blank}
use Rattle.taking.proofs.network.Chains.new.Goals as goal

pub returns : goal.returns
returns c = λ n v l. rw blank
