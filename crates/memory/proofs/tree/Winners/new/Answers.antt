use Rattle.memory.proofs.TreeChanges.{bare_all}
use Rattle.memory.proofs.tree.Winners.new.Goals as goal

pub returns : goal.returns
returns c = bare_all
