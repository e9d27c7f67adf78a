use Rattle.reading.proofs.Lines.{started}
use Rattle.reading.proofs.Reader.new.Goals as goal

pub returns : goal.returns
returns c = started c.args.rules c.new.result c.new.ensures
