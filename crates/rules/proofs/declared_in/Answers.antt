use Rattle.rules.proofs.Records.{declared_read}
use Rattle.rules.proofs.declared_in.Goals as goal

pub returns : goal.returns
returns c = declared_read c.args.s.now c.args.at _ c.from.ensures
