use Rattle.numbers.proofs.Reports.{filled_least}
use Rattle.numbers.proofs.fill.Goals as goal

pub returns : goal.returns
returns c = rw (c.copy_from_slice.ensures.after, c.min-n.ensures) (filled_least c.args.xs.now c.args.out.now)
