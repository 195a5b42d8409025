use Rattle.sample_writer.proofs.FitTests.{other_length}
use Rattle.sample_writer.proofs.counters.each_fits.Goals as goal

pub returns-then-numbers-widths : goal.returns-then-numbers-widths
returns-then-numbers-widths c = other_length c.args.widths.now c.args.numbers.now c.if-numbers-widths.true
