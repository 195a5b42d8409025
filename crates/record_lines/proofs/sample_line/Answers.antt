use native.Mathlib.Omega.{arith}
use mathlib.Core.Path.{ap}
use Rattle.record_lines.specs.Lines.{sample_line, sample_text_of}
use Rattle.record_lines.proofs.Puts.{puts_as}
use Rattle.record_lines.proofs.sample_line.Goals as goal

pub returns-in-Flow : goal.returns-in-Flow
unfolding sample_line
returns-in-Flow c =
    let x = c.args.x in
    (puts_as (ap (sample_text_of x.offset x.length) c.in-Flow.is) c.sample_text.ensures.0, omega arith)

pub returns-in-Counters : goal.returns-in-Counters
unfolding sample_line
returns-in-Counters c =
    let x = c.args.x in
    (puts_as (ap (sample_text_of x.offset x.length) c.in-Counters.is) c.sample_text-in-Counters.ensures.0, omega arith)
