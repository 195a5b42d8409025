use Rattle.std.proofs.Math.Option.{some}
use Rattle.sample_writer.specs.CounterValues.{counters_value}
use Rattle.writer.proofs.append_counters.Given as goal

abbrev pub ghost-append : goal.ghost-append
ghost-append a =
    let w = a.write in
    some (counters_value w.0 w.1 w.2 w.3 w.4.now)
