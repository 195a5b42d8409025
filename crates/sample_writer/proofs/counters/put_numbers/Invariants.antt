use lib.ListN.{length}
use Rattle.sample_writer.proofs.NumberRuns.{Putting}
use Rattle.sample_writer.proofs.counters.put_numbers.Given as goal

-- The numbers that are stored and those that are left make the whole.
abbrev pub invariant-loop-width : goal.invariant-loop-width
invariant-loop-width l = Putting l.initial.d l.at l.widths l.numbers l.d (length l.yielded) l.p
