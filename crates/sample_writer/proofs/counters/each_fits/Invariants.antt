use Rattle.sample_writer.specs.CounterValues.{WordOrHyper}
use Rattle.sflow.specs.Grammar.{Each, each_fits}
use lib.ListN.{length, drop}
use mathlib.Core.Path.{◌≡◌}
use Rattle.sample_writer.proofs.counters.each_fits.Given as goal

-- The test of the numbers that are left is the test of all.
abbrev pub invariant-loop-width : goal.invariant-loop-width
invariant-loop-width l =
    Each WordOrHyper (drop (length l.yielded) l.widths) × (each_fits (drop (length l.yielded) l.widths) (drop (length l.yielded) l.numbers) ≡ each_fits l.widths l.numbers)
