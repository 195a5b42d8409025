use mathlib.Core.Path.{sym, ◌∙◌}
use native.Mathlib.Omega.{arith}
use Rattle.sample_writer.proofs.NumberRuns.{head_put, numbers_bad, numbers_full, numbers_done}
use Rattle.sample_writer.proofs.FitTests.{widths_are, fits_told}
use Rattle.sample_writer.proofs.counters.write_numbers.Goals as goal

pub each_fits-requires : goal.each_fits-requires
each_fits-requires c =
    widths_are c.args.widths.now c.requires.0

pub returns-then-d-total : goal.returns-then-d-total
returns-then-d-total c =
    numbers_full c.args.d.now c.args.head.now c.args.widths.now c.args.numbers.now c.args.total
    c.requires.1 c.requires.2 (sym c.each_fits.ensures ∙ c.if-not-each_fits.false) c.if-d-total.true

pub put_numbers-requires : goal.put_numbers-requires
put_numbers-requires c =
    let p = head_put _ c.args.head.now _ _ c.requires.1 (omega arith) c.write_words.ensures in
    (widths_are c.args.widths.now c.requires.0, fits_told c.args.widths.now c.args.numbers.now (sym c.each_fits.ensures ∙ c.if-not-each_fits.false), omega (arith, p.long))

pub returns-then-not-each_fits : goal.returns-then-not-each_fits
returns-then-not-each_fits c =
    numbers_bad c.args.d.now _ c.args.widths.now c.args.numbers.now (sym c.each_fits.ensures ∙ c.if-not-each_fits.true)

pub returns : goal.returns
returns c =
    numbers_done c.args.d.now c.args.head.now c.args.widths.now c.args.numbers.now c.args.total
    c.requires.1 c.requires.2 _ _ (sym c.each_fits.ensures ∙ c.if-not-each_fits.false) c.if-d-total.false
    (head_put _ c.args.head.now _ _ c.requires.1 (omega arith) c.write_words.ensures)
    c.put_numbers.ensures
