use borrow.Author.Rules.{rules}
use mathlib.Core.Path.{refl, sym}
use Rattle.numbers.proofs.Reports.{behind_none, part_behind, then_behind}
use Rattle.sample_calls.proofs.fill_counters.Goals as goal

pub returns-then-out-le7 : goal.returns-then-out-le7
returns-then-out-le7 c = then_behind _ _ _ _ _ 7 refl c.fill.ensures (sym (behind_none 7 _ _ (search rules)))

pub returns : goal.returns
returns c = then_behind _ _ _ _ _ 7 refl c.fill.ensures (part_behind 7 _ _ _ c.fill_values.ensures)
