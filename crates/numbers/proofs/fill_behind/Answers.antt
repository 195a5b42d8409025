use borrow.Author.Rules.{rules}
use Rattle.numbers.proofs.Reports.{behind_none, part_behind}
use mathlib.Core.Path.{sym}
use Rattle.numbers.proofs.fill_behind.Goals as goal

pub returns-then-out-n : goal.returns-then-out-n
returns-then-out-n c = let a = c.args in
    sym (behind_none a.n a.xs.now a.out.now (search rules))

pub returns : goal.returns
returns c = let a = c.args in
    part_behind a.n a.xs.now a.out.now _ c.fill.ensures
