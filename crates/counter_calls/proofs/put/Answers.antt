use borrow.Author.Rules.{rules}
use mathlib.Core.Path.{sym}
use Rattle.numbers.proofs.Reports.{behind_none}
use Rattle.counter_calls.proofs.CounterRuns.{stored}
use Rattle.counter_calls.proofs.put.Goals as goal

pub returns-then-out-n : goal.returns-then-out-n
returns-then-out-n c = let a = c.args in sym (behind_none a.n _ a.out.now (search rules))

pub returns : goal.returns
returns c = let a = c.args in stored a.out.now a.n a.v (search rules)
