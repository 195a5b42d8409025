use Rattle.std.proofs.Common.{rules}
use Rattle.ledger.specs.Ledger.{same_source}
use Rattle.ledger.proofs.same_source.Goals as goal

pub returns-then-row-x : goal.returns-then-row-x
unfolding same_source
returns-then-row-x c = search rules

pub returns-else-row-x : goal.returns-else-row-x
unfolding same_source
returns-else-row-x c = search rules
