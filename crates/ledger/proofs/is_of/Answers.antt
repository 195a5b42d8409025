use Rattle.std.proofs.Common.{rules}
use Rattle.ledger.specs.Ledger.{same_source}
use Rattle.ledger.proofs.is_of.Goals as goal

pub returns-then-row : goal.returns-then-row
unfolding same_source
returns-then-row c = search rules
