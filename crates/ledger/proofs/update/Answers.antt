use Rattle.std.proofs.Common.{rules}
use Rattle.ledger.specs.Ledger.{updated}
use Rattle.ledger.proofs.update.Goals as goal

pub returns-then-not-row : goal.returns-then-not-row
unfolding updated
returns-then-not-row c = search rules

pub returns-then-not-same_source : goal.returns-then-not-same_source
unfolding updated
returns-then-not-same_source c = search rules

pub returns : goal.returns
unfolding updated
returns c = search rules
