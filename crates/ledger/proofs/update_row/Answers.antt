use Rattle.ledger.proofs.Answers.{refused_row}
use Rattle.std.proofs.Common.{sym, ◌∙◌}
use Rattle.ledger.proofs.update_row.Goals as goal

pub returns-in_err-row-clause-left : goal.returns-in_err-row-clause-left
returns-in_err-row-clause-left c = refused_row c.args.row.now c.args.x c.in_err-row.field-0.0 (sym c.update.ensures ∙ c.in_err-row.was)
