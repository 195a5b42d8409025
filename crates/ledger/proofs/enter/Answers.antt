use Rattle.ledger.proofs.Tables.{searched, no_row, one_row}
use Rattle.std.proofs.Common.{None, Some, set, sym, ap, ◌∙◌}
use Rattle.ledger.specs.Ledger.{TableEntered}
use Rattle.ledger.proofs.enter.Goals as goal

pub returns-in_default-clause-answer : goal.returns-in_default-clause-answer
returns-in_default-clause-answer c =
    let full = searched c.args.rows.now c.args.x c.row_for.result None c.row_for.ensures c.in_default.is in
    sym (ap (λ (t : TableEntered). t.answer) (no_row c.args.rows.now c.args.x full))

pub returns-in_default-clause-left : goal.returns-in_default-clause-left
returns-in_default-clause-left c =
    let full = searched c.args.rows.now c.args.x c.row_for.result None c.row_for.ensures c.in_default.is in
    sym (ap (λ (t : TableEntered). t.rows) (no_row c.args.rows.now c.args.x full))

pub returns-clause-answer : goal.returns-clause-answer
returns-clause-answer c =
    let found = searched c.args.rows.now c.args.x c.row_for.result (Some c.in-Some.i) c.row_for.ensures c.in-Some.is in
    c.update_row.ensures.answer ∙ sym (ap (λ (t : TableEntered). t.answer) (one_row c.args.rows.now c.args.x c.in-Some.i found))

pub returns-clause-left : goal.returns-clause-left
returns-clause-left c =
    let found = searched c.args.rows.now c.args.x c.row_for.result (Some c.in-Some.i) c.row_for.ensures c.in-Some.is in
    ap (set c.args.rows.now c.in-Some.i) c.update_row.ensures.left
    ∙ sym (ap (λ (t : TableEntered). t.rows) (one_row c.args.rows.now c.args.x c.in-Some.i found))
