use Rattle.ledger_calls.proofs.LedgerTables.{row_stored, row_after}
use Rattle.ledger_calls.specs.LedgerTable.{row_numbers}
use Rattle.xdr.specs.Writes.{stored}
use Rattle.ledger.specs.declared.Row.{Row}
use Rattle.std.proofs.Common.{length, arith, ◌+◌, ◌*◌, ◌≤◌, sym, ap, ◌∙◌}
use Rattle.ledger_calls.proofs.enter_row.Goals as goal

pub returns-clause-left : goal.returns-clause-left
returns-clause-left c =
    let ns = c.args.table.now in
    let room : 11 * c.args.i + 11 ≤ length ns = omega arith in
    row_stored ns c.put_row.new.out (11 * c.args.i) c.in_ok-row.row room c.put_row.ensures
    ∙ ap (λ (row : Row). stored ns (11 * c.args.i) (row_numbers row))
    (row_after c.args.x ns (11 * c.args.i) c.row_in.result c.in_ok-row.row c.row_in.ensures (sym c.update.ensures ∙ c.in_ok-row.was))
