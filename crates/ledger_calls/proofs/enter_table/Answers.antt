use Rattle.ledger_calls.proofs.LedgerTables.{inside, full_told, told_there}
use Rattle.ledger_calls.specs.LedgerTable.{rows_in}
use Rattle.ledger.proofs.Tables.{searched}
use Rattle.std.proofs.Common.{None, Some}
use Rattle.ledger_calls.proofs.enter_table.Goals as goal

pub returns-in_default : goal.returns-in_default
returns-in_default c =
    full_told c.args.x c.args.table.now (searched (rows_in 64 c.args.table.now) c.args.x c.row_for.result None c.row_for.ensures c.in_default.is)

pub enter_row-requires : goal.enter_row-requires
enter_row-requires c =
    let found = searched (rows_in 64 c.args.table.now) c.args.x c.row_for.result (Some c.in-Some.i) c.row_for.ensures c.in-Some.is in
    (c.requires, inside c.args.x c.args.table.now c.in-Some.i found)

pub returns : goal.returns
returns c =
    let found = searched (rows_in 64 c.args.table.now) c.args.x c.row_for.result (Some c.in-Some.i) c.row_for.ensures c.in-Some.is in
    rw (c.enter_row.ensures.left, c.enter_row.ensures.answer) (told_there c.args.x c.args.table.now c.in-Some.i found)
