use Rattle.ledger_calls.proofs.LedgerTables.{table_short, table_long}
use Rattle.ledger_calls.proofs.enter.Goals as goal

pub returns-then-table-lt704 : goal.returns-then-table-lt704
returns-then-table-lt704 c = table_short _ c.args.table.now c.if-table-lt704.true

pub returns : goal.returns
returns c = rw (c.answer_number.ensures, c.enter_table.ensures, c.flow_entry-x.ensures) (table_long _ c.args.table.now c.if-table-lt704.false)
