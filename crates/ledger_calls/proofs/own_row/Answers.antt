use Rattle.std.proofs.Common.{◌≡◌, ◌*◌, rules, true, false, drop}
use Rattle.std.proofs.lemmas.Iterator.{first_from_Range}
use Rattle.ledger.specs.Ledger.{source_of, is_of}
use Rattle.ledger_calls.specs.LedgerTable.{row_in}
use Rattle.ledger_calls.proofs.LedgerTables.{found_first}
use Rattle.ledger_calls.proofs.own_row.Goals as goal

pub returns : goal.returns
returns c =
    let ns = c.args.table.now in
    let p = is_of (source_of c.args.x) in
    found_first p ns c.find.result
    (first_from_Range _ _ _ _ (λ i. p (row_in (drop (11 * i) ns)) ≡ true) (λ i. p (row_in (drop (11 * i) ns)) ≡ false) c.find.ensures.ran
    (λ i q k. search rules)
    (λ i q k. (search rules, search rules)))
