use Rattle.std.proofs.Common.{◌≡◌, ◌*◌, rules, tests, arith, true, false, drop}
use Rattle.std.proofs.lemmas.Iterator.{first_from_Range}
use Rattle.ledger.specs.Ledger.{is_free}
use Rattle.ledger_calls.specs.LedgerTable.{row_in}
use Rattle.ledger_calls.proofs.LedgerTables.{free_at, not_free_at, found_first}
use Rattle.ledger_calls.proofs.first_free.Goals as goal

pub returns : goal.returns
returns c =
    let ns = c.args.table.now in
    found_first is_free ns c.find.result
    (first_from_Range _ _ _ _ (λ i. is_free (row_in (drop (11 * i) ns)) ≡ true) (λ i. is_free (row_in (drop (11 * i) ns)) ≡ false) c.find.ensures.ran
    (λ i q k. free_at ns i (grind (arith, tests)))
    (λ i q k. (search rules, not_free_at ns i (grind (arith, tests)))))
