use mathlib.Core.Path.{refl, sym, ◌∙◌}
use Rattle.numbers.proofs.Reports.{telling, then_behind}
use Rattle.rule_calls.proofs.run.Goals as goal

pub returns-in-Ok : goal.returns-in-Ok
returns-in-Ok c =
    let ended = sym c.run-answer.ensures ∙ c.in-Ok.is in
    rw ended
    (telling (rw c.in-Ok.is at c.answer_number-number.ensures)
    (then_behind _ _ _ _ _ 2 refl c.fill.ensures c.fill_key.ensures))

pub returns-in-Err : goal.returns-in-Err
returns-in-Err c =
    let refused = sym c.run-answer.ensures ∙ c.in-Err.is in
    rw (refused, sym c.rule_named.ensures)
    (telling (rw c.in-Err.is at c.answer_number-number.ensures)
    (then_behind _ _ _ _ _ 2 refl c.fill-in-Err.ensures c.fill_behind.ensures))
