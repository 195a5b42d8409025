use mathlib.Core.Path.{sym, ap, ◌∙◌}
use Rattle.sflow.specs.Decode.{as_read}
use Rattle.sflow.proofs.Steps.{list_cut}
use Rattle.fields.proofs.Answers.{passed_up}
use Rattle.fields.proofs.Compounds.{list_seen, list_unseen}
use Rattle.extended_data.proofs.read_numbers.Goals as goal

pub returns-in_err-count : goal.returns-in_err-count
returns-in_err-count c =
    passed_up _ _ c.from_residual.ensures.1
    ∙ sym (ap as_read (list_cut _ _ _ _ _ (sym c.read_word.ensures ∙ c.in_err-count.was)))

pub returns-in_err-next : goal.returns-in_err-next
returns-in_err-next c =
    passed_up _ _ c.from_residual-in_err-next.ensures.1
    ∙ sym
    (ap as_read
    (list_unseen _ _ _ _ _ (sym c.read_word.ensures ∙ c.in_ok-count.was) _ _ _ (sym c.pass_words.ensures ∙ c.in_err-next.was)))

pub returns : goal.returns
returns c =
    sym
    (ap as_read
    (list_seen _ _ _ _ _ (sym c.read_word.ensures ∙ c.in_ok-count.was) _ (sym c.pass_words.ensures ∙ c.in_ok-next.was)))
