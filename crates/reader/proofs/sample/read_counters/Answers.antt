use mathlib.Core.Path.{sym, ap, ◌∙◌}
use Rattle.sflow.specs.Decode.{as_read}
use Rattle.fields.proofs.Answers.{passed_up}
use Rattle.reader.proofs.CounterSamples.{counters_cut, counters_found_is, counters_refused}
use Rattle.reader.proofs.sample.read_counters.Goals as goal

pub returns-in_err-sequence_number : goal.returns-in_err-sequence_number
returns-in_err-sequence_number c =
    passed_up _ _ c.from_residual.ensures.1
    ∙ sym (ap as_read (counters_cut _ _ _ _ (sym c.read_words.ensures ∙ c.in_err-sequence_number.was)))

pub returns-in_err-counters : goal.returns-in_err-counters
returns-in_err-counters c =
    passed_up _ _ c.from_residual-in_err-counters.ensures.1
    ∙ sym
    (ap as_read
    (counters_refused _ _ _ _ (sym c.read_words.ensures ∙ c.in_ok-sequence_number.was) _ _
    (sym c.read_counter_body.ensures ∙ c.in_err-counters.was)))

pub returns : goal.returns
returns c =
    sym
    (ap as_read
    (counters_found_is _ _ _ _ (sym c.read_words.ensures ∙ c.in_ok-sequence_number.was) _ _
    (sym c.read_counter_body.ensures ∙ c.in_ok-counters.was)))
