use mathlib.Core.Path.{sym, ap, ◌∙◌}
use Rattle.sflow.specs.Decode.{as_read}
use Rattle.sflow.proofs.Steps.{string_cut}
use Rattle.fields.proofs.Answers.{passed_up}
use Rattle.fields.proofs.Texts.{text_found, text_refused}
use Rattle.fields.proofs.strings.read_string.Goals as goal

pub returns-in_err-length : goal.returns-in_err-length
returns-in_err-length c =
    passed_up _ _ c.from_residual.ensures.1
    ∙ sym (ap as_read (string_cut _ _ _ _ (sym c.read_word.ensures ∙ c.in_err-length.was)))

pub returns-in_err-next : goal.returns-in_err-next
returns-in_err-next c =
    passed_up _ _ c.from_residual-in_err-next.ensures.1
    ∙ sym
    (ap as_read
    (text_refused _ _ _ _ _ _ (sym c.read_word.ensures ∙ c.in_ok-length.was)
    (sym c.pass_octets.ensures ∙ c.in_err-next.was)))

pub returns : goal.returns
returns c =
    sym
    (ap as_read
    (text_found _ _ _ _ _ (sym c.read_word.ensures ∙ c.in_ok-length.was)
    (sym c.pass_octets.ensures ∙ c.in_ok-next.was)))
