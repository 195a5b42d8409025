use mathlib.Core.Path.{sym, ◌∙◌}
use Rattle.fields.proofs.Answers.{passed_up}
use Rattle.reader.proofs.Wholes.{answer_head_refused, answer_samples_refused, answer_trailing, answer_whole}
use Rattle.reader.proofs.datagram.read.Goals as goal

pub returns-in_err-head : goal.returns-in_err-head
returns-in_err-head c =
    passed_up _ _ c.from_residual.ensures.1 ∙ sym (answer_head_refused _ _ (sym c.read_head.ensures ∙ c.in_err-head.was))

pub returns-in_err-end : goal.returns-in_err-end
returns-in_err-end c =
    passed_up _ _ c.from_residual-in_err-end.ensures.1
    ∙ sym
    (answer_samples_refused _ _ (sym c.read_head.ensures ∙ c.in_ok-head.was) _
    (sym c.pass_samples.ensures ∙ c.in_err-end.was))

pub returns-then-end-s : goal.returns-then-end-s
returns-then-end-s c =
    sym
    (answer_trailing _ _ (sym c.read_head.ensures ∙ c.in_ok-head.was) _
    (sym c.pass_samples.ensures ∙ c.in_ok-end.was) c.if-end-s.true)

pub returns : goal.returns
returns c =
    sym
    (answer_whole _ _ (sym c.read_head.ensures ∙ c.in_ok-head.was) _
    (sym c.pass_samples.ensures ∙ c.in_ok-end.was) c.if-end-s.false)
