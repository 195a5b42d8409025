use mathlib.Core.Path.{sym, ◌∙◌}
use Rattle.fields.proofs.Answers.{passed_up}
use Rattle.fields.proofs.Forms.{passed_run, passed_run_cut}
use Rattle.fields.proofs.runs.pass_run.Goals as goal

pub returns-in_err-next : goal.returns-in_err-next
returns-in_err-next c =
    passed_up _ _ c.from_residual.ensures.1 ∙ sym (passed_run_cut _ _ _ _ (sym c.read_run.ensures ∙ c.in_err-next.was))

pub returns : goal.returns
returns c = sym (passed_run _ _ _ _ (sym c.read_run.ensures ∙ c.in_ok-next.was))
