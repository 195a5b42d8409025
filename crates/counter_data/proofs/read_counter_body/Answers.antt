use borrow.Author.Rules.{rules}
use mathlib.Core.Path.{refl}
use mathlib.Core.Bool.{true, false}
use mathlib.Core.Logic.{⊎_elim}
use Rattle.xdr.proofs.Reading.{tested}
use mathlib.Core.Path.{sym, ap, ◌∙◌}
use Rattle.sflow.specs.Decode.{as_read}
use Rattle.fields.proofs.Answers.{passed_up}
use Rattle.counter_data.proofs.Bodies.{body_cut, body_bad, body_found, body_refused, version_zero, version_over, version_listed}
use Rattle.counter_data.proofs.read_counter_body.Goals as goal

pub returns-in_err-version : goal.returns-in_err-version
returns-in_err-version c =
    passed_up _ _ c.from_residual.ensures.1
    ∙ sym (ap as_read (body_cut _ _ _ (sym c.read_word.ensures ∙ c.in_err-version.was)))

pub returns-then-not-contains : goal.returns-then-not-contains
returns-then-not-contains c =
    sym
    (ap as_read
    (body_bad _ _ _ _ (sym c.read_word.ensures ∙ c.in_ok-version.was)
    (⊎_elim (λ low. ⊎_elim (λ high. absurd (search rules)) (λ high. version_over _ high.0) (tested c.in_ok-version.version 7 true false _ refl))
    (λ low. version_zero _ low.0) (tested 1 c.in_ok-version.version true false _ refl))))

pub returns-in_err-next : goal.returns-in_err-next
returns-in_err-next c =
    passed_up _ _ c.from_residual-in_err-next.ensures.1
    ∙ sym
    (ap as_read
    (body_refused _ _ _ _ (sym c.read_word.ensures ∙ c.in_ok-version.was)
    (version_listed c.in_ok-version.version (search rules) (search rules)) _ _ (sym c.pass_body.ensures ∙ c.in_err-next.was)))

pub returns : goal.returns
returns c =
    sym
    (ap as_read
    (body_found _ _ _ _ (sym c.read_word.ensures ∙ c.in_ok-version.was) (version_listed c.in_ok-version.version (search rules) (search rules)) _
    (sym c.pass_body.ensures ∙ c.in_ok-next.was)))
