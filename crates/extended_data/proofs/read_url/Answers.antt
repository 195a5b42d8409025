use borrow.Author.Rules.{rules}
use mathlib.Core.Path.{sym, ap, ◌∙◌}
use Rattle.sflow.specs.Decode.{as_read}
use Rattle.sflow.proofs.Steps.{union_cut}
use Rattle.fields.proofs.Answers.{passed_up, read_told, read_refused}
use Rattle.fields.proofs.Compounds.{enumeration_out, one_to_in, one_to_out}
use Rattle.extended_data.proofs.Users.{url_string}
use Rattle.extended_data.proofs.read_url.Goals as goal

pub returns-in_err-direction : goal.returns-in_err-direction
returns-in_err-direction c =
    passed_up _ _ c.from_residual.ensures.1
    ∙ sym (ap as_read (union_cut _ _ _ _ _ _ _ (sym c.read_word.ensures ∙ c.in_err-direction.was)))

pub returns-then-not-contains : goal.returns-then-not-contains
returns-then-not-contains c =
    sym (ap as_read (enumeration_out _ _ _ _ _ _ _ _ (sym c.read_word.ensures ∙ c.in_ok-direction.was) (one_to_out 2 c.in_ok-direction.direction (λ low high. search rules))))

pub returns-in_err-url : goal.returns-in_err-url
returns-in_err-url c =
    passed_up _ _ c.from_residual-in_err-url.ensures.1
    ∙ sym
    (ap as_read
    (url_string _ _ _ _ _ (sym c.read_word.ensures ∙ c.in_ok-direction.was) (one_to_in 2 c.in_ok-direction.direction (search rules) (search rules))
    (read_refused _ _ (sym c.read_string.ensures ∙ c.in_err-url.was))))

pub returns : goal.returns
returns c =
    sym
    (ap as_read
    (url_string _ _ _ _ _ (sym c.read_word.ensures ∙ c.in_ok-direction.was) (one_to_in 2 c.in_ok-direction.direction (search rules) (search rules))
    (read_told _ _ _ (sym c.read_string.ensures ∙ c.in_ok-url.was))))
