use borrow.Author.Rules.{rules}
use mathlib.Core.Path.{sym, ap, ◌∙◌}
use Rattle.sflow.specs.Decode.{as_read}
use Rattle.sflow.proofs.Steps.{union_cut}
use Rattle.fields.proofs.Answers.{passed_up, read_told, read_refused}
use Rattle.fields.proofs.Compounds.{enumeration_out, one_to_in, one_to_out}
use Rattle.extended_data.proofs.Segments.{segment_numbers}
use Rattle.extended_data.proofs.read_segment.Goals as goal

pub returns-in_err-kind : goal.returns-in_err-kind
returns-in_err-kind c =
    passed_up _ _ c.from_residual.ensures.1
    ∙ sym (ap as_read (union_cut _ _ _ _ _ _ _ (sym c.read_word.ensures ∙ c.in_err-kind.was)))

pub returns-then-not-contains : goal.returns-then-not-contains
returns-then-not-contains c =
    sym (ap as_read (enumeration_out _ _ _ _ _ _ _ _ (sym c.read_word.ensures ∙ c.in_ok-kind.was) (one_to_out 2 c.in_ok-kind.kind (λ low high. search rules))))

pub returns-in_err-numbers : goal.returns-in_err-numbers
returns-in_err-numbers c =
    passed_up _ _ c.from_residual-in_err-numbers.ensures.1
    ∙ sym
    (ap as_read
    (segment_numbers _ _ _ _ _ (sym c.read_word.ensures ∙ c.in_ok-kind.was) (one_to_in 2 c.in_ok-kind.kind (search rules) (search rules))
    (read_refused _ _ (sym c.read_numbers.ensures ∙ c.in_err-numbers.was))))

pub returns : goal.returns
returns c =
    sym
    (ap as_read
    (segment_numbers _ _ _ _ _ (sym c.read_word.ensures ∙ c.in_ok-kind.was) (one_to_in 2 c.in_ok-kind.kind (search rules) (search rules))
    (read_told _ _ _ (sym c.read_numbers.ensures ∙ c.in_ok-numbers.was))))
