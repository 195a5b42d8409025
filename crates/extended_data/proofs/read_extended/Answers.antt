use borrow.Author.Rules.{rules}
use mathlib.Core.Path.{sym, ap, ◌∙◌}
use Rattle.sflow.specs.Decode.{as_read}
use Rattle.sflow.proofs.Steps.{union_cut}
use Rattle.fields.proofs.Answers.{passed_up}
use Rattle.extended_data.proofs.DataTypes.{switch_kind, router_kind, gateway_kind, user_kind, url_kind, other_kind}
use Rattle.extended_data.proofs.read_extended.Goals as goal

pub returns-in_err-kind : goal.returns-in_err-kind
returns-in_err-kind c =
    passed_up _ _ c.from_residual.ensures.1
    ∙ sym (ap as_read (union_cut _ _ _ _ _ _ _ (sym c.read_word.ensures ∙ c.in_err-kind.was)))

pub returns-in-1 : goal.returns-in-1
returns-in-1 c = c.read_switch.ensures ∙ sym (ap as_read (switch_kind _ _ _ _ (sym c.read_word.ensures ∙ c.in_ok-kind.was) c.in-1.is))

pub returns-in-2 : goal.returns-in-2
returns-in-2 c = c.read_router.ensures ∙ sym (ap as_read (router_kind _ _ _ _ (sym c.read_word.ensures ∙ c.in_ok-kind.was) c.in-2.is))

pub returns-in-3 : goal.returns-in-3
returns-in-3 c = c.read_gateway.ensures ∙ sym (ap as_read (gateway_kind _ _ _ _ (sym c.read_word.ensures ∙ c.in_ok-kind.was) c.in-3.is))

pub returns-in-4 : goal.returns-in-4
returns-in-4 c = c.read_user.ensures ∙ sym (ap as_read (user_kind _ _ _ _ (sym c.read_word.ensures ∙ c.in_ok-kind.was) c.in-4.is))

pub returns-in-5 : goal.returns-in-5
returns-in-5 c = c.read_url.ensures ∙ sym (ap as_read (url_kind _ _ _ _ (sym c.read_word.ensures ∙ c.in_ok-kind.was) c.in-5.is))

pub returns-in_default : goal.returns-in_default
returns-in_default c =
    sym
    (ap as_read
    (other_kind _ _ _ _ (sym c.read_word.ensures ∙ c.in_ok-kind.was) (search rules) (search rules) (search rules) (search rules)
    (search rules)))
