use mathlib.Core.Path.{sym, ap, ◌∙◌}
use Rattle.sflow.specs.Decode.{as_read}
use Rattle.fields.proofs.Answers.{passed_up, read_told, read_refused}
use Rattle.extended_data.proofs.Routers.{router_masks, router_refused}
use Rattle.extended_data.proofs.read_router.Goals as goal

pub returns-in_err-nexthop : goal.returns-in_err-nexthop
returns-in_err-nexthop c =
    passed_up _ _ c.from_residual.ensures.1
    ∙ sym (ap as_read (router_refused _ _ _ (sym c.read_address.ensures ∙ c.in_err-nexthop.was)))

pub returns-in_err-src_mask : goal.returns-in_err-src_mask
returns-in_err-src_mask c =
    passed_up _ _ c.from_residual-in_err-src_mask.ensures.1
    ∙ sym
    (ap as_read
    (router_masks _ _ _ _ _ (sym c.read_address.ensures ∙ c.in_ok-nexthop.was)
    (read_refused _ _ (sym c.read_words.ensures ∙ c.in_err-src_mask.was))))

pub returns : goal.returns
returns c =
    sym
    (ap as_read
    (router_masks _ _ _ _ _ (sym c.read_address.ensures ∙ c.in_ok-nexthop.was)
    (read_told _ _ _ (sym c.read_words.ensures ∙ c.in_ok-src_mask.was))))
