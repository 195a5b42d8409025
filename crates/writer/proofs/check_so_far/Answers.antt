use lib.ListN.{take}
use Rattle.writer.proofs.SoFar.{so_far_limit, so_far_long, so_far_refused, so_far_found, head_few}
use Rattle.sflow.proofs.Slices.{octets_take}
use mathlib.Core.Path.{sym, ◌∙◌}
use native.Mathlib.Omega.{arith}
use Rattle.writer.proofs.check_so_far.Goals as goal

pub returns-then-limit-length : goal.returns-then-limit-length
returns-then-limit-length c = so_far_long _ _ _ (sym c.limit_allowed.ensures ∙ c.if-not-limit_allowed.false) c.if-limit-length.true

pub returns-in_default : goal.returns-in_default
returns-in_default c =
    so_far_refused _ _ _ (sym c.limit_allowed.ensures ∙ c.if-not-limit_allowed.false) c.if-limit-length.false _ _
    (sym c.read.ensures ∙ c.in_default.is)

pub overflow_add-result : goal.overflow_add-result
overflow_add-result c =
    let f = head_few (take c.args.length c.args.d.now) (octets_take c.args.length c.args.d.now (λ i. (c.type_inv.d i).fits)) _ (sym c.read.ensures ∙ c.in-Ok.is) in
    omega arith

pub returns : goal.returns
returns c =
    so_far_found _ _ _ (sym c.limit_allowed.ensures ∙ c.if-not-limit_allowed.false) c.if-limit-length.false _
    (sym c.read.ensures ∙ c.in-Ok.is)

pub returns-then-not-limit_allowed : goal.returns-then-not-limit_allowed
returns-then-not-limit_allowed c = so_far_limit _ _ _ (sym c.limit_allowed.ensures ∙ c.if-not-limit_allowed.true)
