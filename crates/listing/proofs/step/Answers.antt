use Rattle.std.proofs.Common.{sym, ◌∙◌}
use Rattle.listing.proofs.Captures.{whole_at, step_short, step_wrong}
use Rattle.listing.proofs.step.Goals as goal

pub list_whole-requires : goal.list_whole-requires
list_whole-requires c =
    let e = sym c.frame_at.ensures ∙ c.in-Ok.is in (e, whole_at c.args.s.now c.args.p.at _ e)

pub returns-in-Err-Short : goal.returns-in-Err-Short
returns-in-Err-Short c =
    step_short _ _ c.args.p _ c.stopped.ensures (cc)

pub returns-in-Err-Wrong : goal.returns-in-Err-Wrong
returns-in-Err-Wrong c =
    step_wrong _ _ c.args.p _ c.stopped-in-Err-Wrong.ensures (cc)
