use Rattle.std.proofs.Common.{None, Some, refl}
use Rattle.record_lines.specs.declared.Listed.TheVariants.{Accepted, Refused}
use Rattle.listing.proofs.Captures.{step_whole}
use Rattle.listing.proofs.list_whole.Goals as goal

pub returns-in-None : goal.returns-in-None
returns-in-None c = step_whole _ _ _ c.args.p _ c.args.n _ _ _ None c.stopped.ensures c.requires.0 refl refl c.list_part.ensures c.in-None.is

pub returns-in-Some-Refused : goal.returns-in-Some-Refused
returns-in-Some-Refused c =
    step_whole _ _ _ c.args.p _ c.args.n _ _ _ (Some (Refused c.in-Some-Refused.out)) (rw c.count_refused.ensures) c.requires.0 refl refl
    c.list_part.ensures (cc)

pub returns-in-Some-Accepted : goal.returns-in-Some-Accepted
returns-in-Some-Accepted c =
    step_whole _ _ _ c.args.p _ c.args.n _ _ _ (Some (Accepted c.in-Some-Accepted.out c.in-Some-Accepted.count)) (rw c.count_accepted.ensures)
    c.requires.0 refl refl c.list_part.ensures (cc)
