use mathlib.Core.Path.{sym, ◌∙◌}
use Rattle.sample_writer.proofs.Flows.{entries_refused, entries_tested}
use Rattle.sample_writer.proofs.sample.are_entries.Goals as goal

pub returns-in_default : goal.returns-in_default
returns-in_default c = entries_refused _ c.args.extended.now _ _ (sym c.pass_extended.ensures ∙ c.in_default.is)

pub returns : goal.returns
returns c = entries_tested _ c.args.extended.now _ (sym c.pass_extended.ensures ∙ c.in-Ok.is)
