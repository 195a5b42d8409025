use borrow.Author.Rules.{rules}
use mathlib.Core.Path.{sym, ◌∙◌}
use Rattle.fields.proofs.Passing.{each_passed}
use Rattle.reader.proofs.datagram.pass_samples.Goals as goal

pub returns : goal.returns
returns c = c.pass_entries.ensures _ (λ at r h. search rules) ∙ sym (each_passed _ _ _)
