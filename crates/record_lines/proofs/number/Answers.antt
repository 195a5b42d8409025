use borrow.Author.Rules.{rules}
use mathlib.Core.Path.{sym}
use Rattle.record_lines.proofs.Digits.{spelled}
use Rattle.record_lines.proofs.Puts.{puts_as}
use Rattle.record_lines.proofs.number.Goals as goal

pub returns : goal.returns
returns c = (puts_as (sym c.width-k.ensures.0) (spelled 10 _ _ _ _ _ c.spell.ensures), search rules)
