use borrow.Author.Rules.{rules}
use Rattle.record_lines.proofs.Puts.{then}
use Rattle.record_lines.specs.Lines.{source_text}
use Rattle.record_lines.proofs.source_text.Goals as goal

pub returns : goal.returns
unfolding source_text
returns c = (then c.labelled-next.ensures.0 c.labelled.ensures.0 (search rules), search rules)
