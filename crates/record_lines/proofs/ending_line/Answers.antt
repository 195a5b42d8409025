use borrow.Author.Rules.{rules}
use Rattle.record_lines.proofs.Puts.{then}
use Rattle.record_lines.specs.Lines.{ending}
use Rattle.record_lines.proofs.ending_line.Goals as goal

pub returns : goal.returns
unfolding ending
returns c = (then c.labelled-next.ensures.0 c.put.ensures (search rules), search rules)
