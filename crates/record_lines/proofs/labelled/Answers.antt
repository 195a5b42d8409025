use borrow.Author.Rules.{rules}
use Rattle.record_lines.proofs.Puts.{then}
use Rattle.record_lines.proofs.labelled.Goals as goal

pub returns : goal.returns
returns c = (then c.put-next.ensures c.number.ensures.0 (search rules), search rules)
