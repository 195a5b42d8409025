use borrow.Author.Rules.{rules}
use Rattle.record_lines.proofs.Puts.{then}
use Rattle.record_lines.proofs.agent_start.Goals as goal

pub returns : goal.returns
returns c = (then c.number-next.ensures.0 c.put.ensures (search rules), search rules)
