use borrow.Author.Rules.{rules}
use Rattle.record_lines.proofs.Puts.{then}
use Rattle.record_lines.specs.Lines.{agent_line}
use Rattle.record_lines.proofs.agent_line.Goals as goal

pub returns : goal.returns
unfolding agent_line
returns c = (
  then
      (then (then c.agent_start-p1.ensures.0 c.agent_text-p2.ensures.0 (search rules)) c.labelled-p3.ensures.0
      (search rules)) c.ending_line.ensures.0 (search rules),
  search rules,
)
