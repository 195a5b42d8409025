use borrow.Author.Rules.{rules}
use Rattle.record_lines.specs.Lines.{last_line}
use Rattle.record_lines.proofs.Puts.{then}
use Rattle.record_lines.proofs.last_text.Goals as goal

pub returns : goal.returns
unfolding last_line
returns c =
    (then (then c.labelled-p1.ensures.0 c.labelled-p2.ensures.0 (search rules)) c.ending_line.ensures.0 (search rules), search rules)
