use Rattle.record_lines.specs.Lines.{bad_line}
use borrow.Author.Rules.{rules}
use Rattle.record_lines.proofs.bad_text.Goals as goal

pub returns : goal.returns
unfolding bad_line
returns c = (c.ending_line.ensures.0, search rules)
