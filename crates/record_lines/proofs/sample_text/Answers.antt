use borrow.Author.Rules.{rules}
use Rattle.record_lines.specs.Lines.{sample_text}
use Rattle.record_lines.proofs.Puts.{then}
use Rattle.record_lines.proofs.sample_text.Goals as goal

pub returns : goal.returns
unfolding sample_text
returns c = (
  then
      (then (then c.labelled-p1.ensures.0 c.labelled-p2.ensures.0 (search rules)) c.source_text-p3.ensures.0
      (search rules)) c.ending_line.ensures.0 (search rules),
  search rules,
)
