use borrow.Author.Rules.{rules}
use Rattle.record_lines.proofs.Puts.{then}
use Rattle.record_lines.specs.Lines.{dotted}
use Rattle.record_lines.proofs.dotted_text.Goals as goal

pub returns : goal.returns
unfolding dotted
returns c = (
  then
      (then (then c.number-p1.ensures.0 c.labelled-p2.ensures.0 (search rules)) c.labelled-p3.ensures.0 (search rules))
      c.labelled.ensures.0 (search rules),
  search rules,
)
