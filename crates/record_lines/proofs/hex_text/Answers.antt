use borrow.Author.Rules.{rules}
use Rattle.record_lines.proofs.Puts.{then}
use Rattle.record_lines.specs.Lines.{hex_text}
use Rattle.record_lines.proofs.hex_text.Goals as goal

pub returns : goal.returns
unfolding hex_text
returns c = (
  then
      (then (then c.hex_word-p1.ensures.0 c.hex_word-p2.ensures.0 (search rules)) c.hex_word-p3.ensures.0
      (search rules)) c.hex_word.ensures.0 (search rules),
  search rules,
)
