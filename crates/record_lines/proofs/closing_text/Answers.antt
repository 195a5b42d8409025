use Rattle.record_lines.proofs.Puts.{then}
use borrow.Author.Rules.{rules}
use Rattle.record_lines.proofs.closing_text.Goals as goal

pub returns-then-bad : goal.returns-then-bad
returns-then-bad c =
    rw c.if-bad.true (then c.bad_text-next.ensures.0 c.last_text.ensures.0 (search rules))
