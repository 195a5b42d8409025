use Rattle.line_calls.proofs.ListedLines.{lines_refused, lines_listed}
use borrow.Author.Rules.{rules}
use Rattle.line_calls.proofs.list.Goals as goal

pub returns-then-state-lt6 : goal.returns-then-state-lt6
returns-then-state-lt6 c = let a = c.args in lines_refused a.capture.now a.output.now a.state.now (search rules)

pub returns : goal.returns
returns c = let a = c.args in
    lines_listed a.capture.now a.output.now a.state.now
    c.if-state-lt6.false
    c.state_in-begin.ensures
    c.list_records-place.ensures c.put_place.ensures
