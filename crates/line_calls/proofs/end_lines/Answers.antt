use mathlib.Core.Path.{sym}
use Rattle.numbers.proofs.Reports.{filled_none}
use Rattle.line_calls.proofs.end_lines.Goals as goal

pub returns-in_default : goal.returns-in_default
returns-in_default c = rw (sym c.end_lines.ensures, c.in_default.is, filled_none)
