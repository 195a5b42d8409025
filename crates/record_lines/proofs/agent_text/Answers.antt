use borrow.Author.Rules.{rules}
use borrow.Author.Tests.{eq-eqb, ne_eqb}
use native.Mathlib.Omega.{arith}
use Rattle.record_lines.specs.Lines.{agent_text}
use Rattle.record_lines.proofs.Puts.{puts_as}
use Rattle.record_lines.proofs.agent_text.Goals as goal

pub returns-then-agent-eq1 : goal.returns-then-agent-eq1
unfolding agent_text
returns-then-agent-eq1 c = (puts_as (simp (eq-eqb _ _ c.if-agent-eq1.true)) c.dotted_text.ensures.0, search rules)

pub returns : goal.returns
unfolding agent_text
returns c = (puts_as (simp (ne_eqb _ _ c.if-agent-eq1.false)) c.hex_text.ensures.0, omega arith)
