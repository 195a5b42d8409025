use borrow.Author.Tests.{eq-eqb, ne_eqb, lt-ltb, le-ltb}
use mathlib.Core.Path.{sym, ◌∙◌}
use Rattle.fields.proofs.Answers.{passed_up}
use Rattle.reader.specs.Datagrams.{step_at}
use Rattle.reader.proofs.datagram.next_sample.Goals as goal

pub returns-then-c-s : goal.returns-then-c-s
unfolding step_at
returns-then-c-s c = rw (eq-eqb _ 0 c.if-c-eq0.true, lt-ltb _ _ c.if-c-s.true)

pub returns-then-c-eq0 : goal.returns-then-c-eq0
unfolding step_at
returns-then-c-eq0 c = rw (eq-eqb _ 0 c.if-c-eq0.true, le-ltb _ _ c.if-c-s.false)

pub returns-in_err-sample : goal.returns-in_err-sample
unfolding step_at
returns-in_err-sample c =
    passed_up _ _ c.from_residual.ensures.1 ∙ rw (ne_eqb _ 0 c.if-c-eq0.false, sym c.read_sample.ensures ∙ c.in_err-sample.was)

pub returns : goal.returns
unfolding step_at
returns c = rw (ne_eqb _ 0 c.if-c-eq0.false, sym c.read_sample.ensures ∙ c.in_ok-sample.was)
