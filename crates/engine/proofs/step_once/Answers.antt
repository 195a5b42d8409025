use mathlib.Core.Path.{sym, ◌∙◌, ap}
use Rattle.rules.specs.declared.RuleRecord.{RuleRecord}
use Rattle.rules.specs.Records.{rule_of}
use Rattle.packet.specs.Attributes.{attribute}
use Rattle.engine.specs.EngineStates.{outcome_by}
use Rattle.engine.proofs.EngineStates.{step_failed, step_acted}
use Rattle.engine.proofs.step_once.Goals as goal

pub returns-then-test_fails : goal.returns-then-test_fails
returns-then-test_fails c =
    let a = c.args in
    let read = ap (λ (x : RuleRecord). x.rule) c.record_at.ensures in
    ap (outcome_by (rule_of a.s.now) (attribute a.a)) c.fails.ensures
    ∙ step_failed a.n (rule_of a.s.now) (attribute a.a) a.m.now c.requires
    (rw (← read, ← c.attribute.ensures) (sym c.test_fails.ensures ∙ c.if-test_fails.true))

pub returns : goal.returns
returns c =
    let a = c.args in
    let read = ap (λ (x : RuleRecord). x.rule) c.record_at.ensures in
    ap (outcome_by (rule_of a.s.now) (attribute a.a)) c.acts.ensures
    ∙ rw (c.action_of.ensures, read)
    (step_acted a.n (rule_of a.s.now) (attribute a.a) a.m.now c.requires
    (rw (← read, ← c.attribute.ensures) (sym c.test_fails.ensures ∙ c.if-test_fails.false)))
