use Prim.Native.Nat.{◌-◌}
use mathlib.Core.Path.{◌≡◌}
use Rattle.rules.specs.Records.{rule_count, rule_of}
use Rattle.rules.specs.Machine.{running, after}
use Rattle.rules.specs.Demand.{bound}
use Rattle.packet.specs.Attributes.{attribute}
use Rattle.engine.specs.EngineStates.{state_of}
use Rattle.engine.proofs.run_machine.Given as goal

abbrev pub invariant-loop-answer : goal.invariant-loop-answer
invariant-loop-answer l = running (state_of (rule_of l.s) (attribute l.a) l.m) ≡ after (rule_count l.s) (rule_of l.s) (attribute l.a) l.m.rules

abbrev pub decreases-loop-answer : goal.decreases-loop-answer
decreases-loop-answer l = bound (rule_count l.s) - l.m.rules
