use Prim.Native.Nat.{◌-◌}
use mathlib.Core.Path.{◌≡◌}
use mathlib.Core.Bool.{false}
use Rattle.rules.specs.Checks.{fine, accepted, any_up_to, first_broken, rule_check}
use Rattle.check_rules.proofs.Gosubs.{nowhere_from, otherwise_from}
use Rattle.check_rules.proofs.first_refusal.Given as goal

abbrev pub invariant-loop-g : goal.invariant-loop-g
invariant-loop-g l = any_up_to (nowhere_from l.s l.n l.own) (l.g - 1) ≡ false

abbrev pub invariant-loop-h : goal.invariant-loop-h
invariant-loop-h l = any_up_to (otherwise_from l.s l.n l.own) (l.h - 1) ≡ false

abbrev pub invariant-rules : goal.invariant-rules
invariant-rules l = (l.found ≡ fine) × (first_broken (rule_check l.s) (l.i - 1) ≡ accepted)
