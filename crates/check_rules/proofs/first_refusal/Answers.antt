use Rattle.std.proofs.Common.{rules}
use native.Mathlib.Omega.{arith}
use mathlib.Core.Path.{◌≡◌, refl, sym, ◌∙◌, ap}
use mathlib.Core.Bool.{false}
use Rattle.std.specs.Prelude.{Err}
use Rattle.rules.proofs.Tests.{some_false}
use Rattle.rules.specs.declared.CheckRefusal.TheVariants.{Target, Successor}
use Rattle.rules.specs.Checks.{fine, named, first_broken, rule_check, any_up_to}
use Rattle.rules.specs.Opcodes.{is_return}
use Rattle.check_rules.proofs.Gosubs.{nowhere_from, otherwise_from, none_more, some_here, none_of}
use Rattle.check_rules.proofs.RuleChecks.{Kept, no_error, no_return, comes_back, goes_on, breaks_alone, breaks_target, breaks_successor}
use Rattle.check_rules.proofs.Scan.{one_more, found, none_broken, named_so}
use Rattle.check_rules.proofs.first_refusal.Goals as goal
use Rattle.check_rules.proofs.first_refusal.Goals.{else-rules-test, then-rules-test+then-is_err, then-rules-test+else-is_err+then-is_return+then-loop-g-test+then-comes_back_nowhere, then-rules-test+else-is_err+then-is_return+else-loop-g-test+then-loop-h-test+then-comes_back_otherwise, then-rules-test+else-is_err+then-is_err-2, then-is_return+else-loop-g-test+else-loop-h-test, else-is_return}

pub rules-init : goal.rules-init
unfolding first_broken
rules-init c = (refl, refl)

pub comes_back_otherwise-requires : goal.comes_back_otherwise-requires
comes_back_otherwise-requires c =
    let a = c.args.s.now in
    let n = c.rule_count-n.result in
    let none : any_up_to (nowhere_from a n c.record_at-own.result) n ≡ false = none_of (nowhere_from a n c.record_at-own.result) n c.loop-g.g c.loop-g.invariant (omega arith) in
    rw (← c.rule_count-n.ensures) (some_false (nowhere_from a n c.record_at-own.result) n none c.loop-h.h (omega arith) (omega arith))

pub loop-h-preserved : goal.loop-h-preserved
loop-h-preserved c =
    none_more (otherwise_from c.args.s.now c.rule_count-n.result c.record_at-own.result) c.loop-h.h (omega arith) c.loop-h.invariant
    (sym c.comes_back_otherwise.ensures ∙ c.if-comes_back_otherwise.false)

pub rules-preserved : goal.rules-preserved
rules-preserved c =
    let s = c.args.s.now in
    let n = c.rule_count-n.result in
    let own = c.record_at-own.result in
    let i = c.rules.i in
    let behind : Kept s n own =
    elim c.if-is_return.branch [
      | then-is_return+else-loop-g-test+else-loop-h-test w ↦
          comes_back s n own (none_of (nowhere_from s n own) n w.loop-g.g w.loop-g.invariant (omega arith))
          (none_of (otherwise_from s n own) n w.loop-h.h w.loop-h.invariant (omega arith))
      | else-is_return w ↦ no_return s n own (ap is_return (sym c.action_of-action.ensures) ∙ sym c.is_return.ensures ∙ w.if-is_return.false)
    ] in
    let fine_here : c.check_rest-found.result ≡ fine = no_error _ (sym c.is_err-in-rules.ensures.value ∙ c.if-is_err-2.false) in (
      fine_here,
      one_more (rule_check s) i (omega arith) c.rules.invariant.1
          (goes_on s n own i c.rule_count-n.ensures c.record_at-own.ensures
          (sym c.check_record-found.ensures ∙ no_error _ (sym c.is_err.ensures.value ∙ c.if-is_err.false)) behind.0
          ∙ sym c.check_rest-found.ensures
          ∙ fine_here),
    )

-- how the outer loop is left: by its end, or by one of the four breaks
pub returns : goal.returns
returns c =
    let s = c.args.s.now in
    let n = c.rule_count-n.result in
    let i = c.rules.i in
    let before = c.rules.invariant.1 in
    let out : named c.rules-test.found c.rules-test.rule ≡ first_broken (rule_check s) n = elim c.rules-test.branch [
      | else-rules-test w ↦ rw (w.found-is ∙ c.rules.invariant.0) (none_broken (rule_check s) n i c.rules-test.rule before (omega arith))
      | then-rules-test+then-is_err w ↦
          let error = sym w.is_err.ensures.value ∙ w.if-is_err.true in
          rw (w.found-is, w.rule-is) (found (rule_check s) i (omega arith) before n (omega arith) _ error
          (breaks_alone s n w.record_at-own.result i c.rule_count-n.ensures w.record_at-own.ensures _ error w.check_record-found.ensures))
      | then-rules-test+else-is_err+then-is_return+then-loop-g-test+then-comes_back_nowhere w ↦
          let own = w.record_at-own.result in
          let alone = sym w.check_record-found.ensures ∙ no_error _ (sym w.is_err.ensures.value ∙ w.if-is_err.false) in
          let returns = ap is_return (sym w.action_of-action.ensures) ∙ sym w.is_return.ensures ∙ w.if-is_return.true in
          let some = some_here (nowhere_from s n own) w.loop-g.g (omega arith) n (omega arith) (sym w.comes_back_nowhere.ensures ∙ w.if-comes_back_nowhere.true) in
          rw (w.found-is, w.rule-is) (found (rule_check s) i (omega arith) before n (omega arith) (Err Target) refl
          (breaks_target s n own i c.rule_count-n.ensures w.record_at-own.ensures alone returns some))
      | then-rules-test+else-is_err+then-is_return+else-loop-g-test+then-loop-h-test+then-comes_back_otherwise w ↦
          let own = w.record_at-own.result in
          let alone = sym w.check_record-found.ensures ∙ no_error _ (sym w.is_err.ensures.value ∙ w.if-is_err.false) in
          let returns = ap is_return (sym w.action_of-action.ensures) ∙ sym w.is_return.ensures ∙ w.if-is_return.true in
          let none = none_of (nowhere_from s n own) n w.loop-g.g w.loop-g.invariant (omega arith) in
          let some = some_here (otherwise_from s n own) w.loop-h.h (omega arith) n (omega arith) (sym w.comes_back_otherwise.ensures ∙ w.if-comes_back_otherwise.true) in
          rw (w.found-is, w.rule-is) (found (rule_check s) i (omega arith) before n (omega arith) (Err Successor) refl
          (breaks_successor s n own i c.rule_count-n.ensures w.record_at-own.ensures alone returns none some))
      | then-rules-test+else-is_err+then-is_err-2 w ↦
          let own = w.record_at-own.result in
          let alone = sym w.check_record-found.ensures ∙ no_error _ (sym w.is_err.ensures.value ∙ w.if-is_err.false) in
          let behind : Kept s n own =
          elim w.if-is_return.branch [
            | then-is_return+else-loop-g-test+else-loop-h-test w' ↦
                comes_back s n own (none_of (nowhere_from s n own) n w'.loop-g.g w'.loop-g.invariant (omega arith))
                (none_of (otherwise_from s n own) n w'.loop-h.h w'.loop-h.invariant (omega arith))
            | else-is_return w' ↦ no_return s n own (ap is_return (sym w.action_of-action.ensures) ∙ sym w.is_return.ensures ∙ w'.if-is_return.false)
          ] in
          rw (w.found-is, w.rule-is) (found (rule_check s) i (omega arith) before n (omega arith) _ (sym w.is_err-in-rules.ensures.value ∙ w.if-is_err-2.true)
          (goes_on s n own i c.rule_count-n.ensures w.record_at-own.ensures alone behind.0 ∙ sym w.check_rest-found.ensures))
    ] in
    named_so c.rules-test.found c.rules-test.rule c.map_err.result _ (λ why y h. search rules) c.map_err.ensures.cases ∙ rw c.rule_count-n.ensures at out
