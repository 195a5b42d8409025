use mathlib.Core.Path.{refl, sym, ◌∙◌}
use native.Mathlib.Omega.{arith}
use Rattle.rules.specs.declared.Action.TheVariants.{Gosub, Goto, PushRule, PushPkt, PopTo}
use Rattle.rules.specs.Opcodes.{action_of, flags_of}
use Rattle.rules.proofs.Flags.{goto_between, with_flag, unknown}
use Rattle.rules.proofs.action_of.Goals as goal

pub test_flag-test-requires : goal.test_flag-test-requires
test_flag-test-requires c = sym c.goto_flag.ensures ∙ c.if-goto_flag.true

pub returns-in-6 : goal.returns-in-6
unfolding action_of flags_of
returns-in-6 c =
    with_flag Gosub 6 8 refl c.args.opcode (sym c.goto_flag.ensures ∙ c.if-goto_flag.true)
    (omega arith) (omega arith) _ c.test_flag-test.ensures

pub returns-in-12 : goal.returns-in-12
unfolding action_of flags_of
returns-in-12 c =
    with_flag PushRule 12 14 refl c.args.opcode (sym c.goto_flag.ensures ∙ c.if-goto_flag.true)
    (omega arith) (omega arith) _ c.test_flag-test.ensures

pub returns-in-14 : goal.returns-in-14
unfolding action_of flags_of
returns-in-14 c =
    with_flag PushPkt 14 16 refl c.args.opcode (sym c.goto_flag.ensures ∙ c.if-goto_flag.true)
    (omega arith) (omega arith) _ c.test_flag-test.ensures

pub returns-in-16 : goal.returns-in-16
unfolding action_of flags_of
returns-in-16 c =
    with_flag PopTo 16 18 refl c.args.opcode (sym c.goto_flag.ensures ∙ c.if-goto_flag.true)
    (omega arith) (omega arith) _ c.test_flag-test.ensures

pub returns-in_default : goal.returns-in_default
returns-in_default c = absurd (omega (arith, goto_between _ (sym c.goto_flag.ensures ∙ c.if-goto_flag.true)))

pub returns-in_default-2 : goal.returns-in_default-2
unfolding action_of flags_of
returns-in_default-2 c =
    with_flag Goto 8 12 refl c.args.opcode (sym c.goto_flag.ensures ∙ c.if-goto_flag.true)
    (omega arith) (omega arith) _ c.test_flag-test.ensures

pub returns-in_default-3 : goal.returns-in_default-3
returns-in_default-3 c =
    absurd (omega (
      arith,
      goto_between _ (sym c.goto_flag.ensures ∙ c.if-goto_flag.true),
    ))

pub returns-in-1 : goal.returns-in-1
unfolding action_of
returns-in-1 c = rw c.in-1.is

pub returns-in-2 : goal.returns-in-2
unfolding action_of
returns-in-2 c = rw c.in-2.is

pub returns-in-3 : goal.returns-in-3
unfolding action_of
returns-in-3 c = rw c.in-3.is

pub returns-in-4 : goal.returns-in-4
unfolding action_of
returns-in-4 c = rw c.in-4.is

pub returns-in-5 : goal.returns-in-5
unfolding action_of
returns-in-5 c = rw c.in-5.is

pub returns-in_default-opcode : goal.returns-in_default-opcode
returns-in_default-opcode c =
    sym
    (unknown _ (sym c.goto_flag.ensures ∙ c.if-goto_flag.false)
    c.in_default-opcode.in_default-opcode-own.rest.0.0.0.0.1 c.in_default-opcode.in_default-opcode-own.rest.0.0.0.1 c.in_default-opcode.in_default-opcode-own.rest.0.0.1 c.in_default-opcode.in_default-opcode-own.rest.0.1 c.in_default-opcode.in_default-opcode-own.rest.1)
