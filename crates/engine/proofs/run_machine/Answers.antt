use native.Mathlib.Omega.{arith}
use mathlib.Core.Path.{refl}
use Rattle.rules.specs.Machine.{after}
use Rattle.packet.specs.Attributes.{attribute}
use Rattle.engine.proofs.Follows.{more, live, one_more, runs_on, ends}
use Rattle.engine.proofs.run_machine.Goals as goal

pub loop-answer-init : goal.loop-answer-init
unfolding after
loop-answer-init c = let start = c.new-m.ensures in rw start refl

pub step_once-requires : goal.step_once-requires
step_once-requires c =
    let count = c.rule_count-n.ensures in
    rw count (live c.args.s.now c.requires (attribute c.args.a) c.loop-answer.m c.loop-answer.invariant)

pub returns-in-Some : goal.returns-in-Some
returns-in-Some c =
    let key = c.key_of-key.ensures in
    let step = rw c.rule_count-n.ensures at c.step_once.ensures in
    rw key
    (ends c.args.s.now c.requires (attribute c.args.a) c.loop-answer.m c.loop-answer.invariant c.step_once.result c.step_once.new.m step
    c.in-Some.answer c.in-Some.is)

pub loop-answer-smaller : goal.loop-answer-smaller
loop-answer-smaller c =
    let step = rw c.rule_count-n.ensures at c.step_once.ensures in
    let before = more c.args.s.now c.requires (attribute c.args.a) c.loop-answer.m c.loop-answer.invariant in
    let behind =
    one_more c.args.s.now c.requires (attribute c.args.a) c.loop-answer.m c.loop-answer.invariant c.step_once.result c.step_once.new.m step c.in_default.is in
    omega (arith, before, behind)

pub loop-answer-preserved : goal.loop-answer-preserved
loop-answer-preserved c =
    let step = rw c.rule_count-n.ensures at c.step_once.ensures in
    runs_on c.args.s.now c.requires (attribute c.args.a) c.loop-answer.m c.loop-answer.invariant c.step_once.result c.step_once.new.m step c.in_default.is
