use borrow.Author.Rules.{rules}
use lib.ListN.{length-set, replicate}
use mathlib.Core.Path.{refl, ◌∙◌}
use native.Mathlib.Numerals.{add-one}
use native.Mathlib.Nat.{le_antisymm}
use Rattle.numbers.proofs.Reports.{copy_step, copied_whole}
use Rattle.rule_calls.proofs.widened.Goals as goal

pub loop-i-init : goal.loop-i-init
loop-i-init c = (refl, refl)

pub loop-i-preserved : goal.loop-i-preserved
loop-i-preserved c =
    (simp length-set c.loop-i.invariant.0, rw (c.from.ensures, c.loop-i.invariant.1, add-one) (copy_step c.args.xs (replicate 23 0) c.loop-i.i (search rules) (search rules)))

pub returns : goal.returns
returns c =
    (c.loop-i.invariant.1 ∙ rw (le_antisymm c.loop-i.auto.i-end c.loop-i-test.false) (copied_whole c.args.xs (replicate 23 0) 23 (search rules) refl), c.loop-i.invariant.0)
