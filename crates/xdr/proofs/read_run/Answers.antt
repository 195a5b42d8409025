use borrow.Author.Rules.{rules}
use native.Mathlib.Omega.{arith}
use mathlib.Core.Path.{sym, ◌∙◌}
use Rattle.xdr.proofs.Runs.{items_end, items_step, items_stop}
use Rattle.xdr.proofs.read_run.Goals as goal
use Rattle.xdr.proofs.read_run.Goals.{then-s-at-via-then-s-at, then-s-at-via-else-s-at+then-s-at-2}

pub returns-then-s-at : goal.returns-then-s-at
returns-then-s-at c =
    elim c.then-s-at.branch [
      | then-s-at-via-then-s-at w ↦
          sym (items_stop _ _ c.loop-width.width-index c.args.widths.now (search rules) (omega arith)) ∙ c.loop-width.invariant
      | then-s-at-via-else-s-at+then-s-at-2 w ↦
          sym (items_stop _ _ c.loop-width.width-index c.args.widths.now (search rules) (omega arith)) ∙ c.loop-width.invariant
    ]

pub loop-width-preserved : goal.loop-width-preserved
loop-width-preserved c =
    sym (items_step _ _ c.loop-width.width-index c.args.widths.now (search rules) (omega arith)) ∙ c.loop-width.invariant

pub returns : goal.returns
returns c = sym (items_end _ _ c.loop-width.width-index c.args.widths.now c.loop-width-test.false) ∙ c.loop-width.invariant
