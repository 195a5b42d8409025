use native.Mathlib.Omega.{arith}
use mathlib.Core.Path.{sym}
use Rattle.fields.proofs.Forms.{passed_item, passed_item_cut}
use Rattle.fields.proofs.runs.pass_item.Goals as goal
use Rattle.fields.proofs.runs.pass_item.Goals.{then-s-at-via-then-s-at, then-s-at-via-else-s-at+then-s-at-2}

pub returns-then-s-at : goal.returns-then-s-at
returns-then-s-at c =
    elim c.then-s-at.branch [
      | then-s-at-via-then-s-at w ↦ sym (passed_item_cut _ _ _ (omega arith))
      | then-s-at-via-else-s-at+then-s-at-2 w ↦ sym (passed_item_cut _ _ _ (omega arith))
    ]

pub returns : goal.returns
returns c = sym (passed_item _ _ _ (omega arith))
