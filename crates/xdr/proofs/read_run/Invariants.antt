use mathlib.Core.Path.{◌≡◌}
use lib.ListN.{drop}
use Rattle.xdr.specs.Items.{items_at}
use Rattle.xdr.proofs.read_run.Given as goal

-- The items that are left, read where the loop stands, give the whole answer.
abbrev pub invariant-loop-width : goal.invariant-loop-width
invariant-loop-width l = items_at l.s l.at (drop l.width-index l.widths) ≡ items_at l.s l.first l.widths
