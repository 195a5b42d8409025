use Prim.Native.Nat.{◌+◌, ◌-◌}
use mathlib.Core.Path.{◌≡◌}
use Rattle.xdr.specs.Items.{nonzero_at}
use Rattle.xdr.proofs.read_padded.Given as goal

-- What is left of the padding, looked at where the loop stands, gives the whole answer.
abbrev pub invariant-loop-p : goal.invariant-loop-p
invariant-loop-p l = nonzero_at l.s l.p (l.p-end - l.p) ≡ nonzero_at l.s (l.at + l.count) (l.whole - l.count)
