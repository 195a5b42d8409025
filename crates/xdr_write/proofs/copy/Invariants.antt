use mathlib.Core.Path.{◌≡◌}
use lib.ListN.{length}
use lib.Seq.{paste}
use Rattle.xdr_write.proofs.copy.Given as goal

-- The buffer is as it was, with the first i octets copied into it.
abbrev pub invariant-loop-i : goal.invariant-loop-i
invariant-loop-i l = (length l.d ≡ length l.initial.d) × (l.d ≡ paste l.initial.d l.at l.xs l.i)
