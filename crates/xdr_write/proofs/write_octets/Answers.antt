use native.Mathlib.Omega.{arith}
use mathlib.Core.Path.{sym}
use Rattle.xdr.proofs.Writing.{write_fits, write_full}
use Rattle.xdr_write.proofs.write_octets.Goals as goal
use Rattle.xdr_write.proofs.write_octets.Goals.{then-d-at-via-then-d-at, then-d-at-via-else-d-at+then-d-at-2}

pub returns-then-d-at : goal.returns-then-d-at
returns-then-d-at c =
    elim c.then-d-at.branch [
      | then-d-at-via-then-d-at w ↦ sym (write_full _ _ _ (omega arith))
      | then-d-at-via-else-d-at+then-d-at-2 w ↦ sym (write_full _ _ _ (omega arith))
    ]

pub returns : goal.returns
returns c = rw c.copy.ensures (sym (write_fits _ _ _ (omega arith)))
