use native.Mathlib.Omega.{arith}
use mathlib.Core.Path.{sym}
use Rattle.xdr.proofs.Writing.{padded_length, filled_padded, write_fits_of, write_full_of}
use Rattle.xdr_write.proofs.write_padded.Goals as goal
use Rattle.xdr_write.proofs.write_padded.Goals.{then-d-at-via-then-d-at, then-d-at-via-else-d-at+then-d-at-2}

pub returns-then-d-at : goal.returns-then-d-at
returns-then-d-at c =
    elim c.then-d-at.branch [
      | then-d-at-via-then-d-at w ↦ sym (write_full_of _ _ _ _ (padded_length c.args.xs.now) (omega arith))
      | then-d-at-via-else-d-at+then-d-at-2 w ↦ sym (write_full_of _ _ _ _ (padded_length c.args.xs.now) (omega arith))
    ]

pub returns : goal.returns
returns c =
    let a = c.args in
    let cleared = c.fill.ensures.after (λ y e. e) in
    rw (cleared, c.copy.ensures)
    (rw (filled_padded a.d.now a.at a.xs.now (omega arith))
    (sym (write_fits_of _ _ _ _ (padded_length a.xs.now) (omega arith))))
