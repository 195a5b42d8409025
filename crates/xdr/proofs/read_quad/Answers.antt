use native.Mathlib.Omega.{arith}
use mathlib.Core.Path.{sym}
use Rattle.xdr.proofs.Reading.{quad_whole, quad_missing}
use Rattle.xdr.proofs.read_quad.Goals as goal
use Rattle.xdr.proofs.read_quad.Goals.{then-s-at-via-then-s-at, then-s-at-via-else-s-at+then-s-at-lt16}

pub returns-then-s-at : goal.returns-then-s-at
returns-then-s-at c =
    elim c.then-s-at.branch [
      | then-s-at-via-then-s-at w ↦ sym (quad_missing _ _ (omega arith))
      | then-s-at-via-else-s-at+then-s-at-lt16 w ↦ sym (quad_missing _ _ (omega arith))
    ]

pub returns : goal.returns
returns c =
    rw (c.word_in.ensures, c.word_in-2.ensures, c.word_in-3.ensures, c.word_in-4.ensures)
    (sym (quad_whole _ _ (omega arith)))
