use native.Mathlib.Omega.{arith}
use mathlib.Core.Path.{sym}
use Rattle.xdr.proofs.Reading.{word_whole, word_missing}
use Rattle.xdr.proofs.read_word.Goals as goal
use Rattle.xdr.proofs.read_word.Goals.{then-s-at-via-then-s-at, then-s-at-via-else-s-at+then-s-at-lt4}

pub returns-then-s-at : goal.returns-then-s-at
returns-then-s-at c =
    elim c.then-s-at.branch [
      | then-s-at-via-then-s-at w ↦ sym (word_missing _ _ (omega arith))
      | then-s-at-via-else-s-at+then-s-at-lt4 w ↦ sym (word_missing _ _ (omega arith))
    ]

pub returns : goal.returns
returns c = rw c.word_in.ensures (sym (word_whole _ _ (omega arith)))
