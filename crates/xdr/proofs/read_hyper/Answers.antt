use native.Mathlib.Omega.{arith}
use mathlib.Core.Path.{sym}
use Rattle.xdr.proofs.Octets.{number_join}
use Rattle.xdr.proofs.Reading.{hyper_whole, hyper_missing}
use Rattle.xdr.proofs.read_hyper.Goals as goal
use Rattle.xdr.proofs.read_hyper.Goals.{then-s-at-via-then-s-at, then-s-at-via-else-s-at+then-s-at-lt8}

pub returns-then-s-at : goal.returns-then-s-at
returns-then-s-at c =
    elim c.then-s-at.branch [
      | then-s-at-via-then-s-at w ↦ sym (hyper_missing _ _ (omega arith))
      | then-s-at-via-else-s-at+then-s-at-lt8 w ↦ sym (hyper_missing _ _ (omega arith))
    ]

pub returns : goal.returns
returns c = rw (c.word_in-high.ensures, c.word_in-low.ensures, ← number_join c.args.s.now c.args.at 4 4) (sym (hyper_whole _ _ (omega arith)))
