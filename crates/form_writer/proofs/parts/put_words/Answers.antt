use Rattle.form_writer.proofs.WordRuns.{stored_nothing, words_next}
use Rattle.xdr.proofs.Writing.{wrote_length}
use mathlib.Core.Path.{refl, sym, ◌∙◌}
use native.Mathlib.Omega.{arith}
use Rattle.form_writer.proofs.parts.put_words.Goals as goal

pub loop-w-init : goal.loop-w-init
loop-w-init c = (omega arith, refl, sym (stored_nothing _ _))

pub loop-w-preserved : goal.loop-w-preserved
loop-w-preserved c = (
  omega arith,
  wrote_length _ _ _ _ _ c.write_word.ensures ∙ c.loop-w.invariant.1,
  words_next _ _ _ _ _ _ _ _ c.requires c.loop-w-test.true c.loop-w.invariant.0 c.loop-w.invariant.2
      c.write_word.ensures,
)
