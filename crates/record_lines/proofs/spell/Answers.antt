use Rattle.std.proofs.Common.{length-set, arith, ◌∙◌}
use Rattle.record_lines.proofs.Digits.{spell_next, spell_end}
use Rattle.record_lines.proofs.spell.Goals as goal

pub loop-i-preserved : goal.loop-i-preserved
loop-i-preserved g c = (
  simp length-set c.loop-i.invariant.0,
  omega arith,
  spell_next g.row.BASE _ _ _ _ _ c.loop-i-test.true (omega arith) c.digit.ensures ∙ c.loop-i.invariant.2,
)

pub returns : goal.returns
returns g c = spell_end g.row.BASE _ _ _ _ c.loop-i-test.false ∙ c.loop-i.invariant.2
