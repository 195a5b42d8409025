use Rattle.std.proofs.Common.{arith}
use Rattle.record_lines.proofs.Digits.{spelled}
use Rattle.record_lines.proofs.hex_word.Goals as goal

pub returns : goal.returns
returns c = (rw c.from.ensures at (spelled 16 _ _ _ 8 _ c.spell.ensures), omega arith)
