use mathlib.Core.Path.{sym, ◌∙◌}
use Rattle.xdr.proofs.Octets.{word_number}
use Rattle.xdr.proofs.word_in.Goals as goal

pub returns : goal.returns
returns c = c.word_of.ensures ∙ sym (word_number c.args.s.now c.args.at)
