use Rattle.rules.proofs.Records.{rule_read}
use Rattle.rules.proofs.rule_in.Goals as goal

pub returns : goal.returns
returns c = rule_read c.args.s.now c.args.at _ _ c.word_of.ensures c.word_of-2.ensures _ c.from.ensures
