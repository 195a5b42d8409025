use Rattle.rules.proofs.Flags.{flag_rule, goto_between}
use Rattle.rules.proofs.test_flag.Goals as goal

pub returns : goal.returns
returns c = let o = c.args.opcode in let w = goto_between o c.requires in (flag_rule o w.0 w.1).1
