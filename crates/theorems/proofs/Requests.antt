-- The requests of document 02 hold: each by laws that are cited. Assumes nothing.
use Rattle.rules.proofs.Flags.{flag_rule, goto_between, actions_flagged, acts_by_flags}
use Rattle.rules.proofs.action_of.Met as ActionOf
use Rattle.theorems.specs.Requests.{FlagRuleShown}

pub flag_rule_shown : FlagRuleShown
flag_rule_shown =
    record {
      rule = flag_rule;
      goto_exactly = λ opcode. (goto_between opcode, λ b. (flag_rule opcode b.0 b.1).0);
      of_actions = actions_flagged;
      of_machine = acts_by_flags;
      action_meets = ActionOf.met;
    }
