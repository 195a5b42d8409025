-- What the requests of document 02 promise, each with its sentences.
use Rattle.std.specs.Prelude.{ℕ, ◌≤◌, ◌≡◌, ◌↔◌, true, List}
use Rattle.rules.specs.declared.Rule.{Rule}
use Rattle.rules.specs.declared.Item.{Item}
use Rattle.rules.specs.Opcodes.{action_of, goto_flag, test_flag, flags_of, FlagRule}
use Rattle.rules.specs.Machine.{act}
use Rattle.rules.specs.Demand.{ByFlags}
use Rattle.rules.proofs.action_of.Statement as ActionOf

-- W-203. "From opcode 6 up the goto flag is always set and the test flag is on exactly for even numbers. However it is done now, work it out that way and
-- prove it against document 01's table for 6 to 17. No answer and no contract changes."
pub record FlagRuleShown : Type 2 where
  -- document 01's table keeps the rule for 6 to 17
  pub rule : FlagRule
  -- and has a goto flag exactly there
  pub goto_exactly : (opcode : ℕ) → ((flags_of opcode).goto ≡ true) ↔ ((6 ≤ opcode) × (opcode ≤ 17))
  -- the action of every opcode has the table's flags
  pub of_actions : (opcode : ℕ) → (goto_flag (action_of opcode) ≡ (flags_of opcode).goto) × (test_flag (action_of opcode) ≡ (flags_of opcode).test)
  -- and the machine sets its indicator and goes on by them
  pub of_machine : (opcode : ℕ) (r : Rule) (v i : ℕ) (calls : List ℕ) (items : List Item) (k : ℕ)
      → ByFlags (flags_of opcode).goto (flags_of opcode).test r.parameter (act (action_of opcode) r v i calls items k)
  -- the function that gives an opcode's action, and works its flags out by the rule, meets the contract that it had before
  pub action_meets : {M : Type 1} → ActionOf.statement M
