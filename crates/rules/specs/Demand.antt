-- Demand 3: for every rule set of n rules that the check accepts, and whatever the attributes of the sample, the machine is never stuck, has at most 4
-- calls open and 16 items queued, and ends within n + n^2 + n^3 + n^4 + n^5 rules; without a Gosub within n.
use Rattle.std.specs.Prelude.{ℕ, ◌+◌, ◌^◌, ◌≤◌, ◌≡◌, ◌⊎◌, ◌≢◌, Bool, true, false, List, [], ◌∷◌, length}
use Rattle.rules.specs.declared.Rule.{Rule}
use Rattle.rules.specs.declared.Declared.{Declared}
use Rattle.rules.specs.declared.Item.{Item}
use Rattle.rules.specs.declared.MachineAnswer.{MachineAnswer}
use Rattle.rules.specs.declared.MachineAnswer.TheVariants.{NoMatch}
use Rattle.rules.specs.Opcodes.{TestFlag, sets, ends, machine_number}
use Rattle.rules.specs.Records.{has_rule}
use Rattle.rules.specs.Machine.{MachineState, Outcome, running, ended, stuck, test_fails, after}

abbrev pub bound : ℕ → ℕ
bound n = n + n ^ 2 + n ^ 3 + n ^ 4 + n ^ 5

-- what is allowed of the machine at any time: it is not stuck, and within the limits, with so many rules come to at most
abbrev pub WithinLimits : ℕ → Outcome → Type 0
WithinLimits most (running s) = (length s.calls ≤ 4) × (length s.items ≤ 16) × (s.rules ≤ most)
WithinLimits most (ended answer items rules) = (length items ≤ 16) × (rules ≤ most)
WithinLimits most stuck = ⊥

-- the machine has ended after k steps
pub record EndsAt (n : ℕ) (rule : ℕ → Rule) (at : ℕ → ℕ) (k : ℕ) : Type 0 where
  pub answer : MachineAnswer
  pub items : List Item
  pub rules : ℕ
  pub ended_so : after n rule at k ≡ ended answer items rules

pub record MachineWithin (n : ℕ) (rule : ℕ → Rule) (at : ℕ → ℕ) (most : ℕ) : Type 0 where
  -- never stuck, at most 4 calls open and 16 items queued, at most so many rules come to, after any number of steps
  pub always : (k : ℕ) → WithinLimits most (after n rule at k)
  -- it ends within so many steps
  pub ends : EndsAt n rule at most

-- none of n rules is a Gosub or a GosubAct
abbrev pub WithoutGosub : ℕ → (ℕ → Rule) → Type 0
WithoutGosub n rule = (i : ℕ) → 1 ≤ i → i ≤ n → ((rule i).opcode ≢ 6) × ((rule i).opcode ≢ 7)

-- ---- document 01's flags

-- what the goto flag and the test flag of an opcode say of the outcome of its action with parameter p: where the machine runs on, the test flag has set the
-- indicator, and with the goto flag it is at rule p; where it has ended, the test flag says so
abbrev pub ByFlags : Bool → TestFlag → ℕ → Outcome → Type 0
ByFlags goto test p (running s) = (test ≡ sets s.testing) × (goto ≡ true → s.number ≡ p)
ByFlags goto test p (ended answer items rules) = test ≡ ends
ByFlags goto test p stuck = Unit {0}

-- ---- what it ends with

-- an outcome is an end with this answer
pub record EndedWith (o : Outcome) (a : MachineAnswer) : Type 0 where
  pub items : List Item
  pub rules : ℕ
  pub ended_so : o ≡ ended a items rules

-- at the rule that a state has come to the machine ends with an answer: the test does not fail, and the opcode is the answer's number; or the test fails,
-- the rule is the last, and the answer is NoMatch
pub record EndsHere (n : ℕ) (rule : ℕ → Rule) (at : ℕ → ℕ) (s : MachineState) (a : MachineAnswer) : Type 0 where
  pub there : has_rule n s.number ≡ true
  pub so :
      ((test_fails rule at s ≡ false) × ((rule s.number).opcode ≡ machine_number a))
      ⊎ ((test_fails rule at s ≡ true) × (s.number ≡ n) × (a ≡ NoMatch))

-- the machine comes to a rule at which it ends with an answer
pub record EndsSomewhere (n : ℕ) (rule : ℕ → Rule) (at : ℕ → ℕ) (a : MachineAnswer) : Type 0 where
  pub steps : ℕ
  pub state : MachineState
  pub came : after n rule at steps ≡ running state
  pub here : EndsHere n rule at state a

-- ---- document 01's home, depth and held

-- the first rule of the subroutine that is open: what its Gosub, the newest call, goes to; 0 in the main part
abbrev pub open_subroutine : (ℕ → Rule) → List ℕ → ℕ
open_subroutine rule [] = 0
open_subroutine rule (g ∷ calls) = (rule g).parameter

-- the rule that a state has come to declares how it is come to: home is the open subroutine, depth counts open calls, held the queued items
pub record AsDeclared (rule : ℕ → Rule) (declared : ℕ → Declared) (s : MachineState) : Type 0 where
  pub home : (declared s.number).home ≡ open_subroutine rule s.calls
  pub depth : (declared s.number).depth ≡ length s.calls
  pub held : (declared s.number).held ≡ length s.items
