-- The machine of RFC 2722, section 4.4, as document 01 writes it out. It has no limits of its own.
use Rattle.std.specs.Prelude.{ℕ, zero, suc, ◌+◌, List, [], ◌∷◌, Bool, true, false, not, cond, ◌&&◌, ◌||◌, ltb, eqb}
use Rattle.rules.specs.declared.Rule.{Rule}
use Rattle.rules.specs.declared.Item.{Item}
use Rattle.rules.specs.declared.Action.{Action}
use Rattle.rules.specs.declared.Action.TheVariants.{Unknown, Ignore, NoMatch, Count, CountPkt, Return, Gosub, Goto, PushRule, PushPkt, PopTo}
use Rattle.rules.specs.declared.MachineAnswer.{MachineAnswer}
use Rattle.rules.specs.declared.MachineAnswer.TheVariants as Answer
use Rattle.rules.specs.Opcodes.{action_of}
use Rattle.rules.specs.Records.{has_rule}
use Rattle.rules.specs.Bits.{masked}

-- the number of a rule, the test indicator, the return stack and the pattern queue (both the newest first), and how many rules were come to
pub record MachineState : Type 0 where
  pub number : ℕ
  pub testing : Bool
  pub calls : List ℕ
  pub items : List Item
  pub rules : ℕ

-- what the machine is found in: it runs on, has ended, or is stuck
pub data Outcome : Type 0 where
  running : MachineState → Outcome
  -- the answer, the pattern queue for the key, and how many rules were come to
  ended : MachineAnswer → List Item → ℕ → Outcome
  -- no answer
  stuck : Outcome

abbrev pub initial : MachineState
initial = record { number = 1; testing = true; calls = []; items = []; rules = 0 }

-- the test of a rule at its attribute's value; a test of Null always succeeds
unfoldable pub passes : Rule → ℕ → Bool
passes r v = eqb r.attribute 0 || eqb (masked 32 v r.mask) r.value

-- what is queued: the rule's value, or the packet's masked value
abbrev pub rule_item : Rule → Item
rule_item r = record { attribute = r.attribute; mask = r.mask; value = r.value }

abbrev pub packet_item : Rule → ℕ → Item
packet_item r v = record { attribute = r.attribute; mask = r.mask; value = masked 32 v r.mask }

-- goes to a rule with the test indicator, return stack, pattern queue and count of rules
abbrev pub goes : ℕ → Bool → List ℕ → List Item → ℕ → Outcome
goes to t calls items k = running (record { number = to; testing = t; calls = calls; items = items; rules = k })

-- Return goes back behind its Gosub, with the indicator off
abbrev pub comes_back : List ℕ → ℕ → List Item → ℕ → Outcome
comes_back [] p items k = stuck
comes_back (g ∷ calls) p items k = goes (g + p) false calls items k

-- PopTo drops the newest item
abbrev pub drops : ℕ → Bool → List ℕ → List Item → ℕ → Outcome
drops to t calls [] k = stuck
drops to t calls (x ∷ items) k = goes to t calls items k

-- the action of rule number i at its attribute's value v, with k rules come to
unfoldable pub act : Action → Rule → ℕ → ℕ → List ℕ → List Item → ℕ → Outcome
act Unknown r v i calls items k = stuck
act Ignore r v i calls items k = ended Answer.Ignore [] k
act NoMatch r v i calls items k = ended Answer.NoMatch [] k
act Count r v i calls items k = ended Answer.Count (rule_item r ∷ items) k
act CountPkt r v i calls items k = ended Answer.CountPkt (packet_item r v ∷ items) k
act Return r v i calls items k = comes_back calls r.parameter items k
act (Gosub t) r v i calls items k = goes r.parameter t (i ∷ calls) items k
act (Goto t) r v i calls items k = goes r.parameter t calls items k
act (PushRule t) r v i calls items k = goes r.parameter t calls (rule_item r ∷ items) k
act (PushPkt t) r v i calls items k = goes r.parameter t calls (packet_item r v ∷ items) k
act (PopTo t) r v i calls items k = drops r.parameter t calls items k

-- a failed test goes to the next rule, or ends in NoMatch after the last
unfoldable pub fails : ℕ → MachineState → Outcome
fails n s = cond (ltb s.number n) (goes (s.number + 1) true s.calls s.items (s.rules + 1)) (ended Answer.NoMatch [] (s.rules + 1))

-- the indicator is on, and the test of the rule that a state has come to fails
abbrev pub test_fails : (ℕ → Rule) → (ℕ → ℕ) → MachineState → Bool
test_fails rule at s = s.testing && not (passes (rule s.number) (at (rule s.number).attribute))

-- one step of n rules, at the values of the attributes
unfoldable pub step : ℕ → (ℕ → Rule) → (ℕ → ℕ) → MachineState → Outcome
step n rule at s =
    cond (has_rule n s.number)
    (cond (test_fails rule at s)
    (fails n s)
    (act (action_of (rule s.number).opcode) (rule s.number) (at (rule s.number).attribute) s.number s.calls s.items (s.rules + 1)))
    stuck

-- what has ended or is stuck stays so
unfoldable pub advance : ℕ → (ℕ → Rule) → (ℕ → ℕ) → Outcome → Outcome
advance n rule at (running s) = step n rule at s
advance n rule at (ended a items k) = ended a items k
advance n rule at stuck = stuck

-- the machine after k steps
unfoldable pub after : ℕ → (ℕ → Rule) → (ℕ → ℕ) → ℕ → Outcome
after n rule at zero = running initial
after n rule at (suc k) = advance n rule at (after n rule at k)
