-- What the engine's state stands for. A pattern queue of rule numbers stands for the items that these rules queue.
use Rattle.std.specs.Prelude.{ℕ, ◌+◌, ◌^◌, ◌≤◌, ◌<◌, ◌≡◌, List, [], ◌∷◌, map, Bool, true, false, cond, length, get_or, drop, ltb, Option, Some, None}
use Rattle.rules.specs.declared.Item.{Item}
use Rattle.rules.specs.declared.Rule.{Rule}
use Rattle.rules.specs.declared.Action.{Action}
use Rattle.rules.specs.declared.Action.TheVariants.{Unknown, Ignore, NoMatch, Count, CountPkt, Return, Gosub, Goto, PushRule, PushPkt, PopTo}
use Rattle.rules.specs.declared.MachineAnswer.{MachineAnswer}
use Rattle.rules.specs.declared.MachineAnswer.TheVariants as Answer
use Rattle.rules.specs.Opcodes.{action_of}
use Rattle.rules.specs.Machine.{MachineState, Outcome, running, ended, rule_item, packet_item}
use Rattle.rules.specs.Room.{Room}
use Rattle.engine.specs.declared.EngineState.{EngineState}

-- an action queues the packet's masked value, and not the rule's
abbrev pub queues_packet : Action → Bool
queues_packet Unknown = false
queues_packet Ignore = false
queues_packet NoMatch = false
queues_packet Count = false
queues_packet CountPkt = true
queues_packet Return = false
queues_packet (Gosub t) = false
queues_packet (Goto t) = false
queues_packet (PushRule t) = false
queues_packet (PushPkt t) = true
queues_packet (PopTo t) = false

-- the item that a rule queues
unfoldable pub item_of : (ℕ → Rule) → (ℕ → ℕ) → ℕ → Item
item_of rule at i = cond (queues_packet (action_of (rule i).opcode)) (packet_item (rule i) (at (rule i).attribute)) (rule_item (rule i))

abbrev pub queued : (ℕ → Rule) → (ℕ → ℕ) → List ℕ → List Item
queued rule at queue = map (item_of rule at) queue

abbrev pub state_of : (ℕ → Rule) → (ℕ → ℕ) → EngineState → MachineState
state_of rule at m =
    record { number = m.number; testing = m.testing; calls = m.calls; items = queued rule at m.queue; rules = m.rules }

-- a step's answer, if the machine ends with one, and the state that it leaves
abbrev pub Step : Type 0
Step = Option MachineAnswer × EngineState

-- without an answer the machine runs on
abbrev pub outcome_by : (ℕ → Rule) → (ℕ → ℕ) → Step → Outcome
outcome_by rule at (None, m) = running (state_of rule at m)
outcome_by rule at (Some a, m) = ended a (queued rule at m.queue) m.rules

abbrev pub initial_state : EngineState
initial_state = record { number = 1; testing = true; calls = []; queue = []; rules = 0 }

-- ---- the steps of the state, as the code makes them, behind the count of the rule come to

-- the state with these calls open and these rules' items queued
abbrev pub holding : EngineState → List ℕ → List ℕ → EngineState
holding m calls queue = record { number = m.number; testing = m.testing; calls = calls; queue = queue; rules = m.rules }

abbrev pub goes_of : EngineState → ℕ → Bool → Step
goes_of m to t = (None, record { number = to; testing = t; calls = m.calls; queue = m.queue; rules = m.rules })

abbrev pub ends_of : MachineAnswer → EngineState → List ℕ → Step
ends_of a m queue = (Some a, holding m m.calls queue)

-- what an action with a parameter makes of the state
unfoldable pub acted_of : Action → ℕ → EngineState → Step
acted_of Unknown p m = (None, m)
acted_of Ignore p m = ends_of Answer.Ignore m []
acted_of NoMatch p m = ends_of Answer.NoMatch m []
acted_of Count p m = ends_of Answer.Count m (m.number ∷ m.queue)
acted_of CountPkt p m = ends_of Answer.CountPkt m (m.number ∷ m.queue)
acted_of Return p m = goes_of (holding m (drop 1 m.calls) m.queue) (get_or m.calls 0 0 + p) false
acted_of (Gosub t) p m = goes_of (holding m (m.number ∷ m.calls) m.queue) p t
acted_of (Goto t) p m = goes_of m p t
acted_of (PushRule t) p m = goes_of (holding m m.calls (m.number ∷ m.queue)) p t
acted_of (PushPkt t) p m = goes_of (holding m m.calls (m.number ∷ m.queue)) p t
acted_of (PopTo t) p m = goes_of (holding m m.calls (drop 1 m.queue)) p t

-- what a failed test makes of it, of n rules
unfoldable pub failed_of : ℕ → EngineState → Step
failed_of n m = cond (ltb m.number n) (goes_of m (m.number + 1) true) (ends_of Answer.NoMatch m [])

-- ---- what holds while it runs

-- of n rules, what the action of the present one takes is there
pub record Live (n : ℕ) (rule : ℕ → Rule) (m : EngineState) : Type 0 where
  pub low : 1 ≤ m.number
  pub high : m.number ≤ n
  pub rules : m.rules < 2 ^ 60
  pub room : Room (action_of (rule m.number).opcode) (length m.calls) (length m.queue)
  pub back : action_of (rule m.number).opcode ≡ Return → get_or m.calls 0 0 + (rule m.number).parameter ≤ 255
