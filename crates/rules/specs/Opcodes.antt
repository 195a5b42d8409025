-- What opcodes do, and their flags (RFC 2722, section 4.4; document 01, "Rule sets"): a table each.
use Rattle.std.specs.Prelude.{ℕ, ◌%◌, ◌≤◌, ◌≡◌, List, [], ◌∷◌, Bool, true, false, cond, get_or, eqb}
use Rattle.rules.specs.declared.Action.{Action}
use Rattle.rules.specs.declared.Action.TheVariants.{Unknown, Ignore, NoMatch, Count, CountPkt, Return, Gosub, Goto, PushRule, PushPkt, PopTo}
use Rattle.rules.specs.declared.MachineAnswer.{MachineAnswer}
use Rattle.rules.specs.declared.MachineAnswer.TheVariants as Answer

-- the actions of opcodes 0 to 17, with the test flag of those that have a goto flag; an Assign, 8 or 9, only goes to its parameter
abbrev pub actions : List Action
actions =
    Unknown
    ∷ Ignore ∷ NoMatch ∷ Count ∷ CountPkt
    ∷ Return
    ∷ Gosub true ∷ Gosub false
    ∷ Goto true ∷ Goto false
    ∷ Goto true ∷ Goto false
    ∷ PushRule true ∷ PushRule false
    ∷ PushPkt true ∷ PushPkt false
    ∷ PopTo true ∷ PopTo false
    ∷ []

unfoldable pub action_of : ℕ → Action
action_of opcode = get_or actions opcode Unknown

-- the number of each answer: the opcode whose name it is
abbrev pub machine_number : MachineAnswer → ℕ
machine_number Answer.Ignore = 1
machine_number Answer.NoMatch = 2
machine_number Answer.Count = 3
machine_number Answer.CountPkt = 4

abbrev pub is_return : Action → Bool
is_return Unknown = false
is_return Ignore = false
is_return NoMatch = false
is_return Count = false
is_return CountPkt = false
is_return Return = true
is_return (Gosub t) = false
is_return (Goto t) = false
is_return (PushRule t) = false
is_return (PushPkt t) = false
is_return (PopTo t) = false

abbrev pub is_gosub : Action → Bool
is_gosub Unknown = false
is_gosub Ignore = false
is_gosub NoMatch = false
is_gosub Count = false
is_gosub CountPkt = false
is_gosub Return = false
is_gosub (Gosub t) = true
is_gosub (Goto t) = false
is_gosub (PushRule t) = false
is_gosub (PushPkt t) = false
is_gosub (PopTo t) = false

-- the goto flag: the action goes to the rule that its parameter names
abbrev pub goto_flag : Action → Bool
goto_flag Unknown = false
goto_flag Ignore = false
goto_flag NoMatch = false
goto_flag Count = false
goto_flag CountPkt = false
goto_flag Return = false
goto_flag (Gosub t) = true
goto_flag (Goto t) = true
goto_flag (PushRule t) = true
goto_flag (PushPkt t) = true
goto_flag (PopTo t) = true

-- the test flag: what the action sets the test indicator to; nothing where the machine does not go on
pub data TestFlag : Type 0 where
  sets : Bool → TestFlag
  ends : TestFlag

abbrev pub on : TestFlag
on = sets true

abbrev pub off : TestFlag
off = sets false

abbrev pub test_flag : Action → TestFlag
test_flag Unknown = ends
test_flag Ignore = ends
test_flag NoMatch = ends
test_flag Count = ends
test_flag CountPkt = ends
test_flag Return = off
test_flag (Gosub t) = sets t
test_flag (Goto t) = sets t
test_flag (PushRule t) = sets t
test_flag (PushPkt t) = sets t
test_flag (PopTo t) = sets t

-- ---- document 01's table of flags

pub record Flags : Type 0 where
  pub opcode : ℕ
  pub goto : Bool
  pub test : TestFlag

abbrev pub flagged : ℕ → Bool → TestFlag → Flags
flagged opcode goto test = record { opcode = opcode; goto = goto; test = test }

-- opcode, goto flag, test flag
abbrev pub flags : List Flags
flags =
    flagged 1 false ends  -- Ignore
    ∷ flagged 2 false ends  -- NoMatch
    ∷ flagged 3 false ends  -- Count
    ∷ flagged 4 false ends  -- CountPkt
    ∷ flagged 5 false off  -- Return
    ∷ flagged 6 true on  -- Gosub
    ∷ flagged 7 true off  -- GosubAct
    ∷ flagged 8 true on  -- Assign
    ∷ flagged 9 true off  -- AssignAct
    ∷ flagged 10 true on  -- Goto
    ∷ flagged 11 true off  -- GotoAct
    ∷ flagged 12 true on  -- PushRuleTo
    ∷ flagged 13 true off  -- PushRuleToAct
    ∷ flagged 14 true on  -- PushPktTo
    ∷ flagged 15 true off  -- PushPktToAct
    ∷ flagged 16 true on  -- PopTo
    ∷ flagged 17 true off  -- PopToAct
    ∷ []

-- the flags that a table has for an opcode; one that is not in it goes nowhere and sets nothing
abbrev pub flags_in : List Flags → ℕ → Flags
flags_in [] opcode = flagged opcode false ends
flags_in (f ∷ l) opcode = cond (eqb f.opcode opcode) f (flags_in l opcode)

unfoldable pub flags_of : ℕ → Flags
flags_of opcode = flags_in flags opcode

-- the flag rule: from opcode 6 up the goto flag is always set, and the test flag is on exactly for even numbers
abbrev pub FlagRule : Type 0
FlagRule = (opcode : ℕ) → 6 ≤ opcode → opcode ≤ 17 → ((flags_of opcode).goto ≡ true) × ((flags_of opcode).test ≡ sets (eqb (opcode % 2) 0))
