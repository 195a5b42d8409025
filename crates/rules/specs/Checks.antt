-- The check of a rule set (document 01, "Rule sets"): 30, then rules in number order, each from 31 up; the first that breaks one is named.
use Rattle.std.specs.Prelude.{ℕ, zero, suc, ◌+◌, ◌-◌, ◌%◌, ◌≤◌, ◌<◌, ◌≡◌, List, [], ◌∷◌, Bool, true, false, not, cond, ◌&&◌, ◌||◌, length, ltb, leb, eqb, Result, Ok, Err, ⊤}
use Rattle.rules.specs.declared.Rule.{Rule}
use Rattle.rules.specs.declared.Declared.{Declared}
use Rattle.rules.specs.declared.Action.{Action}
use Rattle.rules.specs.declared.Action.TheVariants.{Unknown, Ignore, NoMatch, Count, CountPkt, Return, Gosub, Goto, PushRule, PushPkt, PopTo}
use Rattle.rules.specs.declared.CheckRefusal.{CheckRefusal}
use Rattle.rules.specs.declared.CheckRefusal.TheVariants.{Length, Mark, Attribute, Opcode, Limits, FirstRule, ReturnInMain, Target, Queue, Successor}
use Rattle.rules.specs.declared.CheckRefused.{CheckRefused}
use Rattle.rules.specs.Opcodes.{action_of, is_return, is_gosub, goto_flag}
use Rattle.rules.specs.Records.{rule_count, record_of, rule_of, declared_of}

-- the number of each refusal
abbrev pub check_number : CheckRefusal → ℕ
check_number Length = 30
check_number Mark = 31
check_number Attribute = 32
check_number Opcode = 33
check_number Limits = 34
check_number FirstRule = 35
check_number ReturnInMain = 36
check_number Target = 37
check_number Queue = 38
check_number Successor = 39

-- ---- one test behind another

-- what one rule was found to be: fine, or what it breaks
abbrev pub RuleCheck : Type 0
RuleCheck = Result ⊤ CheckRefusal

abbrev pub fine : RuleCheck
fine = Ok tt

-- a refusal where a test says so, else what the next tests find
abbrev pub or_breaks : Bool → CheckRefusal → RuleCheck → RuleCheck
or_breaks b why next = cond b (Err why) next

abbrev pub unless_broken : RuleCheck → RuleCheck → RuleCheck
unless_broken (Ok x) next = next
unless_broken (Err why) next = Err why

-- some number from 1 to n passes a test
abbrev pub any_up_to : (ℕ → Bool) → ℕ → Bool
any_up_to f zero = false
any_up_to f (suc k) = any_up_to f k || f (suc k)

-- ---- 31 to 33, by a record alone

abbrev pub member : ℕ → List ℕ → Bool
member a [] = false
member a (x ∷ xs) = eqb a x || member a xs

-- Null; SourceInterface, SourcePeerType, SourcePeerAddress, SourceTransType, SourceTransAddress and the same of Dest, by the numbers of RFC 2722, Appendix C
abbrev pub attributes : List ℕ
attributes = 0 ∷ 4 ∷ 8 ∷ 9 ∷ 11 ∷ 12 ∷ 14 ∷ 18 ∷ 19 ∷ 21 ∷ 22 ∷ []

unfoldable pub known : ℕ → Bool
known a = member a attributes

-- an opcode that is not 1 to 17, or 8 or 9
abbrev pub bad_opcode : ℕ → Bool
bad_opcode op = eqb op 0 || ltb 17 op || eqb op 8 || eqb op 9

unfoldable pub form_of : ℕ → ℕ → ℕ → RuleCheck
form_of mark attribute opcode =
    or_breaks (not (eqb mark 21109)) Mark (or_breaks (not (known attribute)) Attribute (or_breaks (bad_opcode opcode) Opcode fine))

-- ---- 34 to 37, by the rule alone

-- a rule declares otherwise than this
abbrev pub differs : Declared → ℕ → ℕ → ℕ → Bool
differs w home depth held = not (eqb w.home home && eqb w.depth depth && eqb w.held held)

-- with a goto flag: the parameter is not above the rule's own number, or no such rule; of a Return: parameter 0
abbrev pub bad_target : Action → ℕ → ℕ → ℕ → Bool
bad_target a n i p = cond (goto_flag a) (not (ltb i p && leb p n)) (is_return a && eqb p 0)

unfoldable pub alone_of : ℕ → ℕ → Rule → Declared → RuleCheck
alone_of n i r w =
    or_breaks (ltb 4 w.depth || ltb 16 w.held) Limits
    (or_breaks (eqb i 1 && differs w 0 0 0) FirstRule
    (or_breaks (is_return (action_of r.opcode) && eqb w.home 0) ReturnInMain
    (or_breaks (bad_target (action_of r.opcode) n i r.parameter) Target fine)))

-- ---- 38, and how many items are queued at a goto target

abbrev pub bad_queue : Action → ℕ → Bool
bad_queue Unknown held = false
bad_queue Ignore held = false
bad_queue NoMatch held = false
bad_queue Count held = eqb held 16
bad_queue CountPkt held = eqb held 16
bad_queue Return held = false
bad_queue (Gosub t) held = false
bad_queue (Goto t) held = false
bad_queue (PushRule t) held = eqb held 16
bad_queue (PushPkt t) held = eqb held 16
bad_queue (PopTo t) held = eqb held 0

-- one more after a push, one less after PopTo
abbrev pub held_after : Action → ℕ → ℕ
held_after Unknown held = held
held_after Ignore held = held
held_after NoMatch held = held
held_after Count held = held
held_after CountPkt held = held
held_after Return held = held
held_after (Gosub t) held = held
held_after (Goto t) held = held
held_after (PushRule t) held = held + 1
held_after (PushPkt t) held = held + 1
held_after (PopTo t) held = held - 1

-- ---- 37 and 39, by other rules as they stand

module _ (n : ℕ) (rule : ℕ → Rule) (declared : ℕ → Declared) where
  -- g is a Gosub aimed at a home
  abbrev pub aims : ℕ → ℕ → Bool
  aims home g = is_gosub (action_of (rule g).opcode) && eqb (rule g).parameter home

  -- g is a Gosub aimed at a Return's home, and g plus the Return's parameter is no rule
  abbrev pub comes_back_nowhere : ℕ → ℕ → ℕ → Bool
  comes_back_nowhere home parameter g = aims home g && not (leb (g + parameter) n)

  -- g is a Gosub aimed at a Return's home, and the rule come back to declares otherwise than the Gosub's home and depth and the Return's held
  abbrev pub comes_back_otherwise : ℕ → ℕ → ℕ → ℕ → Bool
  comes_back_otherwise home parameter held g = aims home g && differs (declared (g + parameter)) (declared g).home (declared g).depth held

  -- ---- of a rule r that declares w

  -- 37 of a Return, over all Gosubs
  unfoldable pub returns_nowhere : Rule → Declared → Bool
  returns_nowhere r w = is_return (action_of r.opcode) && any_up_to (comes_back_nowhere w.home r.parameter) n

  -- the next rule (r is rule i), if there is one and mask and value are not both 0, has the same three
  abbrev pub next_differs : ℕ → Rule → Declared → Bool
  next_differs i r w = ltb i n && not (eqb r.mask 0 && eqb r.value 0) && differs (declared (i + 1)) w.home w.depth w.held

  -- the target of a Gosub has itself as home and depth 1 more; another goto target has home and depth, and the items after the action
  abbrev pub target_differs : Rule → Declared → Bool
  target_differs r w =
      goto_flag (action_of r.opcode)
      && cond (is_gosub (action_of r.opcode))
      (differs (declared r.parameter) r.parameter (w.depth + 1) w.held)
      (differs (declared r.parameter) w.home w.depth (held_after (action_of r.opcode) w.held))

  -- where a Return comes back, over all Gosubs
  abbrev pub return_differs : Rule → Declared → Bool
  return_differs r w = is_return (action_of r.opcode) && any_up_to (comes_back_otherwise w.home r.parameter w.held) n

  unfoldable pub rest_of : ℕ → Rule → Declared → RuleCheck
  rest_of i r w =
      or_breaks (bad_queue (action_of r.opcode) w.held) Queue
      (or_breaks (next_differs i r w || target_differs r w || return_differs r w) Successor fine)

-- ---- the rule set

-- what rule i breaks
unfoldable pub rule_check : List ℕ → ℕ → RuleCheck
rule_check s i =
    unless_broken (form_of (record_of s i).mark (rule_of s i).attribute (rule_of s i).opcode)
    (unless_broken (alone_of (rule_count s) i (rule_of s i) (declared_of s i))
    (or_breaks (returns_nowhere (rule_count s) (rule_of s) (declared_of s) (rule_of s i) (declared_of s i)) Target
    (rest_of (rule_count s) (rule_of s) (declared_of s) i (rule_of s i) (declared_of s i))))

-- a rule set is accepted, or refused for the rule that is named
abbrev pub CheckAnswer : Type 0
CheckAnswer = Result ⊤ CheckRefused

abbrev pub accepted : CheckAnswer
accepted = Ok tt

abbrev pub refused : CheckRefusal → ℕ → CheckAnswer
refused why i = Err (record { why = why; rule = i })

abbrev pub named : RuleCheck → ℕ → CheckAnswer
named (Ok x) i = accepted
named (Err why) i = refused why i

abbrev pub or_answer : CheckAnswer → CheckAnswer → CheckAnswer
or_answer (Ok x) next = next
or_answer (Err r) next = Err r

-- the first of rules 1 to k that breaks one
unfoldable pub first_broken : (ℕ → RuleCheck) → ℕ → CheckAnswer
first_broken f zero = accepted
first_broken f (suc k) = or_answer (first_broken f k) (named (f (suc k)) (suc k))

-- no rule, a part of a record, or over 255 rules
abbrev pub bad_length : ℕ → Bool
bad_length len = eqb len 0 || not (eqb (len % 16) 0) || ltb 4080 len

unfoldable pub check : List ℕ → CheckAnswer
check s = cond (bad_length (length s)) (refused Length 0) (first_broken (rule_check s) (rule_count s))

-- ---- what an answer says of the rules, in document 01's words

-- the table, each refusal by itself: whether rule i breaks it (30 is the set's, no rule's)
abbrev pub breaks : List ℕ → ℕ → CheckRefusal → Bool
breaks s i Length = false
breaks s i Mark = not (eqb (record_of s i).mark 21109)
breaks s i Attribute = not (known (rule_of s i).attribute)
breaks s i Opcode = bad_opcode (rule_of s i).opcode
breaks s i Limits = ltb 4 (declared_of s i).depth || ltb 16 (declared_of s i).held
breaks s i FirstRule = eqb i 1 && differs (declared_of s i) 0 0 0
breaks s i ReturnInMain = is_return (action_of (rule_of s i).opcode) && eqb (declared_of s i).home 0
breaks s i Target =
    bad_target (action_of (rule_of s i).opcode) (rule_count s) i (rule_of s i).parameter
    || returns_nowhere (rule_count s) (rule_of s) (declared_of s) (rule_of s i) (declared_of s i)
breaks s i Queue = bad_queue (action_of (rule_of s i).opcode) (declared_of s i).held
breaks s i Successor =
    next_differs (rule_count s) (rule_of s) (declared_of s) i (rule_of s i) (declared_of s i)
    || target_differs (rule_count s) (rule_of s) (declared_of s) (rule_of s i) (declared_of s i)
    || return_differs (rule_count s) (rule_of s) (declared_of s) (rule_of s i) (declared_of s i)

-- rule i breaks none
abbrev pub BreaksNone : List ℕ → ℕ → Type 0
BreaksNone s i = (w : CheckRefusal) → breaks s i w ≡ false

-- of what rule i breaks, this has the lowest number
pub record LowestBroken (s : List ℕ) (i : ℕ) (why : CheckRefusal) : Type 0 where
  pub broken : breaks s i why ≡ true
  pub none_lower : (w : CheckRefusal) → check_number w < check_number why → breaks s i w ≡ false

-- rule i is the first that breaks one, and this is the lowest number that it breaks
pub record FirstToBreak (s : List ℕ) (why : CheckRefusal) (i : ℕ) : Type 0 where
  pub low : 1 ≤ i
  pub high : i ≤ rule_count s
  pub lowest : LowestBroken s i why
  pub below : (j : ℕ) → 1 ≤ j → j < i → BreaksNone s j

-- no rule breaks one
abbrev pub AllFine : List ℕ → Type 0
AllFine s = (i : ℕ) → 1 ≤ i → i ≤ rule_count s → BreaksNone s i
