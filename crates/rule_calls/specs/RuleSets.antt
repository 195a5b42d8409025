-- The answers of the check and the engine as numbers.
use Rattle.std.specs.Prelude.{ℕ, ◌≤◌, ◌≡◌, ◌⊎◌, ◌↔◌, List, [], ◌∷◌, ◌++◌, true, false, length, drop, replicate, Ok, Err}
use Rattle.reader.specs.declared.sample.FlowSample.{FlowSample}
use Rattle.packet.specs.Attributes.{attributes_of, attribute}
use Rattle.rules.specs.declared.Item.{Item}
use Rattle.rules.specs.declared.MachineAnswer.{MachineAnswer}
use Rattle.rules.specs.declared.CheckRefusal.{CheckRefusal}
use Rattle.rules.specs.Opcodes.{machine_number}
use Rattle.rules.specs.Records.{rule_count, rule_of}
use Rattle.rules.specs.Machine.{ended, after}
use Rattle.rules.specs.Checks.{CheckAnswer, accepted, refused, check_number, bad_length, check, FirstToBreak, AllFine}
use Rattle.engine.specs.Results.{EngineAnswer, engine_number, rule_named, rules_in, key_in, key_of, flow, other, flow_in}
use Rattle.numbers.specs.Reports.{Report, report}

-- 0 or the refusal's number; the rule named, or 0
abbrev pub check_report : CheckAnswer → Report
check_report (Ok x) = report 0 (0 ∷ [])
check_report (Err r) = report (check_number r.why) (r.rule ∷ [])

-- the answer's number; the rule named, or 0, how many rules were come to, the key's masks, then its values
abbrev pub engine_report : EngineAnswer → Report
engine_report a = report (engine_number a) (rule_named a ∷ rules_in a ∷ ((key_in a).masks ++ (key_in a).values))

-- ---- the numbers in each case

-- what is told of a rule set's check
pub record CheckTold (s : List ℕ) (told : Report) : Type 0 where
  -- 30 with rule 0 exactly where the length is bad
  pub by_length : (told ≡ report 30 (0 ∷ [])) ↔ (bad_length (length s) ≡ true)
  -- and never 30 with another rule
  pub length_alone : told.number ≡ 30 → bad_length (length s) ≡ true
  -- a number with a rule exactly where this is the first rule that breaks one, and it breaks that
  pub by_rule : (why : CheckRefusal) (i : ℕ) → 1 ≤ i
      → (told ≡ report (check_number why) (i ∷ [])) ↔ ((bad_length (length s) ≡ false) × FirstToBreak s why i)
  -- 0 with rule 0 exactly where neither is so
  pub accepted : (told ≡ report 0 (0 ∷ [])) ↔ ((bad_length (length s) ≡ false) × AllFine s)

-- what is told of a run of a rule set on a sample's octets
pub record RunTold (s x : List ℕ) (told : Report) : Type 0 where
  -- a refusal's number with its rule, no rules come to and a key of zeros exactly where the check refuses so
  pub refused : (why : CheckRefusal) (i : ℕ) → (told ≡ report (check_number why) (i ∷ 0 ∷ replicate 46 0)) ↔ (check s ≡ refused why i)
  -- 18 with rule 0, no rules come to and a key of zeros exactly where the check accepts, but the octets are not exactly one flow sample
  pub no_flow_sample : (told ≡ report 18 (0 ∷ 0 ∷ replicate 46 0)) ↔ ((check s ≡ accepted) × (flow_in x ≡ other))
  -- whenever the machine has ended on the sample's attributes: its answer's number, rule 0, its rules and its key
  pub run : check s ≡ accepted → (f : FlowSample) → flow_in x ≡ flow f → (k : ℕ) (answer : MachineAnswer) (items : List Item) (rules : ℕ)
      → after (rule_count s) (rule_of s) (attribute (attributes_of x f)) k ≡ ended answer items rules
      → told ≡ report (machine_number answer) (0 ∷ rules ∷ ((key_of items).masks ++ (key_of items).values))
  -- with Ignore and NoMatch the key is zero
  pub no_key : (told.number ≡ 1) ⊎ (told.number ≡ 2) → drop 2 told.numbers ≡ replicate 46 0
