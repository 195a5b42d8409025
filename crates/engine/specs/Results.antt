-- The engine's result (document 01, "Rule sets").
use Rattle.std.specs.Prelude.{ℕ, List, [], ◌∷◌, cond, length, set, replicate, eqb, Result, Ok, Err}
use Rattle.sflow.specs.Decode.{decode, mapped}
use Rattle.sflow.specs.Datagram.{sample_type}
use Rattle.reader.specs.declared.sample.Sample.{Sample}
use Rattle.reader.specs.declared.sample.FlowSample.{FlowSample}
use Rattle.reader.specs.declared.sample.SampleValues.{SampleValues}
use Rattle.reader.specs.declared.sample.SampleValues.TheVariants.{Flow, Counters}
use Rattle.reader.specs.Samples.{sample_of, as_sample}
use Rattle.packet.specs.Attributes.{attributes_of, attribute}
use Rattle.rules.specs.declared.Item.{Item}
use Rattle.rules.specs.Opcodes.{machine_number}
use Rattle.rules.specs.Records.{rule_count, rule_of}
use Rattle.rules.specs.Machine.{Outcome, running, ended, stuck, after}
use Rattle.rules.specs.Checks.{CheckAnswer, check_number, check}
use Rattle.rules.specs.Demand.{bound}
use Rattle.engine.specs.declared.FlowKey.{FlowKey}
use Rattle.engine.specs.declared.EngineResult.{EngineResult}
use Rattle.engine.specs.declared.EngineRefusal.{EngineRefusal}
use Rattle.engine.specs.declared.EngineRefusal.TheVariants.{NotOneFlowSample, RuleSet}
use Rattle.std.specs.Prelude.{Result, Ok, Err}
use Rattle.sflow.specs.declared.Refused.{Refused}

-- what the machine has ended with, or why there is no result
abbrev pub EngineAnswer : Type 0
EngineAnswer = Result EngineResult EngineRefusal

-- the number of each answer and refusal, and the rule that is named
abbrev pub engine_number : EngineAnswer → ℕ
engine_number (Ok r) = machine_number r.answer
engine_number (Err NotOneFlowSample) = 18
engine_number (Err (RuleSet r)) = check_number r.why

abbrev pub rule_named : EngineAnswer → ℕ
rule_named (Ok r) = 0
rule_named (Err NotOneFlowSample) = 0
rule_named (Err (RuleSet r)) = r.rule

-- ---- the flow key

abbrev pub zero_key : FlowKey
zero_key = record { masks = replicate 23 0; values = replicate 23 0 }

-- an item's mask and value at its attribute; a Null item changes nothing
unfoldable pub put : FlowKey → Item → FlowKey
put k x =
    cond (eqb x.attribute 0) k
    (record { masks = set k.masks x.attribute x.mask; values = set k.values x.attribute x.value })

-- the key, all zero at first, takes the items of a pattern queue, which has the newest first, oldest first
unfoldable pub key_of : List Item → FlowKey
key_of [] = zero_key
key_of (x ∷ older) = put (key_of older) x

-- ---- the result

-- how many rules were come to, and the key; in a refusal none, and a key of zeros
abbrev pub rules_in : EngineAnswer → ℕ
rules_in (Ok r) = r.rules
rules_in (Err why) = 0

abbrev pub key_in : EngineAnswer → FlowKey
key_in (Ok r) = r.key
key_in (Err why) = zero_key

-- what the machine has ended in; of an accepted rule set it does end (`ends_there`)
abbrev pub result_of : Outcome → EngineAnswer
result_of (ended a items k) = Ok (record { answer = a; key = key_of items; rules = k })
result_of (running s) = Err NotOneFlowSample
result_of stuck = Err NotOneFlowSample

-- octets that are exactly one flow sample, or not
pub data Sampled : Type 0 where
  flow : FlowSample → Sampled
  other : Sampled

abbrev pub flow_only : SampleValues → Sampled
flow_only (Flow x) = flow x
flow_only (Counters x) = other

abbrev pub exactly : ℕ → Result (Sample × ℕ) Refused → Sampled
exactly end (Ok r) = cond (eqb r.1 end) (flow_only r.0.values) other
exactly end (Err r) = other

unfoldable pub flow_in : List ℕ → Sampled
flow_in x = exactly (length x) (as_sample 0 (mapped (sample_of 0) (decode sample_type x 0)))

abbrev pub of_sample : List ℕ → List ℕ → Sampled → EngineAnswer
of_sample s x (flow f) = result_of (after (rule_count s) (rule_of s) (attribute (attributes_of x f)) (bound (rule_count s)))
of_sample s x other = Err NotOneFlowSample

abbrev pub of_check : List ℕ → List ℕ → CheckAnswer → EngineAnswer
of_check s x (Ok u) = of_sample s x (flow_in x)
of_check s x (Err r) = Err (RuleSet r)

-- the check's refusal first, then 18, then the machine's answer
unfoldable pub engine_of : List ℕ → List ℕ → EngineAnswer
engine_of s x = of_check s x (check s)
