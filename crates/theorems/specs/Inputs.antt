-- The inputs of document 01's starred cases, octet by octet.
use Rattle.std.specs.Prelude.{ℕ, List, [], ◌∷◌, ◌++◌, replicate}
use Rattle.fields.specs.declared.address.Address.{Address}
use Rattle.ledger.specs.declared.FlowEntry.{FlowEntry}

-- ---- datagrams

-- agent 10.0.0.7, sequence 1, uptime 1000
abbrev pub head_octets : List ℕ
head_octets = 0 ∷ 0 ∷ 0 ∷ 4 ∷ 0 ∷ 0 ∷ 0 ∷ 1 ∷ 10 ∷ 0 ∷ 0 ∷ 7 ∷ 0 ∷ 0 ∷ 0 ∷ 1 ∷ 0 ∷ 0 ∷ 3 ∷ 232 ∷ []

abbrev pub no_samples : List ℕ
no_samples = head_octets ++ (0 ∷ 0 ∷ 0 ∷ 0 ∷ [])

abbrev pub one_sample : List ℕ
one_sample = head_octets ++ (0 ∷ 0 ∷ 0 ∷ 1 ∷ [])

-- a counter sample of a version: sequence 5, source 01000064, interval 20, vlan 100, the rest 0
abbrev pub counter_sample : ℕ → List ℕ
counter_sample version =
    0 ∷ 0 ∷ 0 ∷ 2 ∷ 0 ∷ 0 ∷ 0 ∷ 5 ∷ 1 ∷ 0 ∷ 0 ∷ 100 ∷ 0 ∷ 0 ∷ 0 ∷ 20 ∷ 0 ∷ 0 ∷ 0 ∷ version ∷ 0 ∷ 0 ∷ 0 ∷ 100 ∷ replicate 24 0

-- agent 10.0.0.7 as type and words
abbrev pub agent : Address
agent = record { kind = 1; octets = record { a = 167772167; b = 0; c = 0; d = 0 } }

-- the 32 counters of an Ethernet sample
abbrev pub ethernet_counters : List ℕ
ethernet_counters = replicate 32 7

-- ---- rule sets

-- a rule record whose test is attribute & 0 = value, with an opcode, a parameter, and what it declares
abbrev pub rule_record : (attribute opcode value parameter home depth held : ℕ) → List ℕ
rule_record attribute opcode value parameter home depth held =
    82 ∷ 117 ∷ attribute ∷ opcode ∷ 0 ∷ 0 ∷ 0 ∷ 0 ∷ 0 ∷ 0 ∷ 0 ∷ value ∷ parameter ∷ home ∷ depth ∷ held ∷ []

-- Gosub 3; Ignore; a Return with home 3 and depth 1, by a parameter
abbrev pub subroutine : ℕ → List ℕ
subroutine parameter = rule_record 0 6 0 3 0 0 0 ++ (rule_record 0 1 0 0 0 0 0 ++ rule_record 0 5 0 parameter 3 1 0)

-- a flow sample of IPv4 packet data, all of whose fields are 0
abbrev pub flow_sample : List ℕ
flow_sample = 0 ∷ 0 ∷ 0 ∷ 1 ∷ (replicate 28 0 ++ (0 ∷ 0 ∷ 0 ∷ 2 ∷ replicate 36 0))

-- ---- the ledger

-- a flow sample of source 01000064 and agent 10.0.0.7, with a sequence number and a sample pool
abbrev pub sample_entry : ℕ → ℕ → FlowEntry
sample_entry sequence pool =
    record {
      agent = agent;
      words =
          record {
            sequence_number = sequence;
            source_id = 16777316;
            sampling_rate = 512;
            sample_pool = pool;
            drops = 0;
            input = 1;
            output = 2;
          };
    }
