-- The answers of reading a sample as numbers.
use Rattle.std.specs.Prelude.{ℕ, ◌-◌, ◌≤◌, ◌<◌, ◌≡◌, ◌≢◌, length, List, [], ◌∷◌, ◌++◌, Result, Ok, Err, Option, Some, None}
use Rattle.sflow.specs.declared.Refused.{Refused}
use Rattle.sflow.specs.Decode.{mapped, decode}
use Rattle.sflow.specs.Datagram.{counters_type, sample_type}
use Rattle.packet_data.specs.declared.PacketData.{PacketData}
use Rattle.packet_data.specs.declared.PacketData.TheVariants.{Header, Ipv4, Ipv6}
use Rattle.counter_data.specs.CounterBodies.{counters_found}
use Rattle.reader.specs.declared.sample.FlowWords.{FlowWords}
use Rattle.reader.specs.declared.sample.FlowSample.{FlowSample}
use Rattle.reader.specs.declared.sample.CountersSample.{CountersSample}
use Rattle.reader.specs.declared.sample.SampleValues.{SampleValues}
use Rattle.reader.specs.declared.sample.SampleValues.TheVariants.{Flow, Counters}
use Rattle.reader.specs.declared.sample.Sample.{Sample}
use Rattle.reader.specs.declared.datagram.Cursor.{Cursor}
use Rattle.reader.specs.Samples.{sample_of}
use Rattle.numbers.specs.Reports.{Report, report, refusal_report, decoded_report}
use Rattle.numbers.specs.Addresses.{quad_numbers}
use Rattle.counter_calls.specs.CounterReports.{value_numbers}

-- the packet data type
abbrev pub packet_type : PacketData → ℕ
packet_type (Header h) = 1
packet_type (Ipv4 p) = 2
packet_type (Ipv6 p) = 3

-- header: protocol, frame length, offset and length of the header's octets; IPv4 and IPv6: the fields in order, an IPv6 address as four words
abbrev pub packet_numbers : PacketData → List ℕ
packet_numbers (Header h) = h.protocol ∷ h.frame_length ∷ h.header.at ∷ h.header.length ∷ []
packet_numbers (Ipv4 p) =
    p.length ∷ p.protocol ∷ p.src_ip ∷ p.dst_ip ∷ p.src_port ∷ p.dst_port ∷ p.tcp_flags ∷ p.tos ∷ []
packet_numbers (Ipv6 p) =
    p.length ∷ p.protocol
    ∷ (quad_numbers p.src_ip ++ (quad_numbers p.dst_ip ++ (p.src_port ∷ p.dst_port ∷ p.tcp_flags ∷ p.priority ∷ [])))

-- the words that a flow sample begins with
abbrev pub word_numbers : FlowWords → List ℕ
word_numbers w =
    w.sequence_number ∷ w.source_id ∷ w.sampling_rate ∷ w.sample_pool ∷ w.drops ∷ w.input ∷ w.output ∷ []

-- the words, the packet data type, the count of extended entries and the offset of the first, then the packet data's numbers
abbrev pub flow_numbers : FlowSample → List ℕ
flow_numbers f =
    word_numbers f.words
    ++ (packet_type f.packet_data ∷ f.extended_data.count ∷ f.extended_data.at ∷ packet_numbers f.packet_data)

-- the words, the counters version, then how many counters there are and the counters, which are found in the octets at their version word, 4 octets
-- before the first counter
abbrev pub counters_numbers : List ℕ → CountersSample → List ℕ
counters_numbers s x =
    x.sequence_number ∷ x.source_id ∷ x.sampling_interval ∷ x.counters.version
    ∷ value_numbers (counters_found (decode counters_type s (x.counters.at - 4)))

-- 1 for a flow sample, 2 for a counter sample
abbrev pub sample_kind : SampleValues → ℕ
sample_kind (Flow x) = 1
sample_kind (Counters x) = 2

-- the numbers of a sample of these octets
abbrev pub sample_numbers : List ℕ → SampleValues → List ℕ
sample_numbers s (Flow x) = flow_numbers x
sample_numbers s (Counters x) = counters_numbers s x

-- kind, offset and length of a sample of these octets, then its numbers
abbrev pub placed_numbers : List ℕ → Sample → List ℕ
placed_numbers s x = sample_kind x.values ∷ x.offset ∷ x.length ∷ sample_numbers s x.values

-- 0; the numbers of a sample of these octets
abbrev pub sample_report : List ℕ → Result (Sample × ℕ) Refused → Report
sample_report s (Ok r) = report 0 (placed_numbers s r.0)
sample_report s (Err r) = refusal_report r.why r.at

-- a step of the walk over the samples of these octets: 0 and the numbers of the sample; behind the last sample 0 and none; a refusal as ever
abbrev pub step_report : List ℕ → Result (Option (Sample × Cursor)) Refused → Report
step_report s (Ok (Some r)) = report 0 (placed_numbers s r.0)
step_report s (Ok None) = report 0 []
step_report s (Err r) = refusal_report r.why r.at

-- ---- the same by what reading finds

-- the numbers of a sample of these octets that begins and ends at two offsets
abbrev pub numbers_between : List ℕ → ℕ → SampleValues → ℕ → List ℕ
numbers_between s at v next = sample_kind v ∷ at ∷ (next - at) ∷ sample_numbers s v

-- what reading a sample at an offset finds, in numbers
abbrev pub sample_found : List ℕ → ℕ → Report
sample_found s at = decoded_report (numbers_between s at) (mapped (sample_of at) (decode sample_type s at))

-- A step of the walk from a cursor, in numbers: the sample there, found or refused, where one is left; else the end, or 13 where octets lie behind it.
pub record StepTold (s : List ℕ) (c : Cursor) (r : Result (Option (Sample × Cursor)) Refused) : Type 0 where
  pub a_sample : c.left ≢ 0 → step_report s r ≡ sample_found s c.at
  pub the_end : c.left ≡ 0 → length s ≤ c.at → step_report s r ≡ report 0 []
  pub trailing : c.left ≡ 0 → c.at < length s → step_report s r ≡ report 13 (c.at ∷ [])
