-- Values of samples (RFC 3176, section 4, "Format of a single flow sample" to "Format of a sample datagram").
use Rattle.std.specs.Prelude.{ℕ, ◌+◌, ◌-◌, Bool, true, false, cond, List, [], eqb, Result, Ok, Err}
use Rattle.sflow.specs.Grammar.{fixed, list, Value}
use Rattle.sflow.specs.declared.Refused.{Refused}
use Rattle.sflow.specs.Decode.{Decoded, found, refused, refused_at}
use Rattle.sflow.specs.Datagram.{packet_data_type, extended_data_type, flow_sample, counters_sample, sample_type}
use Rattle.packet_data.specs.declared.PacketData.{PacketData}
use Rattle.reader.specs.declared.sample.FlowWords.{FlowWords}
use Rattle.reader.specs.declared.sample.FlowSample.{FlowSample}
use Rattle.reader.specs.declared.sample.CountersSample.{CountersSample}
use Rattle.reader.specs.declared.sample.Sample.{Sample}
use Rattle.reader.specs.declared.sample.SampleValues.{SampleValues}
use Rattle.reader.specs.declared.sample.SampleValues.TheVariants.{Flow, Counters}
use Rattle.fields.specs.Parts.{item, size, entries_at}
use Rattle.packet_data.specs.Packets.{packet_of}
use Rattle.counter_data.specs.CounterBodies.{counter_body_of}

abbrev pub flow_words_of : List ℕ → FlowWords
flow_words_of v =
    record {
      sequence_number = item v 0;
      source_id = item v 1;
      sampling_rate = item v 2;
      sample_pool = item v 3;
      drops = item v 4;
      input = item v 5;
      output = item v 6;
    }

-- a flow sample's words and packet data, and its list of extended data at an offset
abbrev pub flow_with : FlowWords → PacketData → ℕ → Value (list extended_data_type) → FlowSample
flow_with words packet at v = record { words = words; packet_data = packet; extended_data = entries_at (at + 4) v }

abbrev pub flow_of : ℕ → Value flow_sample → FlowSample
flow_of at v = flow_with (flow_words_of v.0) (packet_of (at + 28) v.1.0) (at + 28 + size packet_data_type v.1.0) v.1.1

abbrev pub counters_of : ℕ → Value counters_sample → CountersSample
counters_of at v =
    record {
      sequence_number = item v.0 0;
      source_id = item v.0 1;
      sampling_interval = item v.0 2;
      counters = counter_body_of (at + 12) v.1;
    }

-- a sample at its type word; the last clause is for types that the form does not allow
abbrev pub sample_by : ℕ → (is1 is2 : Bool) → Value (cond is1 flow_sample (cond is2 counters_sample (fixed []))) → SampleValues
sample_by at true is2 v = Flow (flow_of (at + 4) v)
sample_by at false true v = Counters (counters_of (at + 4) v)
sample_by at false false v = Counters (counters_of (at + 4) ([], (0, [])))

abbrev pub sample_of : ℕ → Value sample_type → SampleValues
sample_of at v = sample_by at (eqb v.0 1) (eqb v.0 2) v.1

-- a sample that begins at an offset, with its length
abbrev pub as_sample : ℕ → Decoded SampleValues → Result (Sample × ℕ) Refused
as_sample at (found v next) = Ok (record { offset = at; length = next - at; values = v }, next)
as_sample at (refused why p) = Err (refused_at why p)
