-- A datagram written again from what the reader gives of it (demand 2): start with its head, and an append of the values of each sample that the walk
-- over it meets.
use Rattle.std.specs.Prelude.{ℕ, ◌-◌, ◌≤◌, ◌<◌, ◌≡◌, List, [], ◌∷◌, ◌++◌, map, length, Result, Ok, Err}
use Rattle.std.proofs.Math.Option.{Option, some}
use Rattle.xdr.specs.Writes.{stored, Afterwards, afterwards}
use Rattle.sflow.specs.Grammar.{Value, encode}
use Rattle.sflow.specs.Decode.{decode, entries_in}
use Rattle.sflow.specs.Datagram.{extended_data_type, counters_type, sample_type, sample_datagram, samples}
use Rattle.counter_data.specs.CounterBodies.{counters_found}
use Rattle.reader.specs.declared.sample.SampleValues.{SampleValues}
use Rattle.reader.specs.declared.sample.SampleValues.TheVariants.{Flow, Counters}
use Rattle.reader.specs.declared.datagram.Head.{Head}
use Rattle.reader.specs.Datagrams.{walk}
use Rattle.form_writer.specs.declared.parts.WriteRefusal.{WriteRefusal}
use Rattle.form_writer.specs.declared.parts.WriteRefusal.TheVariants.{NoRoom}
use Rattle.sample_writer.specs.FlowValues.{flow_given}
use Rattle.sample_writer.specs.CounterValues.{counters_value}
use Rattle.writer.specs.Datagrams.{started, appended, with_samples}
use Rattle.rewriting.specs.Forms.{packet_given, entries_again}

-- the sample that an append is given of a sample that the reader gives
abbrev pub sample_given : List ℕ → SampleValues → Option (Value sample_type)
sample_given s (Flow x) =
    flow_given x.words (packet_given s x.packet_data) (entries_in extended_data_type x.extended_data.count (entries_again s x.extended_data))
sample_given s (Counters x) =
    some
    (counters_value x.sequence_number x.source_id x.sampling_interval x.counters.version
    (counters_found (decode counters_type s (x.counters.at - 4))))

-- a sample appended behind what an answer left, where it is no refusal
abbrev pub append_behind : ℕ → Option (Value sample_type) → Afterwards (Result ℕ WriteRefusal) → Afterwards (Result ℕ WriteRefusal)
append_behind limit x (afterwards (Ok n) d) = appended x limit n d
append_behind limit x (afterwards (Err why) d) = afterwards (Err why) d

-- samples appended one behind the other
abbrev pub append_each : ℕ → Afterwards (Result ℕ WriteRefusal) → List (Option (Value sample_type)) → Afterwards (Result ℕ WriteRefusal)
append_each limit o [] = o
append_each limit o (x ∷ xs) = append_each limit (append_behind limit x o) xs

-- a datagram with this head, written again to a buffer
unfoldable pub rewritten : List ℕ → Head → ℕ → List ℕ → Afterwards (Result ℕ WriteRefusal)
rewritten s h limit d =
    append_each limit (started limit h.agent h.sequence_number h.uptime d)
    (map (λ x. sample_given s x.values) (walk s h.samples.count h.samples.at).met)

-- what is left of a buffer where writing stopped for want of room: the samples written before, the one that did not fit, and those behind it
pub record Stopped (v : Value sample_datagram) (limit : ℕ) (d : List ℕ) (left : Afterwards (Result ℕ WriteRefusal)) : Type 0 where
  pub before : List (Value sample_type)
  pub next : Value sample_type
  pub behind : List (Value sample_type)
  pub split : samples v ≡ before ++ (next ∷ behind)
  pub fits : length (encode sample_datagram (with_samples v before)) ≤ limit
  pub full : limit < length (encode sample_datagram (with_samples v (before ++ (next ∷ []))))
  pub left_so : left ≡ afterwards (Err NoRoom) (stored d 0 (encode sample_datagram (with_samples v before)))
