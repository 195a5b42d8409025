-- Flow samples that writers write, as values of the grammar: their extended data are given as octets that the entries' writers wrote (document 01, "Writer").
use Rattle.std.specs.Prelude.{ℕ, Bool, true, false, List, [], ◌∷◌, ◌++◌}
use Rattle.std.proofs.Math.Option.{Option, none, some}
use Rattle.sflow.specs.Grammar.{Value}
use Rattle.sflow.specs.Datagram.{packet_data_type, extended_data_type, sample_type}
use Rattle.reader.specs.declared.sample.FlowWords.{FlowWords}
use Rattle.form_writer.specs.Parts.{words_octets}

-- sequence number, source id, sampling rate, sample pool, drops, input, output
abbrev pub flow_words_value : FlowWords → List ℕ
flow_words_value w =
    w.sequence_number ∷ w.source_id ∷ w.sampling_rate ∷ w.sample_pool ∷ w.drops ∷ w.input ∷ w.output ∷ []

-- a flow sample with its type word: the words; packet data; extended entries
abbrev pub flow_value : FlowWords → Value packet_data_type → List (Value extended_data_type) → Value sample_type
flow_value w packet extended = (1, (flow_words_value w, (packet, extended)))

-- the same of parts that have to be given
abbrev pub flow_given : FlowWords → Option (Value packet_data_type) → Option (List (Value extended_data_type)) → Option (Value sample_type)
flow_given w none extended = none
flow_given w (some packet) none = none
flow_given w (some packet) (some extended) = some (flow_value w packet extended)

-- the octets of a flow sample: its words, its packet data's octets, the count of its extended entries and their octets
abbrev pub flow_octets : FlowWords → List ℕ → ℕ → List ℕ → List ℕ
flow_octets w packet count extended = words_octets (1 ∷ flow_words_value w) ++ (packet ++ (words_octets (count ∷ []) ++ extended))

-- whether a part is given
abbrev pub is_given : {A : Type 0} → Option A → Bool
is_given none = false
is_given (some x) = true
