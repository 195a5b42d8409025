-- A sample is given again from what the reader gives of it. Assumes nothing.
use Prim.Native.Nat.{ℕ, zero, suc, ◌+◌, ◌-◌}
use native.Mathlib.Omega.{arith}
use Prim.{tt}
use mathlib.Core.Path.{◌≡◌, ap}
use mathlib.Core.List.{List, [], ◌∷◌, ◌++◌, flat_map}
use mathlib.Core.Option.{some}
use lib.ListN.{length}
use Rattle.sflow.specs.Slices.{Slice}
use Rattle.sflow.specs.Grammar.{Form, fixed, list, Arm, case, Value, Valid, encode}
use Rattle.sflow.specs.Decode.{found, decode, entries_in}
use Rattle.sflow.specs.Datagram.{int, packet_data_type, extended_data_type, flow_words, flow_sample, counters_type, counters_sample, sample_type}
use Rattle.sflow.proofs.Slices.{first, second}
use Rattle.sflow.proofs.Items.{word_rest, each_length}
use Rattle.sflow.proofs.Complete.{complete}
use Rattle.sflow.proofs.Exact.{entries_encoded}
use Rattle.fields.specs.Parts.{size, entries_at}
use Rattle.packet_data.specs.Packets.{packet_of}
use Rattle.extended_data.specs.ExtendedData.{extended_of}
use Rattle.reader.specs.declared.sample.SampleValues.TheVariants.{Flow, Counters}
use Rattle.reader.specs.Samples.{flow_of, counters_of, sample_of}
use Rattle.rewriting.specs.Forms.{packet_given, extended_given, entries_again}
use Rattle.rewriting.specs.Rewriting.{sample_given}
use Rattle.rewriting.proofs.Fields.{items_are, past_all}
use Rattle.rewriting.proofs.Entries.{each_again_is}
use Rattle.rewriting.proofs.Packets.{packet_again}
use Rattle.rewriting.proofs.Extended.{extended_again}

flow_again : (s : List ℕ) (v : Value flow_sample) → Valid flow_sample v → (at next : ℕ) → Slice s at next (encode flow_sample v)
    → sample_given s (Flow (flow_of at v)) ≡ some (1, v)
unfolding encode
flow_again s v h at next p =
    let ws : List ℕ = v.0 in
    let x : Value packet_data_type = v.1.0 in
    let es : List (Value extended_data_type) = v.1.1 in
    let long : length (encode (fixed flow_words) ws) ≡ 28 = each_length flow_words ws h.0 in
    let behind : Slice s (at + 28) next (encode packet_data_type x ++ encode (list extended_data_type) es) =
    rw long at (second (encode (fixed flow_words) ws) _ p) in
    let packet : packet_given s (packet_of (at + 28) x) ≡ some x =
    packet_again s x h.1.0 (at + 28) _ (first (encode packet_data_type x) _ behind) in
    let list_at : Slice s (at + 28 + size packet_data_type x + 4) next (flat_map (encode extended_data_type) es) =
    word_rest s (at + 28 + size packet_data_type x) (length es) next _ (second (encode packet_data_type x) _ behind) in
    let more : entries_again s (entries_at (at + 28 + size packet_data_type x + 4) es) ≡ flat_map (encode extended_data_type) es =
    each_again_is extended_data_type s extended_of (extended_given s) (extended_again s) es h.1.1.1 (at + 28 + size packet_data_type x + 4) next list_at in
    let e : entries_in extended_data_type (length es) (flat_map (encode extended_data_type) es) ≡ some es = entries_encoded extended_data_type es h.1.1.1 in
    rw (packet, more, e) (ap (λ (l : List ℕ). some (1, (l, (x, es)))) (items_are flow_words ws h.0))

counters_again : (s : List ℕ) (v : Value counters_sample) → Valid counters_sample v → (at next : ℕ) → Slice s at next (encode counters_sample v)
    → sample_given s (Counters (counters_of at v)) ≡ some (2, v)
unfolding encode
counters_again s v h at next p =
    let ws : List ℕ = v.0 in
    let long : length (encode (fixed (int ∷ int ∷ int ∷ [])) ws) ≡ 12 = each_length (int ∷ int ∷ int ∷ []) ws h.0 in
    let body : Slice s (at + 12) next (encode counters_type v.1) = rw long at (second (encode (fixed (int ∷ int ∷ int ∷ [])) ws) _ p) in
    let z : at + 12 + 4 - 4 ≡ at + 12 = omega arith in
    let e : decode counters_type s (at + 12) ≡ found v.1 next = complete counters_type v.1 h.1 s (at + 12) next body in
    rw (z, e) (ap (λ (l : List ℕ). some (2, (l, v.1))) (items_are (int ∷ int ∷ int ∷ []) ws h.0))

-- the arms of a sample
abbrev sample_types : List (Arm Form)
sample_types = case 1 flow_sample ∷ case 2 counters_sample ∷ []

-- a sample of either type
pub sample_again : (s : List ℕ) (v : Value sample_type) → Valid sample_type v → (at next : ℕ) → Slice s at next (encode sample_type v)
    → sample_given s (sample_of at v) ≡ some v
unfolding encode
sample_again s (zero, w) h at next p = absurd h.1
sample_again s (suc zero, w) h at next p = flow_again s w h.2 (at + 4) next (word_rest s at 1 next _ p)
sample_again s (suc (suc zero), w) h at next p = counters_again s w h.2 (at + 4) next (word_rest s at 2 next _ p)
sample_again s (suc (suc (suc n)), w) h at next p = absurd (past_all sample_types (suc (suc (suc n))) (omega arith, (omega arith, tt)) h.1)
