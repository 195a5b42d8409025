-- Demand 2 with the functions that C and Rust call: a datagram written again by the numbers that they tell of it. Assumes nothing.
use Prim.Native.Nat.{ℕ, zero, suc, ◌+◌, ◌-◌, ◌≤◌, ◌<◌}
use native.Mathlib.Omega.{arith}
use mathlib.Core.Path.{◌≡◌, refl, sym, ap, ◌∙◌}
use mathlib.Core.Bool.{true}
use mathlib.Core.List.{List, [], ◌∷◌, ◌++◌, map}
use mathlib.Core.Option.{some}
use lib.ListN.{length, replicate}
use lib.Seq.{take_at}
use borrow.Author.Tests.{le-leb}
use Rattle.std.specs.Prelude.{Ok}
use Rattle.xdr.specs.Numbers.{Octets}
use Rattle.xdr.specs.Writes.{stored, afterwards}
use Rattle.sflow.specs.Grammar.{Value, encode}
use Rattle.sflow.specs.Decode.{Decoded, found, refused, mapped, decode, entries_in, EndToEnd}
use Rattle.sflow.specs.Datagram.{address, counters_type, as_path_type, extended_data_type, sample_type, sample_datagram, agent_address, samples}
use Rattle.sflow.specs.Reading.{read_datagram}
use Rattle.sflow.proofs.Theorems.{samples_end_to_end}
use Rattle.fields.specs.declared.words.Entries.{Entries}
use Rattle.fields.specs.Parts.{item, size}
use Rattle.packet_data.specs.declared.PacketData.{PacketData}
use Rattle.packet_data.specs.declared.PacketData.TheVariants.{Header, Ipv4, Ipv6}
use Rattle.extended_data.specs.declared.Extended.{Extended}
use Rattle.extended_data.specs.declared.Extended.TheVariants.{IsSwitch, IsRouter, IsGateway, IsUser, IsUrl}
use Rattle.extended_data.specs.declared.Segment.{Segment}
use Rattle.extended_data.specs.ExtendedData.{segment_of, extended_of}
use Rattle.counter_data.specs.CounterBodies.{counters_found}
use Rattle.reader.specs.declared.sample.FlowWords.{FlowWords}
use Rattle.reader.specs.declared.sample.SampleValues.{SampleValues}
use Rattle.reader.specs.declared.sample.SampleValues.TheVariants.{Flow, Counters}
use Rattle.reader.specs.Samples.{sample_of}
use Rattle.reader.specs.Datagrams.{datagram_of}
use Rattle.form_writer.specs.Values.{gateway_given}
use Rattle.sample_writer.specs.FlowValues.{flow_given}
use Rattle.sample_writer.specs.CounterValues.{counters_value}
use Rattle.writer.specs.Datagrams.{limit_allowed, started}
use Rattle.sflow.specs.declared.Refusal.{Refusal}
use Rattle.sflow.specs.declared.Refusal.TheVariants.{CutItem, CutString, Version, AddressType, SampleType, PacketDataType, HeaderProtocol, HeaderLength, ExtendedDataType, SegmentType, UrlDirection, CountersVersion, Padding, Trailing, TooLong}
use Rattle.numbers.specs.Reports.{Report, refusal_report, decoded_report}
use Rattle.read_calls.specs.Reading.{entry_numbers, segment_numbers}
use Rattle.read_calls.proofs.Told.{extended_told, segment_told}
use Rattle.sample_calls.specs.SampleReports.{placed_numbers}
use Rattle.rewriting.specs.Forms.{words_in, write_then, each_again, octets_written, packet_given, segment_given, path_again, extended_given, entries_again}
use Rattle.rewriting.specs.Rewriting.{sample_given, append_each}
use Rattle.rewriting.specs.Calls.{StoppedByCalls, told0, each_called, segment_called, path_called, extended_called, entries_called, sample_called, samples_called, rewritten_by_calls}
use Rattle.rewriting.proofs.Samples.{sample_again}
use Rattle.rewriting.proofs.Appending.{all_written, some_written}
use Rattle.rewriting.proofs.Theorems.{standing, head_again, all_valid, octets_are, first_within}

-- ---- entries

-- a refusal's number is not 0
refused_0 : {A : Type 0} (default : A) (f : List ℕ → A) (why : Refusal) (p : ℕ) → told0 (refusal_report why p) default f ≡ default
refused_0 default f CutItem p = refl
refused_0 default f CutString p = refl
refused_0 default f Version p = refl
refused_0 default f AddressType p = refl
refused_0 default f SampleType p = refl
refused_0 default f PacketDataType p = refl
refused_0 default f HeaderProtocol p = refl
refused_0 default f HeaderLength p = refl
refused_0 default f ExtendedDataType p = refl
refused_0 default f SegmentType p = refl
refused_0 default f UrlDirection p = refl
refused_0 default f CountersVersion p = refl
refused_0 default f Padding p = refl
refused_0 default f Trailing p = refl
refused_0 default f TooLong p = refl

-- entries that are called for are those that are read, where the numbers told of each give what is read of it
each_called_is : {A : Type 0} (read : ℕ → Decoded A) (call : ℕ → Report) (numbers : A → ℕ → List ℕ) (write : A → List ℕ) (told : List ℕ → List ℕ)
    → ((at : ℕ) → call at ≡ decoded_report numbers (read at)) → ((x : A) (next : ℕ) → item (numbers x next) 1 ≡ next)
    → ((x : A) (next : ℕ) → told (numbers x next) ≡ write x) → (n at : ℕ) → each_called call told n at ≡ each_again read write n at
unfolding each_called each_again
each_called_is read call numbers write told c second same zero at = refl
each_called_is {A} read call numbers write told c second same (suc n) at =
    rw (c at) (go (read at) (each_called_is read call numbers write told c second same n))
  where
    go : (d : Decoded A) → ((p : ℕ) → each_called call told n p ≡ each_again read write n p)
        → told0 (decoded_report numbers d) [] (λ ns. told ns ++ each_called call told n (item ns 1)) ≡ write_then write d (each_again read write n)
    go (found x next) more = rw (second x next, same x next, more next)
    go (refused why p) more = refused_0 [] (λ ns. told ns ++ each_called call told n (item ns 1)) why p

-- the words of a segment, behind its type
segment_called_is : (s : List ℕ) (x : Segment) (next : ℕ) → segment_called s (segment_numbers x next) ≡ segment_given s x
segment_called_is s x next = rw (le-leb 1 (length (x.kind ∷ words_in s x.numbers)) (omega arith))

path_called_is : (s : List ℕ) (n at : ℕ) → path_called s n at ≡ path_again s (record { at = at; count = n })
path_called_is s n at =
    each_called_is (λ p. mapped (segment_of p) (decode as_path_type s p)) _ segment_numbers (λ x. octets_written as_path_type (segment_given s x)) _
    (λ p. segment_told s p _ refl) (λ x next. refl) (λ x next. ap (octets_written as_path_type) (segment_called_is s x next)) n at

-- an extended entry of each type
extended_called_is : (s : List ℕ) (x : Extended) (next : ℕ) → extended_called s (entry_numbers x next) ≡ extended_given s x
extended_called_is s (IsSwitch x) next = refl
extended_called_is s (IsRouter x) next = refl
extended_called_is s (IsGateway x) next =
    rw (le-leb 5 (length (x.router_as ∷ x.src_as ∷ x.src_peer_as ∷ x.dst_as_path.count ∷ x.localpref ∷ words_in s x.communities)) (omega arith))
    (ap (λ (path : List ℕ). gateway_given x.router_as x.src_as x.src_peer_as x.dst_as_path.count path (words_in s x.communities) x.localpref)
    (path_called_is s x.dst_as_path.count x.dst_as_path.at))
extended_called_is s (IsUser x) next = refl
extended_called_is s (IsUrl x) next = refl

entries_called_is : (s : List ℕ) (n at : ℕ) → entries_called s n at ≡ entries_again s (record { at = at; count = n })
entries_called_is s n at =
    each_called_is (λ p. mapped (extended_of p) (decode extended_data_type s p)) _ entry_numbers (λ x. octets_written extended_data_type (extended_given s x)) _
    (λ p. extended_told s p _ refl) (λ x next. refl) (λ x next. ap (octets_written extended_data_type) (extended_called_is s x next)) n at

-- ---- samples

-- a flow sample, by its packet data
flow_called : (s : List ℕ) (at n : ℕ) (w : FlowWords) (p : PacketData) (e : Entries)
    → sample_called s (placed_numbers s (record { offset = at; length = n; values = Flow (record { words = w; packet_data = p; extended_data = e }) }))
    ≡ sample_given s (Flow (record { words = w; packet_data = p; extended_data = e }))
flow_called s at n w (Header x) e =
    ap (λ (xs : List ℕ). flow_given w (packet_given s (Header x)) (entries_in extended_data_type e.count xs)) (entries_called_is s e.count e.at)
flow_called s at n w (Ipv4 x) e =
    ap (λ (xs : List ℕ). flow_given w (packet_given s (Ipv4 x)) (entries_in extended_data_type e.count xs)) (entries_called_is s e.count e.at)
flow_called s at n w (Ipv6 x) e =
    ap (λ (xs : List ℕ). flow_given w (packet_given s (Ipv6 x)) (entries_in extended_data_type e.count xs)) (entries_called_is s e.count e.at)

-- the numbers told of a sample give what the reader gives of it
sample_called_is : (s : List ℕ) (at n : ℕ) (x : SampleValues) → sample_called s (placed_numbers s (record { offset = at; length = n; values = x })) ≡ sample_given s x
sample_called_is s at n (Flow x) = flow_called s at n x.words x.packet_data x.extended_data
sample_called_is s at n (Counters x) =
    let vs : List ℕ = counters_found (decode counters_type s (x.counters.at - 4)) in
    ap (λ (ns : List ℕ). some (counters_value x.sequence_number x.source_id x.sampling_interval x.counters.version ns))
    (take_at vs (replicate (37 - length vs) 0) (length vs) refl)

-- all samples of a datagram
all_called : (s : List ℕ) → Octets s → (at : ℕ) (ws : List (Value sample_type)) (end : ℕ) → at ≤ length s → EndToEnd (decode sample_type s) at ws end
    → samples_called s (length ws) at ≡ map some ws
unfolding samples_called
all_called s o at [] end low e = refl
all_called s o at (w ∷ ws) end low e =
    let p = standing s o at w ws end low e in
    let z : at + (at + size sample_type w - at) ≡ at + size sample_type w = omega arith in
    rw p.decoded
    (rw (z, sample_called_is s at (at + size sample_type w - at) (sample_of at w), sample_again s w p.valid at (at + size sample_type w) p.slice, all_called s o (at + size sample_type w) ws end p.within p.rest))

-- ---- demand 2

module _ (s : List ℕ) (octets : Octets s) (v : Value sample_datagram) (accepted : read_datagram s ≡ found v (length s)) where
  called : samples_called s (length (samples v)) (16 + size address (agent_address v)) ≡ map some (samples v)
  called = all_called s octets (16 + size address (agent_address v)) (samples v) (length s) (first_within s octets v accepted) (samples_end_to_end s octets v accepted)

  module _ (limit : ℕ) (d : List ℕ) (allowed : limit_allowed limit (length d) ≡ true) where
    pub same_octets_by_calls : length s ≤ limit → rewritten_by_calls s limit d ≡ some (afterwards (Ok (length s)) (stored d 0 s))
    unfolding rewritten_by_calls
    same_octets_by_calls fits =
        let e = octets_are s octets v accepted in
        let l : length s ≡ length (encode sample_datagram v) = ap length e in
        let h = all_valid s octets v accepted in
        rw accepted
        (ap some
        (all_written v h limit d allowed _ _ _ (head_again v h) _ called (omega arith)
        ∙ ap (λ (xs : List ℕ). afterwards (Ok (length xs)) (stored d 0 xs)) (sym e)))

    pub never_more_by_calls : limit < length s → StoppedByCalls s v limit d
    unfolding rewritten_by_calls
    never_more_by_calls more =
        let l : length s ≡ length (encode sample_datagram v) = ap length (octets_are s octets v accepted) in
        let h = all_valid s octets v accepted in
        record {
          left =
              append_each limit (started limit (datagram_of v).agent (datagram_of v).sequence_number (datagram_of v).uptime d)
              (samples_called s (length (samples v)) (16 + size address (agent_address v)));
          written = rw accepted;
          stopped = some_written v h limit d allowed _ _ _ (head_again v h) _ called (omega arith);
        }
