-- The same with the functions that C and Rust call: the numbers that the reading calls tell of a datagram are given to the writing calls.
use Rattle.std.specs.Prelude.{ℕ, zero, suc, ◌+◌, ◌≡◌, cond, List, [], ◌∷◌, ◌++◌, take, drop, eqb, Result}
use Rattle.std.proofs.Math.Option.{Option, none, some}
use Rattle.xdr.specs.Writes.{Afterwards}
use Rattle.sflow.specs.Grammar.{Value}
use Rattle.sflow.specs.Decode.{mapped, decode}
use Rattle.sflow.specs.Datagram.{packet_data_type, as_path_type, extended_data_type, sample_type, sample_datagram}
use Rattle.fields.specs.declared.strings.Text.{Text}
use Rattle.fields.specs.declared.words.Entries.{Entries}
use Rattle.fields.specs.Parts.{item}
use Rattle.fields.specs.Strings.{text_in}
use Rattle.sflow.specs.Decode.{as_read}
use Rattle.extended_data.specs.ExtendedData.{segment_of, extended_of}
use Rattle.reader.specs.Samples.{sample_of, as_sample}
use Rattle.reader.specs.Datagrams.{datagram_read}
use Rattle.form_writer.specs.declared.parts.WriteRefusal.{WriteRefusal}
use Rattle.form_writer.specs.Values.{header_value}
use Rattle.sample_writer.specs.CounterValues.{counters_value}
use Rattle.writer.specs.Datagrams.{started}
use Rattle.numbers.specs.Reports.{Report}
use Rattle.numbers.specs.Addresses.{address_with}
use Rattle.read_calls.specs.Reading.{head_report, extended_report, segment_report}
use Rattle.sample_calls.specs.SampleReports.{sample_report}
use Rattle.form_calls.specs.Forms.{ipv4_from, ipv6_from, switch_from, router_from, gateway_from, user_from, url_from, segment_from, flow_from}
use Rattle.rewriting.specs.Forms.{words_in, octets_written}
use Rattle.rewriting.specs.Rewriting.{append_each, Stopped}

-- a string by the two numbers told of it, offset and length; a list of words by its count and offset
abbrev pub text_at : ℕ → ℕ → Text
text_at at n = record { at = at; length = n }

abbrev pub words_at : ℕ → ℕ → Entries
words_at n at = record { at = at; count = n }

-- ---- entries

-- what a call tells, used where it tells 0; nothing where it refuses
abbrev pub told0 : {A : Type 0} → Report → A → (List ℕ → A) → A
told0 r default f = cond (eqb r.number 0) (f r.numbers) default

-- so many entries from an offset on, each called for, and written by the numbers told of it; the second of them is the offset behind the entry
unfoldable pub each_called : (ℕ → Report) → (List ℕ → List ℕ) → ℕ → ℕ → List ℕ
each_called call write zero at = []
each_called call write (suc n) at = told0 (call at) [] λ ns. write ns ++ each_called call write n (item ns 1)

-- sflow4_segment, then sflow4_write: type; count and offset of the words
abbrev pub segment_called : List ℕ → List ℕ → Option (Value as_path_type)
segment_called s ns = segment_from (item ns 0 ∷ words_in s (words_at (item ns 2) (item ns 3)))

abbrev pub path_called : List ℕ → ℕ → ℕ → List ℕ
path_called s n at =
    each_called (λ p. segment_report (as_read (mapped (segment_of p) (decode as_path_type s p)))) (λ ns. octets_written as_path_type (segment_called s ns)) n at

-- sflow4_extended, then sflow4_write, by the extended data type
abbrev pub extended_called : List ℕ → List ℕ → Option (Value extended_data_type)
extended_called s ns =
    cond (eqb (item ns 0) 1) (switch_from (drop 2 ns))
    (cond (eqb (item ns 0) 2) (router_from (drop 2 ns))
    (cond (eqb (item ns 0) 3)
    (gateway_from (item ns 2 ∷ item ns 3 ∷ item ns 4 ∷ item ns 5 ∷ item ns 9 ∷ words_in s (words_at (item ns 7) (item ns 8))) (path_called s (item ns 5) (item ns 6)))
    (cond (eqb (item ns 0) 4) (user_from [] (text_in s (text_at (item ns 2) (item ns 3))) (text_in s (text_at (item ns 4) (item ns 5))))
    (url_from (item ns 2 ∷ []) (text_in s (text_at (item ns 3) (item ns 4)))))))

abbrev pub entries_called : List ℕ → ℕ → ℕ → List ℕ
entries_called s n at =
    each_called (λ p. extended_report (as_read (mapped (extended_of p) (decode extended_data_type s p)))) (λ ns. octets_written extended_data_type (extended_called s ns)) n at

-- ---- samples

-- the packet data of a flow sample, by their type
abbrev pub packet_called : List ℕ → List ℕ → Option (Value packet_data_type)
packet_called s ns =
    cond (eqb (item ns 10) 1) (some (header_value (item ns 13) (item ns 14) (text_in s (text_at (item ns 15) (item ns 16)))))
    (cond (eqb (item ns 10) 2) (ipv4_from (drop 13 ns)) (ipv6_from (drop 13 ns)))

-- sflow4_sample, then sflow4_append_header, sflow4_append_ipv4, sflow4_append_ipv6 or sflow4_append_counters
abbrev pub sample_called : List ℕ → List ℕ → Option (Value sample_type)
sample_called s ns =
    cond (eqb (item ns 0) 1)
    (flow_from (item ns 3 ∷ item ns 4 ∷ item ns 5 ∷ item ns 6 ∷ item ns 7 ∷ item ns 8 ∷ item ns 9 ∷ item ns 11 ∷ []) (packet_called s ns) (entries_called s (item ns 11) (item ns 12)))
    (some (counters_value (item ns 3) (item ns 4) (item ns 5) (item ns 6) (take (item ns 7) (drop 8 ns))))

-- so many samples from an offset on; the next begins where offset and length of the one before end
unfoldable pub samples_called : List ℕ → ℕ → ℕ → List (Option (Value sample_type))
samples_called s zero at = []
samples_called s (suc n) at =
    told0 (sample_report s (as_sample at (mapped (sample_of at) (decode sample_type s at)))) [] λ ns. sample_called s ns ∷ samples_called s n (item ns 1 + item ns 2)

-- ---- a datagram

-- sflow4_read, sflow4_start with the head told, and the appends
unfoldable pub rewritten_by_calls : List ℕ → ℕ → List ℕ → Option (Afterwards (Result ℕ WriteRefusal))
rewritten_by_calls s limit d =
    told0 (head_report (datagram_read s)) none λ ns.
    some
    (append_each limit (started limit (address_with (item ns 0) (item ns 1) (item ns 2) (item ns 3) (item ns 4)) (item ns 5) (item ns 6) d)
    (samples_called s (item ns 7) (item ns 8)))

-- writing again stopped for want of room
pub record StoppedByCalls (s : List ℕ) (v : Value sample_datagram) (limit : ℕ) (d : List ℕ) : Type 0 where
  pub left : Afterwards (Result ℕ WriteRefusal)
  pub written : rewritten_by_calls s limit d ≡ some left
  pub stopped : Stopped v limit d left
