-- What reading a datagram, its head, an extended entry and a path segment answers, in numbers: 0 and the numbers of what is found, or the refusal's number
-- and its offset. (numbers/proofs/Exactly says what each number means.) Assumes nothing.
use Prim.Native.Nat.{ℕ}
use mathlib.Core.Path.{◌≡◌, refl, ap, ◌∙◌}
use mathlib.Core.List.{List}
use Rattle.std.specs.Prelude.{Result}
use Rattle.sflow.specs.declared.Refused.{Refused}
use Rattle.sflow.specs.Decode.{Decoded, found, refused, mapped, as_read, decode}
use Rattle.sflow.specs.Datagram.{as_path_type, extended_data_type}
use Rattle.sflow.specs.Reading.{read_datagram}
use Rattle.extended_data.specs.declared.Extended.{Extended}
use Rattle.extended_data.specs.declared.Segment.{Segment}
use Rattle.extended_data.specs.ExtendedData.{segment_of, extended_of}
use Rattle.reader.specs.declared.datagram.Head.{Head}
use Rattle.reader.specs.Datagrams.{datagram_of, as_head, datagram_read, head_at}
use Rattle.numbers.specs.Reports.{decoded_report}
use Rattle.read_calls.specs.Reading.{head_numbers, head_report, entry_numbers, extended_report, segment_numbers, segment_report}

-- ---- heads

head_told : (d : Decoded Head) → head_report (as_head d) ≡ decoded_report (λ h next. head_numbers h) d
head_told (found h next) = refl
head_told (refused why p) = refl

-- `reader::datagram::read`
pub read_told : (s : List ℕ) (r : Result Head Refused) → r ≡ datagram_read s
    → head_report r ≡ decoded_report (λ h next. head_numbers h) (mapped datagram_of (read_datagram s))
read_told s r e = ap head_report e ∙ head_told (mapped datagram_of (read_datagram s))

-- `reader::datagram::read_head`
pub read_head_told : (s : List ℕ) (r : Result Head Refused) → r ≡ as_head (head_at s) → head_report r ≡ decoded_report (λ h next. head_numbers h) (head_at s)
read_head_told s r e = ap head_report e ∙ head_told (head_at s)

-- ---- extended entries

entry_told : (d : Decoded Extended) → extended_report (as_read d) ≡ decoded_report entry_numbers d
entry_told (found x next) = refl
entry_told (refused why p) = refl

-- `extended_data::read_extended`
pub extended_told : (s : List ℕ) (at : ℕ) (r : Result (Extended × ℕ) Refused) → r ≡ as_read (mapped (extended_of at) (decode extended_data_type s at))
    → extended_report r ≡ decoded_report entry_numbers (mapped (extended_of at) (decode extended_data_type s at))
extended_told s at r e = ap extended_report e ∙ entry_told (mapped (extended_of at) (decode extended_data_type s at))

-- ---- path segments

path_told : (d : Decoded Segment) → segment_report (as_read d) ≡ decoded_report segment_numbers d
path_told (found x next) = refl
path_told (refused why p) = refl

-- `extended_data::read_segment`
pub segment_told : (s : List ℕ) (at : ℕ) (r : Result (Segment × ℕ) Refused) → r ≡ as_read (mapped (segment_of at) (decode as_path_type s at))
    → segment_report r ≡ decoded_report segment_numbers (mapped (segment_of at) (decode as_path_type s at))
segment_told s at r e = ap segment_report e ∙ path_told (mapped (segment_of at) (decode as_path_type s at))
