-- The whole text of a capture: a fold over its records with a state (document 01, "Listing a capture").
use Rattle.std.specs.Prelude.{ℕ, zero, suc, ◌+◌, ◌/◌, ◌%◌, Bool, true, false, List, [], ◌∷◌, ◌++◌, length, drop, Ok, Err}
use Rattle.reader.specs.Datagrams.{datagram_read}
use Rattle.record_lines.specs.Lines.{closing_lines}
use Rattle.record_lines.specs.Records.{record_lines}
use Rattle.listing.specs.Captures.{frame_of, datagram_in, more, count_accepted, count_refused}
use Rattle.listing.specs.Captures.{Frame}
use Rattle.listing.specs.declared.FrameFault.TheVariants.{Short, Wrong}
use Rattle.listing.specs.declared.State.{State}
use Rattle.std.specs.Prelude.{Result, Ok, Err}
use Rattle.sflow.specs.declared.Refused.{Refused}
use Rattle.reader.specs.declared.datagram.Head.{Head}

-- nothing listed so far
abbrev pub nothing_listed : State
nothing_listed = record { offset = 0; records = 0; refused = 0; samples = 0 }

-- the state behind a record: its octets and itself counted, and its samples or the refusal
abbrev pub counted_as : State → ℕ → Result Head Refused → State
counted_as t taken (Ok h) = count_accepted t taken h.samples.count
counted_as t taken (Err e) = count_refused t taken

unfoldable pub behind_record : State → ℕ → List ℕ → State
behind_record t n x = counted_as t (4 + n) (datagram_read x)

-- the lines of a record behind a state
unfoldable pub record_text : State → List ℕ → List ℕ
record_text t x = record_lines (more t.records 1) x

-- what follows the last record: where the capture goes wrong there, the line that says so, then the last line
abbrev pub end_lines : State → Bool → List ℕ
end_lines t bad = closing_lines bad t.offset t.records t.refused t.samples

-- where no whole record follows: the end of the capture, or a bad record at the offset
abbrev pub end_text : State → List ℕ → List ℕ
end_text t [] = end_lines t false
end_text t (x ∷ s) = end_lines t true

abbrev pub on_record : State → List ℕ → Frame → (State → List ℕ → List ℕ) → List ℕ
on_record t s (Ok n) more = record_text t (datagram_in s n) ++ more (behind_record t n (datagram_in s n)) (drop (4 + n) s)
on_record t s (Err Short) more = end_text t s
on_record t s (Err Wrong) more = end_text t s

-- the text of a capture's octets behind a state, with at most so many records
unfoldable pub text_within : ℕ → State → List ℕ → List ℕ
text_within zero t s = end_text t s
text_within (suc n) t s = on_record t s (frame_of s) (text_within n)

-- the text of a capture's octets behind a state
unfoldable pub text_from : State → List ℕ → List ℕ
text_from t s = text_within (length s) t s

-- ---- captures of given datagrams

-- a record: mark 73 46, the length, the datagram
abbrev pub record_with : List ℕ → List ℕ
record_with x = 115 ∷ 70 ∷ length x / 256 ∷ length x % 256 ∷ x

abbrev pub capture_of : List (List ℕ) → List ℕ
capture_of [] = []
capture_of (x ∷ xs) = record_with x ++ capture_of xs

-- the lines of records behind a state, and the state behind them
abbrev pub texts_of : State → List (List ℕ) → List ℕ
texts_of t [] = []
texts_of t (x ∷ xs) = record_text t x ++ texts_of (behind_record t (length x) x) xs

abbrev pub behind_all : State → List (List ℕ) → State
behind_all t [] = t
behind_all t (x ∷ xs) = behind_all (behind_record t (length x) x) xs
