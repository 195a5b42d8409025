-- The lines of one record (document 01, "Listing a capture").
use Rattle.std.specs.Prelude.{ℕ, ◌+◌, ◌*◌, List, ◌++◌, length, leb, Option, Some, None}
use Rattle.xdr.specs.Writes.{Afterwards, store_if}
use Rattle.sflow.specs.Refusals.{refusal_number}
use Rattle.reader.specs.Datagrams.{datagram_read, walk}
use Rattle.record_lines.specs.Lines.{sample_lines, agent_line, refused_line}
use Rattle.record_lines.specs.declared.Listed.{Listed}
use Rattle.record_lines.specs.declared.Listed.TheVariants.{Accepted, Refused as RefusedRecord}
use Rattle.std.specs.Prelude.{Result, Ok, Err}
use Rattle.sflow.specs.declared.Refused.{Refused}
use Rattle.reader.specs.declared.datagram.Head.{Head}

-- the lines of a record with its number: the first line and one for each sample, or the line of the refusal
abbrev pub lines_of : ℕ → List ℕ → Result Head Refused → List ℕ
lines_of number s (Ok h) = agent_line number h (length s) ++ sample_lines (walk s h.samples.count h.samples.at).met
lines_of number s (Err e) = refused_line number (refusal_number e.why) e.at

unfoldable pub record_lines : ℕ → List ℕ → List ℕ
record_lines number s = lines_of number s (datagram_read s)

-- room that is enough for the lines, and that is asked for
abbrev pub room_of : Result Head Refused → ℕ
room_of (Ok h) = 164 + 136 * h.samples.count
room_of (Err e) = 164

-- what is answered where the lines end at an offset
abbrev pub answer_to : Result Head Refused → ℕ → Listed
answer_to (Ok h) next = Accepted next h.samples.count
answer_to (Err e) next = RefusedRecord next

-- a record's lines put into an output at an offset, or the output as it was
unfoldable pub list_record : List ℕ → ℕ → ℕ → List ℕ → Afterwards (Option Listed)
list_record d at number s =
    store_if (leb (at + room_of (datagram_read s)) (length d)) (Some (answer_to (datagram_read s) (at + length (record_lines number s)))) None d at (record_lines number s)
