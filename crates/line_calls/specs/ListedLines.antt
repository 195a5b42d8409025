-- The listing of a capture's records for C and Rust: a number, the lent output, and six lent numbers.
use Rattle.std.specs.Prelude.{ℕ, cond, List, [], ◌∷◌, length, get_or, leb, Option, Some, None, Ok, Err}
use Rattle.xdr.specs.Writes.{Afterwards, afterwards}
use Rattle.record_lines.specs.declared.Listed.{Listed}
use Rattle.record_lines.specs.declared.Listed.TheVariants.{Accepted, Refused as RefusedRecord}
use Rattle.listing.specs.Captures.{Frame}
use Rattle.listing.specs.declared.FrameFault.TheVariants.{Short, Wrong}
use Rattle.listing.specs.declared.Stop.{Stop}
use Rattle.listing.specs.declared.Stop.TheVariants.{GoesOn, NoRecord, Output, BadRecord}
use Rattle.listing.specs.declared.State.{State}
use Rattle.listing.specs.declared.Place.{Place}
use Rattle.listing.specs.Captures.{list_all}
use Rattle.numbers.specs.Reports.{Report, report, tell, Handed, handed, with_buffer}
use Rattle.std.specs.Prelude.{Option, Some, None}

-- ---- the answers as numbers: document 01 numbers a capture's records in no way but by their lines, and has 20 for what does not fit

-- 0 where no whole record is left (a capture without octets has none), 1 where the output may be too short for the next record, 2 where that has a wrong mark
-- or length; a listing that goes on has stopped for nothing
abbrev pub stop_number : Stop → ℕ
stop_number GoesOn = 0
stop_number NoRecord = 0
stop_number Output = 1
stop_number BadRecord = 2

-- what octets begin with, by the numbers of a listing that stops there: 0 for less than a record, 1 for a whole one, and the length of its datagram, 2 for a
-- wrong mark or length
abbrev pub frame_report : Frame → Report
frame_report (Err Short) = report 0 []
frame_report (Ok n) = report 1 (n ∷ [])
frame_report (Err Wrong) = report 2 []

-- a record's lines: 0, the offset behind them, and of an accepted datagram how many samples it has; 20 where the output may be too short for them
abbrev pub listed_report : Option Listed → Report
listed_report (Some (Accepted next n)) = report 0 (next ∷ n ∷ [])
listed_report (Some (RefusedRecord next)) = report 0 (next ∷ [])
listed_report None = report 20 []

-- lines written: 0 and the offset behind them; 20 where the output may be too short for them
abbrev pub written_report : Option ℕ → Report
written_report (Some next) = report 0 (next ∷ [])
written_report None = report 20 []

-- ---- the records of a capture

-- what was listed so far, from the first four numbers: offset, records, refused, samples
abbrev pub state_in : List ℕ → State
state_in xs = record { offset = get_or xs 0 0; records = get_or xs 1 0; refused = get_or xs 2 0; samples = get_or xs 3 0 }

-- the state, then how many octets of the capture were taken and how many of the output written
abbrev pub place_numbers : Place → List ℕ
place_numbers p = p.state.offset ∷ p.state.records ∷ p.state.refused ∷ p.state.samples ∷ p.at ∷ p.out ∷ []

-- the number of what stopped the listing, and the place's numbers
abbrev pub place_report : Place → Report
place_report p = report (stop_number p.stop) (place_numbers p)

-- a place and the output, with the array that the place's report goes into
abbrev pub listed_at : Afterwards Place → List ℕ → Handed
listed_at (afterwards p d) xs = with_buffer d (tell (place_report p) xs)

-- the whole records of a capture s listed into an output d behind the state that the numbers xs begin with; 99, which document 01 does not have, where there
-- are fewer than six
unfoldable pub listed_lines : List ℕ → List ℕ → List ℕ → Handed
listed_lines s d xs = cond (leb 6 (length xs)) (listed_at (list_all d s (state_in xs)) xs) (handed 99 d xs)

-- what was listed so far
abbrev pub counted_to : ℕ → ℕ → ℕ → ℕ → State
counted_to offset records refused samples = record { offset = offset; records = records; refused = refused; samples = samples }

-- lines written to the output's front, with the array that their length goes into
abbrev pub ended_at : Afterwards (Option ℕ) → List ℕ → Handed
ended_at (afterwards w d) xs = with_buffer d (tell (written_report w) xs)
