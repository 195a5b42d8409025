-- A capture's records and their listing (document 01, "Listing a capture").
use Rattle.std.specs.Prelude.{◌≡◌, ℕ, zero, suc, ◌+◌, ◌*◌, ◌%◌, ◌^◌, ◌<◌, Bool, true, false, cond, ◌↔◌, List, length, take, drop, ◌==◌, nat_le, nat_lt, slice_index, Option, Some, None, Result, Ok, Err}
use Rattle.reader.specs.Datagrams.{datagram_read}
use Rattle.xdr.specs.Writes.{Afterwards, afterwards}
use Rattle.record_lines.specs.Records.{room_of, list_record}
use Rattle.record_lines.specs.declared.Listed.{Listed}
use Rattle.record_lines.specs.declared.Listed.TheVariants.{Accepted, Refused as RefusedRecord}
use Rattle.listing.specs.declared.FrameFault.{FrameFault}
use Rattle.listing.specs.declared.FrameFault.TheVariants.{Short, Wrong}
use Rattle.listing.specs.declared.Stop.{Stop}
use Rattle.listing.specs.declared.Stop.TheVariants.{GoesOn, NoRecord, Output, BadRecord}
use Rattle.listing.specs.declared.State.{State}
use Rattle.listing.specs.declared.Place.{Place}

-- ---- records

-- the length that a record's third and fourth octets give
abbrev pub length_in : List ℕ → ℕ
length_in s = slice_index s 2 * 256 + slice_index s 3

-- a whole record: the length of its datagram; or why there is none
abbrev pub Frame : Type 0
Frame = Result ℕ FrameFault

-- the record that octets begin with: mark 73 46, a length of at most 65,507 in two octets, and so many octets
unfoldable pub frame_of : List ℕ → Frame
frame_of s =
    cond (nat_le 4 (length s))
    (cond (slice_index s 0 == 115)
    (cond (slice_index s 1 == 70)
    (cond (nat_lt 65507 (length_in s)) (Err Wrong)
    (cond (nat_le (4 + length_in s) (length s)) (Ok (length_in s)) (Err Short)))
    (Err Wrong))
    (Err Wrong))
    (Err Short)

-- the datagram of a record with its length
abbrev pub datagram_in : List ℕ → ℕ → List ℕ
datagram_in s n = take n (drop 4 s)

-- ---- the state

abbrev pub more : ℕ → ℕ → ℕ
more x y = (x + y) % 2 ^ 64

-- the state behind a record that takes so many octets: counted, and one more refused or its samples counted
abbrev pub count_accepted : State → ℕ → ℕ → State
count_accepted t taken n = record { offset = more t.offset taken; records = more t.records 1; refused = t.refused; samples = more t.samples n }

abbrev pub count_refused : State → ℕ → State
count_refused t taken = record { offset = more t.offset taken; records = more t.records 1; refused = more t.refused 1; samples = t.samples }

-- ---- the records of a buffer, into an output

abbrev pub stopped_as : Place → Stop → Place
stopped_as p x = record { at = p.at; out = p.out; state = p.state; stop = x }

-- the place behind a record that takes so many octets
abbrev pub behind : Place → ℕ → Option Listed → Place
behind p taken None = stopped_as p Output
behind p taken (Some (RefusedRecord out)) = record { at = p.at + taken; out = out; state = count_refused p.state taken; stop = GoesOn }
behind p taken (Some (Accepted out n)) = record { at = p.at + taken; out = out; state = count_accepted p.state taken n; stop = GoesOn }

abbrev pub on_listing : Place → ℕ → Afterwards (Option Listed) → Afterwards Place
on_listing p taken (afterwards l d) = afterwards (behind p taken l) d

abbrev pub on_frame : List ℕ → List ℕ → Place → Frame → Afterwards Place
on_frame d s p (Err Short) = afterwards (stopped_as p NoRecord) d
on_frame d s p (Err Wrong) = afterwards (stopped_as p BadRecord) d
on_frame d s p (Ok n) = on_listing p (4 + n) (list_record d p.out (more p.state.records 1) (datagram_in s n))

-- the record at a place of a buffer
unfoldable pub list_step : List ℕ → List ℕ → Place → Afterwards Place
list_step d s p = on_frame d (drop p.at s) p (frame_of (drop p.at s))

abbrev pub is_over : Stop → Bool
is_over GoesOn = false
is_over NoRecord = true
is_over Output = true
is_over BadRecord = true

abbrev pub go_on : Afterwards Place → (List ℕ → Place → Afterwards Place) → Afterwards Place
go_on (afterwards p d) f = cond (is_over p.stop) (afterwards p d) (f d p)

-- at most so many records, up to the first stop; where as many as there are octets are listed, no record is left
unfoldable pub list_from : ℕ → List ℕ → List ℕ → Place → Afterwards Place
list_from zero d s p = afterwards (stopped_as p NoRecord) d
list_from (suc n) d s p = go_on (list_step d s p) λ e q. list_from n e s q

-- the beginning of a buffer and of an output
abbrev pub begins : State → Place
begins t = record { at = 0; out = 0; state = t; stop = GoesOn }

-- all whole records of a buffer, as far as the output has room
unfoldable pub list_all : List ℕ → List ℕ → State → Afterwards Place
list_all d s t = list_from (length s) d s (begins t)

-- ---- why listing stops

-- what is left of a buffer s from a place on begins with a whole record, for whose lines an output d has no room there
pub record NoRoomFor (d s : List ℕ) (p : Place) : Type 0 where
  pub len : ℕ
  pub whole : frame_of (drop p.at s) ≡ Ok len
  pub no_room : length d < p.out + room_of (datagram_read (datagram_in (drop p.at s) len))

-- the place where listing stopped, with the reason: it never answers that it goes on, and each reason is given exactly where it holds of what is left
pub record StopsAt (d s : List ℕ) (p : Place) : Type 0 where
  pub over : p.stop ≡ GoesOn → ⊥
  pub no_record : (p.stop ≡ NoRecord) ↔ (frame_of (drop p.at s) ≡ Err Short)
  pub bad_record : (p.stop ≡ BadRecord) ↔ (frame_of (drop p.at s) ≡ Err Wrong)
  pub no_room : (p.stop ≡ Output) ↔ NoRoomFor d s p
