-- The numbers that listing answers, each exactly where it holds, with the values beside it.
use Rattle.std.specs.Prelude.{ℕ, ◌+◌, ◌≤◌, ◌<◌, ◌≡◌, ◌⊎◌, ◌↔◌, List, [], ◌∷◌, length, get_or, drop, Err}
use Rattle.reader.specs.Datagrams.{datagram_read}
use Rattle.xdr.specs.Writes.{stored}
use Rattle.sflow.specs.declared.Refusal.{Refusal}
use Rattle.reader.specs.declared.datagram.Head.{Head}
use Rattle.record_lines.specs.Records.{record_lines, room_of}
use Rattle.listing.specs.declared.FrameFault.TheVariants.{Short, Wrong}
use Rattle.listing.specs.declared.Place.{Place}
use Rattle.listing.specs.Captures.{length_in, frame_of, NoRoomFor}
use Rattle.numbers.specs.Reports.{Report}
use Rattle.line_calls.specs.ListedLines.{place_report}
use Rattle.std.specs.Prelude.{Ok, Err}
use Rattle.sflow.specs.Decode.{refused_at}

-- the mark 73 46
abbrev pub Marked : List ℕ → Type 0
Marked s = (get_or s 0 0 ≡ 115) × (get_or s 1 0 ≡ 70)

-- the record that octets s begin with
pub record FrameTold (s : List ℕ) (r : Report) : Type 0 where
  pub less : (r.number ≡ 0) ↔ ((length s < 4) ⊎ (Marked s × ((length_in s ≤ 65507) × (length s < 4 + length_in s))))
  pub whole : (r.number ≡ 1) ↔ (Marked s × ((length_in s ≤ 65507) × (4 + length_in s ≤ length s)))
  pub wrong : (r.number ≡ 2) ↔ ((4 ≤ length s) × ((Marked s → ⊥) ⊎ (65507 < length_in s)))
  pub values : r.number ≡ 1 → r.numbers ≡ length_in s ∷ []

-- the records of a buffer s listed up to a place p, with the output d afterwards
pub record RecordsTold (d s : List ℕ) (p : Place) : Type 0 where
  pub no_record : ((place_report p).number ≡ 0) ↔ (frame_of (drop p.at s) ≡ Err Short)
  pub no_room : ((place_report p).number ≡ 1) ↔ NoRoomFor d s p
  pub bad_record : ((place_report p).number ≡ 2) ↔ (frame_of (drop p.at s) ≡ Err Wrong)

-- the lines of record number n with the datagram s, at an offset of an output d that is e afterwards
pub record RecordTold (d : List ℕ) (at n : ℕ) (s : List ℕ) (r : Report) (e : List ℕ) : Type 0 where
  pub no_room : (r.number ≡ 20) ↔ (length d < at + room_of (datagram_read s))
  pub written : (r.number ≡ 0) ↔ (at + room_of (datagram_read s) ≤ length d)
  pub accepted : (h : Head) → datagram_read s ≡ Ok h → r.number ≡ 0 → r.numbers ≡ (at + length (record_lines n s)) ∷ h.samples.count ∷ []
  pub refused : (why : Refusal) (p : ℕ) → datagram_read s ≡ Err (refused_at why p) → r.number ≡ 0 → r.numbers ≡ (at + length (record_lines n s)) ∷ []
  pub stores : r.number ≡ 0 → e ≡ stored d at (record_lines n s)
  pub keeps : r.number ≡ 20 → e ≡ d

-- lines xs, for which some room is asked, at an offset of an output d that is e afterwards
pub record LinesTold (room : ℕ) (d : List ℕ) (at : ℕ) (xs : List ℕ) (r : Report) (e : List ℕ) : Type 0 where
  pub no_room : (r.number ≡ 20) ↔ (length d < at + room)
  pub written : (r.number ≡ 0) ↔ (at + room ≤ length d)
  pub values : r.number ≡ 0 → r.numbers ≡ (at + length xs) ∷ []
  pub stores : r.number ≡ 0 → e ≡ stored d at xs
  pub keeps : r.number ≡ 20 → e ≡ d
