-- What reading a path segment finds, once its type was read. Assumes nothing.
use Prim.Native.Nat.{ℕ, ◌+◌}
use native.Mathlib.Omega.{arith}
use mathlib.Core.Path.{◌≡◌, ◌∙◌}
use mathlib.Core.List.{List}
use Rattle.std.specs.Prelude.{Ok}
use Rattle.xdr.specs.Items.{word_at}
use Rattle.xdr.proofs.Reading.{word_read}
use Rattle.sflow.specs.declared.Refusal.TheVariants.{SegmentType}
use Rattle.sflow.specs.Grammar.{list}
use Rattle.sflow.specs.Decode.{Decoded, mapped, decode}
use Rattle.sflow.specs.Datagram.{word, as_path_type}
use Rattle.fields.specs.declared.words.Entries.{Entries}
use Rattle.fields.specs.Parts.{entries_at}
use Rattle.fields.proofs.Compounds.{wrapped, enumeration_in}
use Rattle.extended_data.specs.declared.Segment.{Segment}
use Rattle.extended_data.specs.ExtendedData.{segment_of}
use Rattle.sflow.specs.Grammar.{one_to}
use mathlib.Core.Bool.{true}

-- a segment of a type and its numbers
abbrev pub segment_with : ℕ → Entries → Segment
segment_with kind numbers = record { kind = kind; numbers = numbers }

-- the type was read: what the numbers answer is the answer
pub segment_numbers : (s : List ℕ) (at kind start : ℕ) (d : Decoded Entries) → word_at s at ≡ Ok (kind, start) → one_to 2 kind ≡ true
    → mapped (entries_at (start + 4)) (decode (list word) s start) ≡ d → mapped (segment_of at) (decode as_path_type s at) ≡ mapped (segment_with kind) d
segment_numbers s at kind start d e t f =
    let m : at + 8 ≡ start + 4 = omega (arith, (word_read s at kind start e).next_is) in
    enumeration_in SegmentType 2 (list word) s at (segment_of at) kind start e t
    ∙ rw m (wrapped (segment_with kind) (entries_at (start + 4)) (decode (list word) s start) d f)
