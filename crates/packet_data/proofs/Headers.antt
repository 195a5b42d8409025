-- What reading a sampled header finds, by what the reads of its items answer. Assumes nothing.
use Prim.Native.Nat.{ℕ, ◌+◌, ◌≤◌, ◌<◌}
use native.Mathlib.Omega.{arith}
use mathlib.Core.Path.{◌≡◌, ◌∙◌}
use mathlib.Core.List.{List, [], ◌∷◌}
use mathlib.Core.Bool.{true, false}
use lib.ListN.{take, drop}
use Rattle.xdr.specs.Items.{word_at, padded_at}
use Rattle.xdr.proofs.Reading.{word_read}
use Rattle.sflow.specs.declared.Refusal.{Refusal}
use Rattle.sflow.specs.declared.Refusal.TheVariants.{CutItem, HeaderProtocol, HeaderLength}
use Rattle.sflow.specs.Grammar.{one_to, Form, opaque, at_most, ◌then◌}
use Rattle.sflow.specs.Decode.{found, refused, mapped, string_item, decode}
use Rattle.sflow.specs.Datagram.{word, sampled_header}
use Rattle.sflow.proofs.Steps.{union_cut, fixed_word, fixed_word_cut, fixed_end, limited_cut, limited_over, limited_word, then_found, then_refused}
use Rattle.packet_data.specs.declared.PacketData.TheVariants.{Header}
use Rattle.fields.specs.Parts.{as_passed}
use Rattle.packet_data.specs.Packets.{header_of}
use Rattle.fields.proofs.Passing.{passed_refused}
use Rattle.fields.proofs.Texts.{octets_found}
use Rattle.fields.proofs.Compounds.{enumeration_in, enumeration_out}
use Rattle.std.specs.Prelude.{Ok, Err}
use Rattle.xdr.specs.Items.{cut}
use Rattle.std.specs.Prelude.{Ok, Err}
use Rattle.sflow.specs.Decode.{refused_at}

-- the header's octets with their length word
abbrev octets : Form
octets = opaque (at_most 256 HeaderLength)

-- the protocol is cut short
pub header_cut : (s : List ℕ) (at p : ℕ) → word_at s at ≡ cut p → mapped (header_of at) (decode sampled_header s at) ≡ refused CutItem p
header_cut s at p e = union_cut _ _ _ s at (header_of at) p e

-- the protocol is 0, or above 13
pub header_protocol : (s : List ℕ) (at v next : ℕ) → word_at s at ≡ Ok (v, next) → one_to 13 v ≡ false
    → mapped (header_of at) (decode sampled_header s at) ≡ refused HeaderProtocol at
header_protocol s at v next e t = enumeration_out _ _ _ s at (header_of at) v next e t

-- behind a protocol from 1 to 13
module _ (s : List ℕ) (at v frame : ℕ) (e : word_at s at ≡ Ok (v, frame)) (t : one_to 13 v ≡ true) where
  header_arm : mapped (header_of at) (decode sampled_header s at) ≡ mapped (λ w. header_of at (v, w)) (decode (word then octets) s frame)
  header_arm = enumeration_in _ _ _ s at (header_of at) v frame e t

  -- the frame's length is cut short
  pub header_frame_cut : (p : ℕ) → word_at s frame ≡ cut p → mapped (header_of at) (decode sampled_header s at) ≡ refused CutItem p
  header_frame_cut p f = header_arm ∙ then_refused word octets s frame (λ w. header_of at (v, w)) CutItem p (fixed_word_cut s frame p [] f)

  -- behind the frame's length
  module _ (n place : ℕ) (f : word_at s frame ≡ Ok (n, place)) where
    header_octets : mapped (header_of at) (decode sampled_header s at) ≡ mapped (λ xs. header_of at (v, (n ∷ [], xs))) (decode octets s place)
    header_octets =
        let g : decode word s frame ≡ found (n ∷ []) place = rw (fixed_word s frame n place [] f, fixed_end) in
        header_arm ∙ then_found word octets s frame (λ w. header_of at (v, w)) (n ∷ []) place g

    -- the length word is cut short
    pub header_length_cut : (p : ℕ) → word_at s place ≡ cut p → mapped (header_of at) (decode sampled_header s at) ≡ refused CutItem p
    header_length_cut p g = header_octets ∙ rw (limited_cut 256 HeaderLength s place p g)

    -- more octets than a header may have
    pub header_long : (m start : ℕ) → word_at s place ≡ Ok (m, start) → 256 < m
        → mapped (header_of at) (decode sampled_header s at) ≡ refused HeaderLength place
    header_long m start g k = header_octets ∙ rw (limited_over 256 HeaderLength s place m start g k)

    -- the octets are there
    pub header_found : (m start next : ℕ) → word_at s place ≡ Ok (m, start) → m ≤ 256
        → as_passed (string_item (take m (drop start s)) (padded_at s start m)) ≡ Ok next
        → mapped (header_of at) (decode sampled_header s at)
        ≡ found (Header (record { protocol = v; frame_length = n; header = record { at = start; length = m } })) next
    header_found m start next g k q =
        let r = octets_found s start m next q in
        let a : frame ≡ at + 4 = (word_read s at v frame e).next_is in
        let b : place ≡ frame + 4 = (word_read s frame n place f).next_is in
        let c : start ≡ place + 4 = (word_read s place m start g).next_is in
        let z : at + 8 + 4 ≡ start = omega arith in
        header_octets ∙ rw (limited_word 256 HeaderLength s place m start g k, r.octets, r.long, z)

    -- the octets are refused
    pub header_refused : (m start : ℕ) (why : Refusal) (p : ℕ) → word_at s place ≡ Ok (m, start) → m ≤ 256
        → as_passed (string_item (take m (drop start s)) (padded_at s start m)) ≡ Err (refused_at why p)
        → mapped (header_of at) (decode sampled_header s at) ≡ refused why p
    header_refused m start why p g k q =
        header_octets ∙ rw (limited_word 256 HeaderLength s place m start g k, passed_refused (string_item (take m (drop start s)) (padded_at s start m)) why p q)
