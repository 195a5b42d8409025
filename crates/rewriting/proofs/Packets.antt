-- Packet data are given again from what the reader gives of them. Assumes nothing.
use Prim.Native.Nat.{ℕ, zero, suc, ◌+◌}
use native.Mathlib.Omega.{arith}
use Prim.{tt}
use mathlib.Core.Path.{◌≡◌, ap}
use mathlib.Core.List.{List, [], ◌∷◌, ◌++◌}
use mathlib.Core.Option.{some}
use lib.ListN.{length}
use Rattle.sflow.specs.declared.Refusal.TheVariants.{HeaderLength}
use Rattle.sflow.specs.Slices.{Slice}
use Rattle.sflow.specs.Grammar.{at_most, Form, opaque, Arm, case, Value, Valid, encode}
use Rattle.sflow.specs.Datagram.{int, ip_v4, ip_v6, word, sampled_header, sampled_ipv4, sampled_ipv6, packet_data_type}
use Rattle.sflow.proofs.Slices.{second}
use Rattle.sflow.proofs.Items.{word_rest, each_length}
use Rattle.fields.specs.Parts.{item}
use Rattle.fields.specs.Strings.{text_in}
use Rattle.packet_data.specs.Packets.{header_of, ipv4_of, ipv6_of, packet_of}
use Rattle.rewriting.specs.Forms.{packet_given}
use Rattle.rewriting.proofs.Fields.{items_are, quad_again, text_again, past_all}

-- a header: protocol, frame length, octets
header_again : (s : List ℕ) (at next : ℕ) (v : Value sampled_header) → Valid sampled_header v → Slice s at next (encode sampled_header v)
    → packet_given s (header_of at v) ≡ some (1, v)
unfolding encode
header_again s at next v h p =
    let frame : Value word = v.1.0 in
    let xs : List ℕ = v.1.1 in
    let f : item frame 0 ∷ [] ≡ frame = items_are (4 ∷ []) frame h.2.0 in
    let long : length (encode word frame) ≡ 4 = each_length (4 ∷ []) frame h.2.0 in
    let behind : Slice s (at + 4) next (encode word frame ++ encode (opaque (at_most 256 HeaderLength)) xs) = word_rest s at v.0 next _ p in
    let q : Slice s (at + 4 + 4) next (encode (opaque (at_most 256 HeaderLength)) xs) =
    rw long at (second (encode word frame) (encode (opaque (at_most 256 HeaderLength)) xs) behind) in
    let z : at + 8 ≡ at + 4 + 4 = omega arith in
    let t : text_in s (record { at = at + 8 + 4; length = length xs }) ≡ xs = rw z (text_again s (at + 4 + 4) next (at_most 256 HeaderLength) xs q) in
    rw (t, f)

ipv4_again : (s : List ℕ) (v : Value sampled_ipv4) → Valid sampled_ipv4 v → packet_given s (ipv4_of v) ≡ some (2, v)
ipv4_again s v h = ap (λ (l : List ℕ). some (2, l)) (items_are (int ∷ int ∷ ip_v4 ∷ ip_v4 ∷ int ∷ int ∷ int ∷ int ∷ []) v h)

ipv6_again : (s : List ℕ) (v : Value sampled_ipv6) → Valid sampled_ipv6 v → packet_given s (ipv6_of v) ≡ some (3, v)
ipv6_again s v h =
    rw (quad_again (item v 2), quad_again (item v 3))
    (ap (λ (l : List ℕ). some (3, l)) (items_are (int ∷ int ∷ ip_v6 ∷ ip_v6 ∷ int ∷ int ∷ int ∷ int ∷ []) v h))

-- the arms of packet data
abbrev packet_types : List (Arm Form)
packet_types = case 1 sampled_header ∷ case 2 sampled_ipv4 ∷ case 3 sampled_ipv6 ∷ []

-- packet data of any type
pub packet_again : (s : List ℕ) (v : Value packet_data_type) → Valid packet_data_type v → (at next : ℕ) → Slice s at next (encode packet_data_type v)
    → packet_given s (packet_of at v) ≡ some v
unfolding encode
packet_again s (zero, w) h at next p = absurd h.1
packet_again s (suc zero, w) h at next p = header_again s (at + 4) next w h.2 (word_rest s at 1 next _ p)
packet_again s (suc (suc zero), w) h at next p = ipv4_again s w h.2
packet_again s (suc (suc (suc zero)), w) h at next p = ipv6_again s w h.2
packet_again s (suc (suc (suc (suc n))), w) h at next p = absurd (past_all packet_types (suc (suc (suc (suc n)))) (omega arith, (omega arith, (omega arith, tt))) h.1)
