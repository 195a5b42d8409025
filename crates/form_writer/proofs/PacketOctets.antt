-- The octets of packet data as words and a string. Assumes nothing.
use Prim.Native.Nat.{ℕ, ◌^◌, ◌<◌}
use mathlib.Core.Path.{◌≡◌, refl}
use mathlib.Core.List.{List, [], ◌∷◌, ◌++◌, flat_map, append_assoc, append-nil}
use lib.ListN.{length}
use Rattle.xdr.specs.Numbers.{quad_number}
use Rattle.xdr.specs.Writes.{padded_octets}
use Rattle.xdr.proofs.Octets.{quad_octets}
use Rattle.sflow.specs.Grammar.{octets_of_each, encode}
use Rattle.sflow.specs.Datagram.{packet_data_type}
use Rattle.form_writer.specs.Parts.{words_octets}
use Rattle.form_writer.specs.Values.{header_value}

-- the octets of a header as words and a string
pub header_octets : (protocol frame : ℕ) (xs : List ℕ)
    → words_octets (1 ∷ protocol ∷ frame ∷ length xs ∷ []) ++ (padded_octets xs ++ []) ≡ encode packet_data_type (header_value protocol frame xs)
unfolding words_octets flat_map padded_octets encode octets_of_each
header_octets protocol frame xs = simp (append_assoc, append-nil)

-- the same without what would follow
pub header_words : (protocol frame : ℕ) (xs : List ℕ)
    → words_octets (1 ∷ protocol ∷ frame ∷ length xs ∷ []) ++ padded_octets xs ≡ encode packet_data_type (header_value protocol frame xs)
header_words protocol frame xs = rw (← append-nil (padded_octets xs)) (header_octets protocol frame xs)

-- the octets of an IPv4 packet as words
pub ipv4_octets : (a b c d e f g h : ℕ)
    → words_octets (2 ∷ a ∷ b ∷ c ∷ d ∷ e ∷ f ∷ g ∷ h ∷ []) ≡ encode packet_data_type (2, (a ∷ b ∷ c ∷ d ∷ e ∷ f ∷ g ∷ h ∷ []))
unfolding words_octets flat_map encode octets_of_each
ipv4_octets a b c d e f g h = refl

-- the octets of an IPv6 packet as words, four for each address
pub ipv6_octets : (a b s1 s2 s3 s4 t1 t2 t3 t4 e f g h : ℕ) → s2 < 2 ^ 32 → s3 < 2 ^ 32 → s4 < 2 ^ 32 → t2 < 2 ^ 32 → t3 < 2 ^ 32 → t4 < 2 ^ 32
    → words_octets (3 ∷ a ∷ b ∷ s1 ∷ s2 ∷ s3 ∷ s4 ∷ t1 ∷ t2 ∷ t3 ∷ t4 ∷ e ∷ f ∷ g ∷ h ∷ [])
    ≡ encode packet_data_type (3, (a ∷ b ∷ quad_number s1 s2 s3 s4 ∷ quad_number t1 t2 t3 t4 ∷ e ∷ f ∷ g ∷ h ∷ []))
unfolding words_octets flat_map encode octets_of_each
ipv6_octets a b s1 s2 s3 s4 t1 t2 t3 t4 e f g h i2 i3 i4 j2 j3 j4 =
    rw (quad_octets s1 s2 s3 s4 i2 i3 i4, quad_octets t1 t2 t3 t4 j2 j3 j4) (simp append_assoc)
