-- What reading a sampled IPv4 or IPv6 packet finds, and packet data of any type. Assumes nothing.
use Prim.Native.Nat.{ℕ, ◌+◌, ◌^◌, ◌<◌}
use mathlib.Core.Path.{◌≡◌, refl, sym, ap, ◌∙◌}
use mathlib.Core.List.{List, [], ◌∷◌}
use mathlib.Core.Bool.{false, ◌||◌}
use lib.Dec.{eqb}
use lib.ListN.{length}
use native.Mathlib.Omega.{arith}
use mathlib.Core.List.{◌++◌}
use Rattle.fields.specs.Parts.{item}
use borrow.Author.Tests.{ne_eqb}
use Rattle.xdr.specs.Numbers.{quad_number}
use Rattle.xdr.specs.Items.{word_at}
use Rattle.xdr.proofs.Reading.{word_read}
use Rattle.sflow.specs.declared.Refusal.TheVariants.{CutItem, PacketDataType}
use Rattle.sflow.specs.Decode.{Decoded, refused, mapped, decode}
use Rattle.sflow.specs.Datagram.{sampled_header, sampled_ipv4, sampled_ipv6, packet_data_type}
use Rattle.sflow.proofs.Steps.{union_arm, union_bad, union_cut}
use Rattle.xdr.specs.declared.Quad.{Quad}
use Rattle.packet_data.specs.declared.PacketData.TheVariants.{Ipv6}
use Rattle.packet_data.specs.Packets.{header_of, ipv4_of, ipv6_of, packet_of}
use Rattle.fields.specs.Addresses.{quad_of}
use Rattle.fields.proofs.Addresses.{quad_words}
use Rattle.fields.proofs.FixedItems.{Reads, reads_found}
use Rattle.std.specs.Prelude.{Ok}
use Rattle.xdr.specs.Items.{cut}

-- an IPv6 packet, by the reads of its items
pub ipv6_reads : {s : List ℕ} {at : ℕ} {d : Decoded (List ℕ)} → Reads s at (4 ∷ 4 ∷ 16 ∷ 16 ∷ 4 ∷ 4 ∷ 4 ∷ 4 ∷ []) d
    → mapped ipv6_of (decode sampled_ipv6 s at) ≡ mapped ipv6_of d
ipv6_reads r = rw (reads_found r)

-- the four words of a number that sixteen octets are
pub quad_again : (q : Quad) → (q.a < 2 ^ 32) × (q.b < 2 ^ 32) × (q.c < 2 ^ 32) × (q.d < 2 ^ 32) → quad_of (quad_number q.a q.b q.c q.d) ≡ q
quad_again q h = quad_words q.a q.b q.c q.d h.0 h.1 h.2 h.3

-- two values, and four, one by one
two : (v : List ℕ) → length v ≡ 2 → v ≡ item v 0 ∷ item v 1 ∷ []
two [] h = absurd (omega arith)
two (a ∷ []) h = absurd (omega arith)
two (a ∷ b ∷ []) h = refl
two (a ∷ b ∷ c ∷ v) h = absurd (omega arith)

four : (v : List ℕ) → length v ≡ 4 → v ≡ item v 0 ∷ item v 1 ∷ item v 2 ∷ item v 3 ∷ []
four [] h = absurd (omega arith)
four (a ∷ []) h = absurd (omega arith)
four (a ∷ b ∷ []) h = absurd (omega arith)
four (a ∷ b ∷ c ∷ []) h = absurd (omega arith)
four (a ∷ b ∷ c ∷ d ∷ []) h = refl
four (a ∷ b ∷ c ∷ d ∷ e ∷ v) h = absurd (omega arith)

-- an IPv6 packet whose items were all read
pub ipv6_whole : (v w : List ℕ) (p q : Quad) → length v ≡ 2 → length w ≡ 4
    → (p.a < 2 ^ 32) × (p.b < 2 ^ 32) × (p.c < 2 ^ 32) × (p.d < 2 ^ 32) → (q.a < 2 ^ 32) × (q.b < 2 ^ 32) × (q.c < 2 ^ 32) × (q.d < 2 ^ 32)
    → ipv6_of (v ++ (quad_number p.a p.b p.c p.d ∷ quad_number q.a q.b q.c q.d ∷ (w ++ [])))
    ≡ Ipv6 (record {
      length = item v 0;
      protocol = item v 1;
      src_ip = p;
      dst_ip = q;
      src_port = item w 0;
      dst_port = item w 1;
      tcp_flags = item w 2;
      priority = item w 3;
    })
ipv6_whole v w p q hv hw x y =
    ap (λ (v : List ℕ). ipv6_of (v ++ (quad_number p.a p.b p.c p.d ∷ quad_number q.a q.b q.c q.d ∷ (w ++ [])))) (two v hv)
    ∙ ap (λ (w : List ℕ). ipv6_of (item v 0 ∷ item v 1 ∷ quad_number p.a p.b p.c p.d ∷ quad_number q.a q.b q.c q.d ∷ (w ++ []))) (four w hw)
    ∙ rw (quad_again p x, quad_again q y)

-- ---- packet data

-- the type is cut short
pub packet_cut : (s : List ℕ) (at p : ℕ) → word_at s at ≡ cut p → mapped (packet_of at) (decode packet_data_type s at) ≡ refused CutItem p
packet_cut s at p e = union_cut _ _ _ s at (packet_of at) p e

-- each type, with what stands behind it
pub packet_header : (s : List ℕ) (at k next : ℕ) → word_at s at ≡ Ok (k, next) → k ≡ 1
    → mapped (packet_of at) (decode packet_data_type s at) ≡ mapped (header_of next) (decode sampled_header s next)
packet_header s at k next e f =
    let n : at + 4 ≡ next = sym (word_read s at k next e).next_is in
    union_arm _ _ _ s at (packet_of at) 1 next (e ∙ ap (λ (n : ℕ). Ok (n, next)) f) refl
    ∙ ap (λ (place : ℕ). mapped (header_of place) (decode sampled_header s next)) n

pub packet_ipv4 : (s : List ℕ) (at k next : ℕ) → word_at s at ≡ Ok (k, next) → k ≡ 2
    → mapped (packet_of at) (decode packet_data_type s at) ≡ mapped ipv4_of (decode sampled_ipv4 s next)
packet_ipv4 s at k next e f = union_arm _ _ _ s at (packet_of at) 2 next (e ∙ ap (λ (n : ℕ). Ok (n, next)) f) refl

pub packet_ipv6 : (s : List ℕ) (at k next : ℕ) → word_at s at ≡ Ok (k, next) → k ≡ 3
    → mapped (packet_of at) (decode packet_data_type s at) ≡ mapped ipv6_of (decode sampled_ipv6 s next)
packet_ipv6 s at k next e f = union_arm _ _ _ s at (packet_of at) 3 next (e ∙ ap (λ (n : ℕ). Ok (n, next)) f) refl

-- any other type
pub packet_other : (s : List ℕ) (at k next : ℕ) → word_at s at ≡ Ok (k, next) → (k ≡ 1 → ⊥) → (k ≡ 2 → ⊥) → (k ≡ 3 → ⊥)
    → mapped (packet_of at) (decode packet_data_type s at) ≡ refused PacketDataType at
packet_other s at k next e f g h =
    let t : (eqb k 1 || (eqb k 2 || (eqb k 3 || false))) ≡ false = rw (ne_eqb k 1 f, ne_eqb k 2 g, ne_eqb k 3 h) in
    union_bad _ _ _ s at (packet_of at) k next e t
