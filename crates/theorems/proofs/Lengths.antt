-- Lengths that document 01 names ("Datagram grammar", "Writer"); those of the counters' bodies are `body_lengths` (crate sflow). Assumes nothing.
use Prim.Native.Nat.{ℕ}
use mathlib.Core.Path.{◌≡◌, refl}
use mathlib.Core.List.{List, [], ◌∷◌, flat_map}
use lib.ListN.{length}
use Rattle.xdr.specs.Numbers.{octets_of}
use Rattle.sflow.specs.Grammar.{Valid, octets_of_each, encode}
use Rattle.sflow.specs.Datagram.{sampled_ipv4, sampled_ipv6, sample_datagram}
use Rattle.sflow.proofs.Items.{each_length}
use Rattle.writer.specs.Datagrams.{start_value}

-- "Start writes a datagram without samples: 24 octets for an IPv4 agent, 36 for IPv6."
pub start_lengths : (a b c d sequence uptime : ℕ)
    → (length (encode sample_datagram (start_value (record { kind = 1; octets = record { a = a; b = b; c = c; d = d } }) sequence uptime)) ≡ 24)
    × (length (encode sample_datagram (start_value (record { kind = 2; octets = record { a = a; b = b; c = c; d = d } }) sequence uptime)) ≡ 36)
unfolding encode octets_of_each octets_of flat_map
start_lengths a b c d sequence uptime = (refl, refl)

-- "2 IPv4 (..: 32 octets); 3 IPv6 (..: 56 octets)"
pub packet_lengths : (vs : List ℕ)
    → (Valid sampled_ipv4 vs → length (encode sampled_ipv4 vs) ≡ 32) × (Valid sampled_ipv6 vs → length (encode sampled_ipv6 vs) ≡ 56)
unfolding encode
packet_lengths vs = (λ h. each_length (4 ∷ 4 ∷ 4 ∷ 4 ∷ 4 ∷ 4 ∷ 4 ∷ 4 ∷ []) vs h, λ h. each_length (4 ∷ 4 ∷ 16 ∷ 16 ∷ 4 ∷ 4 ∷ 4 ∷ 4 ∷ []) vs h)
