-- The values that writers write, as values of the grammar. Which of them the grammar allows (document 01, "Writer", number 22) is its own test, `allows`.
use Rattle.std.specs.Prelude.{ℕ, cond, List, [], ◌∷◌, map, eqb}
use Rattle.std.proofs.Math.Option
use Rattle.std.proofs.Math.Option.{Option}
use Rattle.xdr.specs.Numbers.{quad_number}
use Rattle.sflow.specs.Grammar.{list, Value}
use Rattle.sflow.specs.Decode.{entries_in}
use Rattle.sflow.specs.Datagram.{word, address, packet_data_type, as_path_type, extended_data_type}
use Rattle.xdr.specs.declared.Quad.{Quad}
use Rattle.fields.specs.declared.address.Address.{Address}
use Rattle.packet_data.specs.declared.SampledIpv4.{SampledIpv4}
use Rattle.packet_data.specs.declared.SampledIpv6.{SampledIpv6}
use Rattle.extended_data.specs.declared.Switch.{Switch}
use Rattle.extended_data.specs.declared.Router.{Router}

-- ---- lists of words, addresses

abbrev pub words_value : List ℕ → Value (list word)
words_value ws = map (λ w. w ∷ []) ws

abbrev pub quad_value : Quad → ℕ
quad_value q = quad_number q.a q.b q.c q.d

abbrev pub address_value : Address → Value address
address_value a = (a.kind, (cond (eqb a.kind 1) a.octets.a (quad_value a.octets) ∷ []))

-- ---- packet data

abbrev pub header_value : ℕ → ℕ → List ℕ → Value packet_data_type
header_value protocol frame xs = (1, (protocol, ((frame ∷ []), xs)))

abbrev pub ipv4_value : SampledIpv4 → Value packet_data_type
ipv4_value x =
    (2, (x.length ∷ x.protocol ∷ x.src_ip ∷ x.dst_ip ∷ x.src_port ∷ x.dst_port ∷ x.tcp_flags ∷ x.tos ∷ []))

abbrev pub ipv6_value : SampledIpv6 → Value packet_data_type
ipv6_value x =
    (3, (x.length ∷ x.protocol ∷ quad_value x.src_ip ∷ quad_value x.dst_ip ∷ x.src_port ∷ x.dst_port ∷ x.tcp_flags ∷ x.priority ∷ []))

-- ---- extended data

abbrev pub switch_value : Switch → Value extended_data_type
switch_value x = (1, (x.src_vlan ∷ x.src_priority ∷ x.dst_vlan ∷ x.dst_priority ∷ []))

abbrev pub router_value : Router → Value extended_data_type
router_value x = (2, (address_value x.nexthop, (x.src_mask ∷ x.dst_mask ∷ [])))

abbrev pub segment_value : ℕ → List ℕ → Value as_path_type
segment_value kind ns = (kind, words_value ns)

-- the router's autonomous system, the source's, the source peer's; the path's segments; the communities; the local preference
abbrev pub gateway_value : ℕ → ℕ → ℕ → List (Value as_path_type) → List ℕ → ℕ → Value extended_data_type
gateway_value router src peer segments communities preference =
    (3, ((router ∷ src ∷ peer ∷ []), (segments, (words_value communities, (preference ∷ [])))))

-- the same with the path given as octets, which have to be exactly so many segments
abbrev pub gateway_given : ℕ → ℕ → ℕ → ℕ → List ℕ → List ℕ → ℕ → Option (Value extended_data_type)
gateway_given router src peer count path communities preference =
    Option.map (λ segments. gateway_value router src peer segments communities preference) (entries_in as_path_type count path)

abbrev pub user_value : List ℕ → List ℕ → Value extended_data_type
user_value src dst = (4, (src, dst))

abbrev pub url_value : ℕ → List ℕ → Value extended_data_type
url_value direction url = (5, (direction, url))
