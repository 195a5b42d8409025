-- The attributes of a flow sample (document 01, "Attributes of a flow sample"), by the numbers of RFC 2722, Appendix C.
use Rattle.std.specs.Prelude.{ℕ, ◌+◌, ◌*◌, ◌/◌, ◌%◌, List, [], ◌∷◌, Bool, cond, ◌&&◌, ◌||◌, length, drop, leb, eqb}
use Rattle.xdr.specs.Numbers.{number_at}
use Rattle.sflow.specs.Grammar.{case, chosen}
use Rattle.fields.specs.Parts.{item}
use Rattle.fields.specs.Strings.{text_in}
use Rattle.packet_data.specs.declared.PacketData.{PacketData}
use Rattle.packet_data.specs.declared.PacketData.TheVariants.{Header, Ipv4, Ipv6}
use Rattle.reader.specs.declared.sample.FlowSample.{FlowSample}
use Rattle.packet.specs.declared.Ports.{Ports}
use Rattle.packet.specs.declared.PacketView.{PacketView}
use Rattle.packet.specs.declared.Attributes.{Attributes}

-- ---- IPv4 in the octets of a sampled header, from its IP header on

-- in octets: the low four bits of the first octet are words
abbrev pub header_size : List ℕ → ℕ
header_size x = item x 0 % 16 * 4

-- 20 octets are there, the version is 4, and the header length is at least 20 and present
abbrev pub is_ipv4 : List ℕ → Bool
is_ipv4 x = leb 20 (length x) && (eqb (item x 0 / 16) 4 && (leb 20 (header_size x) && leb (header_size x) (length x)))

abbrev pub no_ports : Ports
no_ports = record { source = 0; dest = 0 }

-- the first four octets behind the IP header, if present, of TCP (6) and UDP (17)
unfoldable pub ports_of : List ℕ → ℕ → ℕ → Ports
ports_of x protocol size =
    cond ((eqb protocol 6 || eqb protocol 17) && leb (size + 4) (length x))
    (record { source = number_at x size 2; dest = number_at x (size + 2) 2 })
    no_ports

-- what is neither IPv4 nor IPv6
abbrev pub no_view : PacketView
no_view = record { peer_type = 0; source_address = 0; dest_address = 0; protocol = 0; ports = no_ports }

unfoldable pub ipv4_view : List ℕ → PacketView
ipv4_view x =
    cond (is_ipv4 x)
    (record {
      peer_type = 1;
      source_address = number_at x 12 4;
      dest_address = number_at x 16 4;
      protocol = item x 9;
      ports = ports_of x (item x 9) (header_size x);
    })
    no_view

-- ---- packet data

-- an Ethernet frame that holds IPv4: its type, octets 12 and 13, is 08 00
abbrev pub holds_ipv4 : List ℕ → Bool
holds_ipv4 x = leb 14 (length x) && (eqb (item x 12) 8 && eqb (item x 13) 0)

-- the octets of a header with a protocol: Ethernet (1) holds IPv4 from octet 14, IPv4 (11) from octet 0
unfoldable pub header_view : ℕ → List ℕ → PacketView
header_view protocol x =
    cond (eqb protocol 1) (cond (holds_ipv4 x) (ipv4_view (drop 14 x)) no_view)
    (cond (eqb protocol 11) (ipv4_view x) no_view)

-- IPv4 data give them directly, IPv6 data with zero addresses
unfoldable pub packet_view : List ℕ → PacketData → PacketView
packet_view s (Header x) = header_view x.protocol (text_in s x.header)
packet_view s (Ipv4 x) =
    record {
      peer_type = 1;
      source_address = x.src_ip;
      dest_address = x.dst_ip;
      protocol = x.protocol;
      ports = record { source = x.src_port; dest = x.dst_port };
    }
packet_view s (Ipv6 x) =
    record {
      peer_type = 2;
      source_address = 0;
      dest_address = 0;
      protocol = x.protocol;
      ports = record { source = x.src_port; dest = x.dst_port };
    }

-- ---- a flow sample, in the octets that it was read from

abbrev pub attributes_of : List ℕ → FlowSample → Attributes
attributes_of s x = record { input = x.words.input; output = x.words.output; packet = packet_view s x.packet_data }

-- the value of an attribute by its number; Null, 0, and any other number give 0
unfoldable pub attribute : Attributes → ℕ → ℕ
attribute a n =
    chosen 0
    (case 4 a.input
    ∷ case 8 a.packet.peer_type
    ∷ case 9 a.packet.source_address
    ∷ case 11 a.packet.protocol
    ∷ case 12 a.packet.ports.source
    ∷ case 14 a.output
    ∷ case 18 a.packet.peer_type
    ∷ case 19 a.packet.dest_address
    ∷ case 21 a.packet.protocol
    ∷ case 22 a.packet.ports.dest
    ∷ [])
    n
