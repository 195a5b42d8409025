-- Values of packet data (RFC 3176, section 4, "Packet header data" to "Packet data").
use Rattle.std.specs.Prelude.{ℕ, ◌+◌, Bool, true, false, cond, [], eqb}
use Rattle.sflow.specs.Grammar.{fixed, Value}
use Rattle.sflow.specs.Datagram.{sampled_header, sampled_ipv4, sampled_ipv6, packet_data_type}
use Rattle.packet_data.specs.declared.PacketData.{PacketData}
use Rattle.packet_data.specs.declared.PacketData.TheVariants.{Header, Ipv4, Ipv6}
use Rattle.fields.specs.Parts.{item}
use Rattle.fields.specs.Addresses.{quad_of}
use Rattle.fields.specs.Strings.{text_of}

abbrev pub header_of : ℕ → Value sampled_header → PacketData
header_of at v = Header (record { protocol = v.0; frame_length = item v.1.0 0; header = text_of (at + 8) v.1.1 })

abbrev pub ipv4_of : Value sampled_ipv4 → PacketData
ipv4_of v =
    Ipv4 (record {
      length = item v 0;
      protocol = item v 1;
      src_ip = item v 2;
      dst_ip = item v 3;
      src_port = item v 4;
      dst_port = item v 5;
      tcp_flags = item v 6;
      tos = item v 7;
    })

abbrev pub ipv6_of : Value sampled_ipv6 → PacketData
ipv6_of v =
    Ipv6 (record {
      length = item v 0;
      protocol = item v 1;
      src_ip = quad_of (item v 2);
      dst_ip = quad_of (item v 3);
      src_port = item v 4;
      dst_port = item v 5;
      tcp_flags = item v 6;
      priority = item v 7;
    })

-- packet data at their type word; the last clause is for types that the form does not allow
abbrev pub packet_by : ℕ → (is1 is2 is3 : Bool) → Value (cond is1 sampled_header (cond is2 sampled_ipv4 (cond is3 sampled_ipv6 (fixed [])))) → PacketData
packet_by at true is2 is3 v = header_of (at + 4) v
packet_by at false true is3 v = ipv4_of v
packet_by at false false true v = ipv6_of v
packet_by at false false false v = ipv4_of []

abbrev pub packet_of : ℕ → Value packet_data_type → PacketData
packet_of at v = packet_by at (eqb v.0 1) (eqb v.0 2) (eqb v.0 3) v.1
