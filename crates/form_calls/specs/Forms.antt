-- Forms and samples given as words and octets.
use Rattle.std.specs.Prelude.{ℕ, ◌+◌, cond, List, length, drop, leb, eqb, Result, Err}
use Rattle.std.proofs.Math.Option.{Option, none, some}
use Rattle.xdr.specs.Writes.{Afterwards, afterwards}
use Rattle.sflow.specs.Grammar.{Value}
use Rattle.sflow.specs.Decode.{value_in, entries_in}
use Rattle.sflow.specs.Datagram.{packet_data_type, as_path_type, extended_data_type, sample_type}
use Rattle.xdr.specs.declared.Quad.{Quad}
use Rattle.fields.specs.Parts.{item}
use Rattle.packet_data.specs.declared.SampledIpv4.{SampledIpv4}
use Rattle.packet_data.specs.declared.SampledIpv6.{SampledIpv6}
use Rattle.extended_data.specs.declared.Switch.{Switch}
use Rattle.extended_data.specs.declared.Router.{Router}
use Rattle.reader.specs.declared.sample.FlowWords.{FlowWords}
use Rattle.form_writer.specs.declared.parts.WriteRefusal.{WriteRefusal}
use Rattle.form_writer.specs.declared.parts.WriteRefusal.TheVariants.{BadValue}
use Rattle.form_writer.specs.Parts.{write_given}
use Rattle.form_writer.specs.Values.{header_value, ipv4_value, ipv6_value, switch_value, router_value, segment_value, gateway_given, user_value, url_value}
use Rattle.sample_writer.specs.FlowValues.{flow_given}

-- what is given by exactly so many words; nothing by any other number of them
abbrev pub of_words : {A : Type 0} → ℕ → List ℕ → Option A → Option A
of_words n words x = cond (eqb (length words) n) x none

-- what is given by at least so many words
abbrev pub from_words : {A : Type 0} → ℕ → List ℕ → Option A → Option A
from_words n words x = cond (leb n (length words)) x none

-- ---- packet data

-- a sampled header: protocol and frame length; the header's octets
abbrev pub header_from : List ℕ → List ℕ → Option (Value packet_data_type)
header_from words xs = of_words 2 words (some (header_value (item words 0) (item words 1) xs))

-- length, protocol, source and destination address, source and destination port, TCP flags, TOS
abbrev pub ipv4_in : List ℕ → SampledIpv4
ipv4_in words =
    record {
      length = item words 0;
      protocol = item words 1;
      src_ip = item words 2;
      dst_ip = item words 3;
      src_port = item words 4;
      dst_port = item words 5;
      tcp_flags = item words 6;
      tos = item words 7;
    }

abbrev pub ipv4_from : List ℕ → Option (Value packet_data_type)
ipv4_from words = of_words 8 words (some (ipv4_value (ipv4_in words)))

-- an address's four words, from a position on
abbrev pub quad_in : List ℕ → ℕ → Quad
quad_in words i = record { a = item words i; b = item words (i + 1); c = item words (i + 2); d = item words (i + 3) }

-- the same as for IPv4 with addresses of four words, and the priority for TOS
abbrev pub ipv6_in : List ℕ → SampledIpv6
ipv6_in words =
    record {
      length = item words 0;
      protocol = item words 1;
      src_ip = quad_in words 2;
      dst_ip = quad_in words 6;
      src_port = item words 10;
      dst_port = item words 11;
      tcp_flags = item words 12;
      priority = item words 13;
    }

abbrev pub ipv6_from : List ℕ → Option (Value packet_data_type)
ipv6_from words = of_words 14 words (some (ipv6_value (ipv6_in words)))

-- ---- extended data

-- source VLAN and priority, destination VLAN and priority
abbrev pub switch_in : List ℕ → Switch
switch_in words =
    record {
      src_vlan = item words 0;
      src_priority = item words 1;
      dst_vlan = item words 2;
      dst_priority = item words 3;
    }

abbrev pub switch_from : List ℕ → Option (Value extended_data_type)
switch_from words = of_words 4 words (some (switch_value (switch_in words)))

-- the next hop's type and four words, source mask, destination mask
abbrev pub router_in : List ℕ → Router
router_in words =
    record {
      nexthop = record { kind = item words 0; octets = quad_in words 1 };
      src_mask = item words 5;
      dst_mask = item words 6;
    }

abbrev pub router_from : List ℕ → Option (Value extended_data_type)
router_from words = of_words 7 words (some (router_value (router_in words)))

-- a gateway entry: AS, source AS, source peer AS, count of segments, local preference, then the communities; the segments' octets
abbrev pub gateway_from : List ℕ → List ℕ → Option (Value extended_data_type)
gateway_from words path =
    from_words 5 words (gateway_given (item words 0) (item words 1) (item words 2) (item words 3) path (drop 5 words) (item words 4))

-- a user entry: no words; the source user's and the destination user's octets
abbrev pub user_from : List ℕ → List ℕ → List ℕ → Option (Value extended_data_type)
user_from words src dst = of_words 0 words (some (user_value src dst))

-- a URL entry: the direction; the URL's octets
abbrev pub url_from : List ℕ → List ℕ → Option (Value extended_data_type)
url_from words url = of_words 1 words (some (url_value (item words 0) url))

-- a path segment: its type, then its numbers
abbrev pub segment_from : List ℕ → Option (Value as_path_type)
segment_from words = from_words 1 words (some (segment_value (item words 0) (drop 1 words)))

-- ---- flow samples

-- sequence number, source id, sampling rate, sample pool, drops, input, output
abbrev pub flow_words_in : List ℕ → FlowWords
flow_words_in words =
    record {
      sequence_number = item words 0;
      source_id = item words 1;
      sampling_rate = item words 2;
      sample_pool = item words 3;
      drops = item words 4;
      input = item words 5;
      output = item words 6;
    }

-- a flow sample: its words and the count of extended entries; packet data; the extended entries' octets
abbrev pub flow_from : List ℕ → Option (Value packet_data_type) → List ℕ → Option (Value sample_type)
flow_from words packet extended =
    of_words 8 words (flow_given (flow_words_in words) packet (entries_in extended_data_type (item words 7) extended))

-- ---- a form by its kind

-- written to the front of a buffer, from words and two strings of octets; 22 for any other kind
unfoldable pub form_written : ℕ → List ℕ → List ℕ → List ℕ → List ℕ → Afterwards (Result ℕ WriteRefusal)
form_written kind words first second d =
    cond (eqb kind 1) (write_given packet_data_type (header_from words first) d)
    (cond (eqb kind 2) (write_given packet_data_type (ipv4_from words) d)
    (cond (eqb kind 3) (write_given packet_data_type (ipv6_from words) d)
    (cond (eqb kind 11) (write_given extended_data_type (switch_from words) d)
    (cond (eqb kind 12) (write_given extended_data_type (router_from words) d)
    (cond (eqb kind 13) (write_given extended_data_type (gateway_from words first) d)
    (cond (eqb kind 14) (write_given extended_data_type (user_from words first second) d)
    (cond (eqb kind 15) (write_given extended_data_type (url_from words first) d)
    (cond (eqb kind 16) (write_given as_path_type (segment_from words) d)
    (cond (eqb kind 21) (write_given sample_type (flow_from words (value_in packet_data_type first) second) d)
    (afterwards (Err BadValue) d))))))))))
