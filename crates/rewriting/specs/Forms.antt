-- The values that writers are given of what the reader gives of each form (document 01, "Writer"); entries are written first, and given as octets.
use Rattle.std.specs.Prelude.{ℕ, zero, suc, cond, List, [], ◌++◌, replicate}
use Rattle.std.proofs.Math.Option.{Option, some}
use Rattle.xdr.specs.Items.{numbers_at}
use Rattle.sflow.specs.Grammar.{Form, Value, allows_given, encode_given}
use Rattle.sflow.specs.Decode.{Decoded, found, refused, mapped, decode}
use Rattle.sflow.specs.Datagram.{packet_data_type, as_path_type, extended_data_type}
use Rattle.fields.specs.declared.words.Entries.{Entries}
use Rattle.fields.specs.Strings.{text_in}
use Rattle.packet_data.specs.declared.PacketData.{PacketData}
use Rattle.packet_data.specs.declared.PacketData.TheVariants.{Header, Ipv4, Ipv6}
use Rattle.extended_data.specs.declared.Segment.{Segment}
use Rattle.extended_data.specs.declared.Extended.{Extended}
use Rattle.extended_data.specs.declared.Extended.TheVariants.{IsSwitch, IsRouter, IsGateway, IsUser, IsUrl}
use Rattle.extended_data.specs.ExtendedData.{segment_of, extended_of}
use Rattle.form_writer.specs.Values.{header_value, ipv4_value, ipv6_value, switch_value, router_value, segment_value, gateway_given, user_value, url_value}

-- ---- lists

-- the numbers of a list of words at the place that the reader gives
abbrev pub words_in : List ℕ → Entries → List ℕ
words_in s e = numbers_at s e.at (replicate e.count 4)

-- the octets that a writer writes of a value, where there is room; none of one that it refuses
abbrev pub octets_written : (g : Form) → Option (Value g) → List ℕ
octets_written g x = cond (allows_given g x) (encode_given g x) []

-- what is read at an offset, written, and then what stands behind it
abbrev pub write_then : {A : Type 0} → (A → List ℕ) → Decoded A → (ℕ → List ℕ) → List ℕ
write_then write (found x next) more = write x ++ more next
write_then write (refused why p) more = []

-- so many entries from an offset on, each written from what is read of it
unfoldable pub each_again : {A : Type 0} → (ℕ → Decoded A) → (A → List ℕ) → ℕ → ℕ → List ℕ
each_again read write zero at = []
each_again read write (suc n) at = write_then write (read at) (each_again read write n)

-- ---- packet data

abbrev pub packet_given : List ℕ → PacketData → Option (Value packet_data_type)
packet_given s (Header x) = some (header_value x.protocol x.frame_length (text_in s x.header))
packet_given s (Ipv4 x) = some (ipv4_value x)
packet_given s (Ipv6 x) = some (ipv6_value x)

-- ---- extended data

abbrev pub segment_given : List ℕ → Segment → Option (Value as_path_type)
segment_given s x = some (segment_value x.kind (words_in s x.numbers))

-- the segments of a path
abbrev pub path_again : List ℕ → Entries → List ℕ
path_again s e = each_again (λ at. mapped (segment_of at) (decode as_path_type s at)) (λ x. octets_written as_path_type (segment_given s x)) e.count e.at

abbrev pub extended_given : List ℕ → Extended → Option (Value extended_data_type)
extended_given s (IsSwitch x) = some (switch_value x)
extended_given s (IsRouter x) = some (router_value x)
extended_given s (IsGateway x) =
    gateway_given x.router_as x.src_as x.src_peer_as x.dst_as_path.count (path_again s x.dst_as_path) (words_in s x.communities) x.localpref
extended_given s (IsUser x) = some (user_value (text_in s x.src_user) (text_in s x.dst_user))
extended_given s (IsUrl x) = some (url_value x.direction (text_in s x.url))

-- the extended entries of a flow sample
abbrev pub entries_again : List ℕ → Entries → List ℕ
entries_again s e =
    each_again (λ at. mapped (extended_of at) (decode extended_data_type s at)) (λ x. octets_written extended_data_type (extended_given s x)) e.count e.at
