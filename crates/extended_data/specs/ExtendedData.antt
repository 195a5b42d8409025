-- Values of extended data (RFC 3176, section 4, "Extended data types").
use Rattle.std.specs.Prelude.{ℕ, ◌+◌, Bool, true, false, cond, [], eqb}
use Rattle.sflow.specs.Grammar.{fixed, opaque, unlimited, list, ◌then◌, Value}
use Rattle.sflow.specs.Datagram.{word, extended_switch, extended_router, as_path_type, extended_gateway, extended_user, extended_url, extended_data_type}
use Rattle.fields.specs.declared.words.Entries.{Entries}
use Rattle.extended_data.specs.declared.Segment.{Segment}
use Rattle.extended_data.specs.declared.Extended.{Extended}
use Rattle.extended_data.specs.declared.Extended.TheVariants.{IsSwitch, IsRouter, IsGateway, IsUser, IsUrl}
use Rattle.fields.specs.Parts.{item, size, entries_at}
use Rattle.fields.specs.Addresses.{address_of}
use Rattle.fields.specs.Strings.{text_of}

abbrev pub switch_of : Value extended_switch → Extended
switch_of v = IsSwitch (record { src_vlan = item v 0; src_priority = item v 1; dst_vlan = item v 2; dst_priority = item v 3 })

abbrev pub router_of : Value extended_router → Extended
router_of v = IsRouter (record { nexthop = address_of v.0; src_mask = item v.1 0; dst_mask = item v.1 1 })

abbrev pub segment_of : ℕ → Value as_path_type → Segment
segment_of at v = record { kind = v.0; numbers = entries_at (at + 8) v.1 }

-- a gateway's words and path, and its communities and local preference at an offset
abbrev pub gateway_with : ℕ → ℕ → ℕ → Entries → ℕ → Value (list word then word) → Extended
gateway_with router src peer path at v =
    IsGateway (record {
      router_as = router;
      src_as = src;
      src_peer_as = peer;
      dst_as_path = path;
      communities = entries_at (at + 4) v.0;
      localpref = item v.1 0;
    })

abbrev pub gateway_of : ℕ → Value extended_gateway → Extended
gateway_of at v =
    gateway_with (item v.0 0) (item v.0 1) (item v.0 2) (entries_at (at + 16) v.1.0)
    (at + 12 + size (list as_path_type) v.1.0) v.1.1

abbrev pub user_of : ℕ → Value extended_user → Extended
user_of at v = IsUser (record { src_user = text_of at v.0; dst_user = text_of (at + size (opaque unlimited) v.0) v.1 })

abbrev pub url_of : ℕ → Value extended_url → Extended
url_of at v = IsUrl (record { direction = v.0; url = text_of (at + 4) v.1 })

-- an extended entry at its type word; the last clause is for types that the form does not allow
abbrev pub extended_by : ℕ → (is1 is2 is3 is4 is5 : Bool)
    → Value (cond is1 extended_switch (cond is2 extended_router (cond is3 extended_gateway (cond is4 extended_user (cond is5 extended_url (fixed []))))))
    → Extended
extended_by at true is2 is3 is4 is5 v = switch_of v
extended_by at false true is3 is4 is5 v = router_of v
extended_by at false false true is4 is5 v = gateway_of (at + 4) v
extended_by at false false false true is5 v = user_of (at + 4) v
extended_by at false false false false true v = url_of (at + 4) v
extended_by at false false false false false v = switch_of []

abbrev pub extended_of : ℕ → Value extended_data_type → Extended
extended_of at v = extended_by at (eqb v.0 1) (eqb v.0 2) (eqb v.0 3) (eqb v.0 4) (eqb v.0 5) v.1
