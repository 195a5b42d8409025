-- The answers of reading a datagram, an extended entry and a path segment, as numbers.
use Rattle.std.specs.Prelude.{ℕ, List, [], ◌∷◌, ◌++◌, Result, Ok, Err}
use Rattle.extended_data.specs.declared.Extended.{Extended}
use Rattle.extended_data.specs.declared.Extended.TheVariants.{IsSwitch, IsRouter, IsGateway, IsUser, IsUrl}
use Rattle.extended_data.specs.declared.Segment.{Segment}
use Rattle.reader.specs.declared.datagram.Head.{Head}
use Rattle.sflow.specs.declared.Refused.{Refused}
use Rattle.numbers.specs.Reports.{Report, report, refusal_report}
use Rattle.numbers.specs.Addresses.{quad_numbers}

-- the agent's address type and four words, sequence number, uptime, count of samples, offset of the first sample
abbrev pub head_numbers : Head → List ℕ
head_numbers h =
    h.agent.kind ∷ (quad_numbers h.agent.octets ++ (h.sequence_number ∷ h.uptime ∷ h.samples.count ∷ h.samples.at ∷ []))

-- 0; the numbers of a datagram's head
abbrev pub head_report : Result Head Refused → Report
head_report (Ok h) = report 0 (head_numbers h)
head_report (Err r) = refusal_report r.why r.at

-- the extended data type
abbrev pub extended_type : Extended → ℕ
extended_type (IsSwitch x) = 1
extended_type (IsRouter x) = 2
extended_type (IsGateway x) = 3
extended_type (IsUser x) = 4
extended_type (IsUrl x) = 5

-- the fields in order: an address as its type and four words, a list as the count and the offset of the first entry, a string as offset and length
abbrev pub extended_numbers : Extended → List ℕ
extended_numbers (IsSwitch x) = x.src_vlan ∷ x.src_priority ∷ x.dst_vlan ∷ x.dst_priority ∷ []
extended_numbers (IsRouter x) = x.nexthop.kind ∷ (quad_numbers x.nexthop.octets ++ (x.src_mask ∷ x.dst_mask ∷ []))
extended_numbers (IsGateway x) =
    x.router_as ∷ x.src_as ∷ x.src_peer_as
    ∷ x.dst_as_path.count ∷ x.dst_as_path.at
    ∷ x.communities.count ∷ x.communities.at
    ∷ x.localpref
    ∷ []
extended_numbers (IsUser x) = x.src_user.at ∷ x.src_user.length ∷ x.dst_user.at ∷ x.dst_user.length ∷ []
extended_numbers (IsUrl x) = x.direction ∷ x.url.at ∷ x.url.length ∷ []

-- type and offset behind an extended entry, then its numbers
abbrev pub entry_numbers : Extended → ℕ → List ℕ
entry_numbers x next = extended_type x ∷ next ∷ extended_numbers x

-- 0; the numbers of an extended entry
abbrev pub extended_report : Result (Extended × ℕ) Refused → Report
extended_report (Ok r) = report 0 (entry_numbers r.0 r.1)
extended_report (Err r) = refusal_report r.why r.at

-- type and offset behind a path segment, count of its words, offset of the first
abbrev pub segment_numbers : Segment → ℕ → List ℕ
segment_numbers x next = x.kind ∷ next ∷ x.numbers.count ∷ x.numbers.at ∷ []

-- 0; the numbers of a path segment
abbrev pub segment_report : Result (Segment × ℕ) Refused → Report
segment_report (Ok r) = report 0 (segment_numbers r.0 r.1)
segment_report (Err r) = refusal_report r.why r.at
