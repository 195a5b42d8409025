-- The forms of sFlow version 4, in the order and with the names of RFC 3176, section 4.
use Rattle.std.specs.Prelude.{ℕ, List, [], ◌∷◌, ◌++◌}
use Rattle.sflow.specs.declared.Refusal.TheVariants.{Version, AddressType, SampleType, PacketDataType, HeaderProtocol, HeaderLength, ExtendedDataType, SegmentType, UrlDirection, CountersVersion}
use Rattle.sflow.specs.Grammar.{unlimited, at_most, Form, fixed, opaque, list, ◌then◌, Value, Arm, case, one_of, one_of_fixed, constant, enumeration}

-- the widths of XDR's unsigned int and unsigned hyper, and of the octets of an address
abbrev pub int : ℕ
int = 4

abbrev pub hyper : ℕ
hyper = 8

abbrev pub ip_v4 : ℕ
ip_v4 = 4

abbrev pub ip_v6 : ℕ
ip_v6 = 16

-- a word of any value
abbrev pub word : Form
word = fixed (int ∷ [])

-- the octets of each address type
abbrev pub address_types : List (Arm (List ℕ))
address_types = case 1 (ip_v4 ∷ []) ∷ case 2 (ip_v6 ∷ []) ∷ []

abbrev pub address : Form
address = one_of_fixed AddressType address_types

-- ---- packet data

-- protocol; frame_length; header
abbrev pub sampled_header : Form
sampled_header = enumeration HeaderProtocol 13 (word then opaque (at_most 256 HeaderLength))

-- length, protocol, src_ip, dst_ip, src_port, dst_port, tcp_flags, tos
abbrev pub sampled_ipv4 : Form
sampled_ipv4 = fixed (int ∷ int ∷ ip_v4 ∷ ip_v4 ∷ int ∷ int ∷ int ∷ int ∷ [])

-- length, protocol, src_ip, dst_ip, src_port, dst_port, tcp_flags, priority
abbrev pub sampled_ipv6 : Form
sampled_ipv6 = fixed (int ∷ int ∷ ip_v6 ∷ ip_v6 ∷ int ∷ int ∷ int ∷ int ∷ [])

abbrev pub packet_data_type : Form
packet_data_type = one_of PacketDataType (case 1 sampled_header ∷ case 2 sampled_ipv4 ∷ case 3 sampled_ipv6 ∷ [])

-- ---- extended data

-- src_vlan, src_priority, dst_vlan, dst_priority
abbrev pub extended_switch : Form
extended_switch = fixed (int ∷ int ∷ int ∷ int ∷ [])

-- nexthop; src_mask, dst_mask
abbrev pub extended_router : Form
extended_router = address then fixed (int ∷ int ∷ [])

-- AS_SET = 1 or AS_SEQUENCE = 2, and a list of numbers of autonomous systems
abbrev pub as_path_type : Form
as_path_type = enumeration SegmentType 2 (list word)

-- as, src_as, src_peer_as; dst_as_path; communities; localpref
abbrev pub extended_gateway : Form
extended_gateway = fixed (int ∷ int ∷ int ∷ []) then list as_path_type then list word then word

-- src_user; dst_user
abbrev pub extended_user : Form
extended_user = opaque unlimited then opaque unlimited

-- direction; url
abbrev pub extended_url : Form
extended_url = enumeration UrlDirection 2 (opaque unlimited)

abbrev pub extended_data_type : Form
extended_data_type =
    one_of ExtendedDataType
    (case 1 extended_switch ∷ case 2 extended_router ∷ case 3 extended_gateway ∷ case 4 extended_user ∷ case 5 extended_url ∷ [])

-- sequence_number, source_id, sampling_rate, sample_pool, drops, input, output
abbrev pub flow_words : List ℕ
flow_words = int ∷ int ∷ int ∷ int ∷ int ∷ int ∷ int ∷ []

-- the words; packet_data; extended_data
abbrev pub flow_sample : Form
flow_sample = fixed flow_words then packet_data_type then list extended_data_type

-- ---- counters

abbrev pub if_counters : List ℕ
if_counters =
    -- ifIndex, ifType, ifSpeed, ifDirection, ifStatus
    int ∷ int ∷ hyper ∷ int ∷ int
    -- ifInOctets, ifInUcastPkts, ifInMulticastPkts, ifInBroadcastPkts, ifInDiscards, ifInErrors, ifInUnknownProtos
    ∷ hyper ∷ int ∷ int ∷ int ∷ int ∷ int ∷ int
    -- ifOutOctets, ifOutUcastPkts, ifOutMulticastPkts, ifOutBroadcastPkts, ifOutDiscards, ifOutErrors, ifPromiscuousMode
    ∷ hyper ∷ int ∷ int ∷ int ∷ int ∷ int ∷ int ∷ []

abbrev pub ethernet_counters : List ℕ
ethernet_counters =
    if_counters
    -- dot3StatsAlignmentErrors, dot3StatsFCSErrors, dot3StatsSingleCollisionFrames, dot3StatsMultipleCollisionFrames
    ++ (int ∷ int ∷ int ∷ int
    -- dot3StatsSQETestErrors, dot3StatsDeferredTransmissions, dot3StatsLateCollisions, dot3StatsExcessiveCollisions
    ∷ int ∷ int ∷ int ∷ int
    -- dot3StatsInternalMacTransmitErrors, dot3StatsCarrierSenseErrors, dot3StatsFrameTooLongs
    ∷ int ∷ int ∷ int
    -- dot3StatsInternalMacReceiveErrors, dot3StatsSymbolErrors
    ∷ int ∷ int ∷ [])

abbrev pub fddi_counters : List ℕ
fddi_counters = if_counters

abbrev pub tokenring_counters : List ℕ
tokenring_counters =
    if_counters
    -- dot5StatsLineErrors, dot5StatsBurstErrors, dot5StatsACErrors, dot5StatsAbortTransErrors, dot5StatsInternalErrors
    ++ (int ∷ int ∷ int ∷ int ∷ int
    -- dot5StatsLostFrameErrors, dot5StatsReceiveCongestions, dot5StatsFrameCopiedErrors, dot5StatsTokenErrors, dot5StatsSoftErrors
    ∷ int ∷ int ∷ int ∷ int ∷ int
    -- dot5StatsHardErrors, dot5StatsSignalLoss, dot5StatsTransmitBeacons, dot5StatsRecoverys, dot5StatsLobeWires
    ∷ int ∷ int ∷ int ∷ int ∷ int
    -- dot5StatsRemoves, dot5StatsSingles, dot5StatsFreqErrors
    ∷ int ∷ int ∷ int ∷ [])

abbrev pub vg_counters : List ℕ
vg_counters =
    if_counters
    -- dot12InHighPriorityFrames, dot12InHighPriorityOctets, dot12InNormPriorityFrames, dot12InNormPriorityOctets
    ++ (int ∷ hyper ∷ int ∷ hyper
    -- dot12InIPMErrors, dot12InOversizeFrameErrors, dot12InDataErrors, dot12InNullAddressedFrames
    ∷ int ∷ int ∷ int ∷ int
    -- dot12OutHighPriorityFrames, dot12OutHighPriorityOctets, dot12TransitionIntoTrainings
    ∷ int ∷ hyper ∷ int
    -- dot12HCInHighPriorityOctets, dot12HCInNormPriorityOctets, dot12HCOutHighPriorityOctets
    ∷ hyper ∷ hyper ∷ hyper ∷ [])

abbrev pub wan_counters : List ℕ
wan_counters = if_counters

-- vlan_id, octets, ucastPkts, multicastPkts, broadcastPkts, discards
abbrev pub vlan_counters : List ℕ
vlan_counters = int ∷ hyper ∷ int ∷ int ∷ int ∷ int ∷ []

-- the fields of the counters of each version
abbrev pub counters_versions : List (Arm (List ℕ))
counters_versions =
    case 1 if_counters
    ∷ case 2 ethernet_counters
    ∷ case 3 tokenring_counters
    ∷ case 4 fddi_counters
    ∷ case 5 vg_counters
    ∷ case 6 wan_counters
    ∷ case 7 vlan_counters
    ∷ []

abbrev pub counters_type : Form
counters_type = one_of_fixed CountersVersion counters_versions

-- sequence_number, source_id, sampling_interval; counters
abbrev pub counters_sample : Form
counters_sample = fixed (int ∷ int ∷ int ∷ []) then counters_type

-- ---- the datagram

abbrev pub sample_type : Form
sample_type = one_of SampleType (case 1 flow_sample ∷ case 2 counters_sample ∷ [])

-- agent_address; sequence_number, uptime; samples
abbrev pub sample_datagram_v4 : Form
sample_datagram_v4 = address then fixed (int ∷ int ∷ []) then list sample_type

abbrev pub sample_datagram : Form
sample_datagram = constant Version 4 sample_datagram_v4

-- the parts of a datagram's value
abbrev pub agent_address : Value sample_datagram → Value address
agent_address d = d.1.0

abbrev pub samples : Value sample_datagram → List (Value sample_type)
samples d = d.1.1.1
