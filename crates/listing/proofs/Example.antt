-- Document 01's example and two more captures, computed from the definition.
use Rattle.std.proofs.Common.{◌≡◌, ℕ, List, [], ◌∷◌, ◌++◌, replicate, refl}
use Rattle.xdr.specs.Numbers.{number_at, octets_of}
use Rattle.xdr.specs.Items.{word_at, items_at, numbers_at}
use Rattle.sflow.specs.Grammar.{encode, octets_of_each}
use Rattle.sflow.specs.Decode.{decode, entries}
use Rattle.sflow.specs.Reading.{read_datagram}
use Rattle.reader.specs.Datagrams.{step_at, walk}
use Rattle.record_lines.specs.Digits.{decimal, shown}
use Rattle.record_lines.specs.Lines.{ending, source_text, sample_text, sample_line, dotted, agent_text, agent_line, refused_line, bad_line, last_line}
use Rattle.record_lines.specs.Records.{record_lines}
use Rattle.listing.specs.Captures.{frame_of}
use Rattle.listing.specs.Texts.{nothing_listed, behind_record, record_text, text_within, text_from, capture_of}

-- case 7: agent 10.0.0.7, sequence 1, uptime 1000, one VLAN counter sample with sequence 5, source 01000064, interval 20, vlan 100, the rest 0
abbrev case7 : List ℕ
case7 =
    0 ∷ 0 ∷ 0 ∷ 4 ∷ 0 ∷ 0 ∷ 0 ∷ 1 ∷ 10 ∷ 0 ∷ 0 ∷ 7 ∷ 0 ∷ 0 ∷ 0 ∷ 1 ∷ 0 ∷ 0 ∷ 3 ∷ 232 ∷ 0 ∷ 0 ∷ 0 ∷ 1
    ∷ 0 ∷ 0 ∷ 0 ∷ 2 ∷ 0 ∷ 0 ∷ 0 ∷ 5 ∷ 1 ∷ 0 ∷ 0 ∷ 100 ∷ 0 ∷ 0 ∷ 0 ∷ 20 ∷ 0 ∷ 0 ∷ 0 ∷ 7 ∷ 0 ∷ 0 ∷ 0 ∷ 100 ∷ replicate 24 0

-- "1 agent 10.0.0.7 seq 1 length 72"
abbrev first : List ℕ
first = 49 ∷ 32 ∷ 97 ∷ 103 ∷ 101 ∷ 110 ∷ 116 ∷ 32 ∷ 49 ∷ 48 ∷ 46 ∷ 48 ∷ 46 ∷ 48 ∷ 46 ∷ 55 ∷ 32 ∷ 115 ∷ 101 ∷ 113 ∷ 32 ∷ 49 ∷ 32 ∷ 108 ∷ 101 ∷ 110 ∷ 103 ∷ 116 ∷ 104 ∷ 32 ∷ 55 ∷ 50 ∷ 10 ∷ []

-- " counters at 24 length 48 source 1.100 seq 5"
abbrev second : List ℕ
second = 32 ∷ 99 ∷ 111 ∷ 117 ∷ 110 ∷ 116 ∷ 101 ∷ 114 ∷ 115 ∷ 32 ∷ 97 ∷ 116 ∷ 32 ∷ 50 ∷ 52 ∷ 32 ∷ 108 ∷ 101 ∷ 110 ∷ 103 ∷ 116 ∷ 104 ∷ 32 ∷ 52 ∷ 56 ∷ 32 ∷ 115 ∷ 111 ∷ 117 ∷ 114 ∷ 99 ∷ 101 ∷ 32 ∷ 49 ∷ 46 ∷ 49 ∷ 48 ∷ 48 ∷ 32 ∷ 115 ∷ 101 ∷ 113 ∷ 32 ∷ 53 ∷ 10 ∷ []

-- "2 refused 2 at 0"
abbrev third : List ℕ
third = 50 ∷ 32 ∷ 114 ∷ 101 ∷ 102 ∷ 117 ∷ 115 ∷ 101 ∷ 100 ∷ 32 ∷ 50 ∷ 32 ∷ 97 ∷ 116 ∷ 32 ∷ 48 ∷ 10 ∷ []

-- "records 2 refused 1 samples 1"
abbrev fourth : List ℕ
fourth = 114 ∷ 101 ∷ 99 ∷ 111 ∷ 114 ∷ 100 ∷ 115 ∷ 32 ∷ 50 ∷ 32 ∷ 114 ∷ 101 ∷ 102 ∷ 117 ∷ 115 ∷ 101 ∷ 100 ∷ 32 ∷ 49 ∷ 32 ∷ 115 ∷ 97 ∷ 109 ∷ 112 ∷ 108 ∷ 101 ∷ 115 ∷ 32 ∷ 49 ∷ 10 ∷ []

-- "records 0 refused 0 samples 0"
abbrev nothing : List ℕ
nothing = 114 ∷ 101 ∷ 99 ∷ 111 ∷ 114 ∷ 100 ∷ 115 ∷ 32 ∷ 48 ∷ 32 ∷ 114 ∷ 101 ∷ 102 ∷ 117 ∷ 115 ∷ 101 ∷ 100 ∷ 32 ∷ 48 ∷ 32 ∷ 115 ∷ 97 ∷ 109 ∷ 112 ∷ 108 ∷ 101 ∷ 115 ∷ 32 ∷ 48 ∷ 10 ∷ []

-- "1 refused 2 at 0"
abbrev refused_first : List ℕ
refused_first = 49 ∷ 32 ∷ 114 ∷ 101 ∷ 102 ∷ 117 ∷ 115 ∷ 101 ∷ 100 ∷ 32 ∷ 50 ∷ 32 ∷ 97 ∷ 116 ∷ 32 ∷ 48 ∷ 10 ∷ []

-- "capture bad at 8"
abbrev bad_at_eight : List ℕ
bad_at_eight = 99 ∷ 97 ∷ 112 ∷ 116 ∷ 117 ∷ 114 ∷ 101 ∷ 32 ∷ 98 ∷ 97 ∷ 100 ∷ 32 ∷ 97 ∷ 116 ∷ 32 ∷ 56 ∷ 10 ∷ []

-- "records 1 refused 1 samples 0"
abbrev one_refused : List ℕ
one_refused = 114 ∷ 101 ∷ 99 ∷ 111 ∷ 114 ∷ 100 ∷ 115 ∷ 32 ∷ 49 ∷ 32 ∷ 114 ∷ 101 ∷ 102 ∷ 117 ∷ 115 ∷ 101 ∷ 100 ∷ 32 ∷ 49 ∷ 32 ∷ 115 ∷ 97 ∷ 109 ∷ 112 ∷ 108 ∷ 101 ∷ 115 ∷ 32 ∷ 48 ∷ 10 ∷ []

-- case 7's datagram, and then the word 5; an empty capture; the word 5, and then a single octet of a record
pub examples : (text_from nothing_listed (capture_of (case7 ∷ (0 ∷ 0 ∷ 0 ∷ 5 ∷ []) ∷ [])) ≡ first ++ second ++ third ++ fourth)
    × (text_from nothing_listed [] ≡ nothing)
    × (text_from nothing_listed (capture_of ((0 ∷ 0 ∷ 0 ∷ 5 ∷ []) ∷ []) ++ (115 ∷ [])) ≡ refused_first ++ bad_at_eight ++ one_refused)
unfolding read_datagram decode entries encode octets_of_each octets_of word_at items_at numbers_at number_at step_at walk decimal shown ending source_text sample_text sample_line dotted agent_text agent_line refused_line bad_line last_line record_lines frame_of behind_record record_text text_within text_from
examples = (refl, refl, refl)
