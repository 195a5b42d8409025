-- The lines of a capture's listing, as octets (ASCII): document 01, "Listing a capture".
use Rattle.std.specs.Prelude.{ℕ, ◌+◌, ◌/◌, ◌%◌, ◌≡◌, Bool, true, false, cond, List, [], ◌∷◌, ◌++◌, length, leb, eqb}
use Rattle.xdr.specs.Writes.{stored, Afterwards, store_if}
use Rattle.fields.specs.declared.address.Address.{Address}
use Rattle.reader.specs.declared.sample.Sample.{Sample}
use Rattle.reader.specs.declared.sample.SampleValues.{SampleValues}
use Rattle.reader.specs.declared.sample.SampleValues.TheVariants.{Flow, Counters}
use Rattle.reader.specs.declared.datagram.Head.{Head}
use Rattle.record_lines.specs.Digits.{decimal, hexadecimal}
use Rattle.std.specs.Prelude.{Option, Some, None}

-- octets xs put at an offset of a buffer d make the buffer e and give the offset behind them
pub record Puts (d : List ℕ) (at : ℕ) (xs : List ℕ) (next : ℕ) (e : List ℕ) : Type 0 where
  pub next_is : next ≡ at + length xs
  pub octets_are : e ≡ stored d at xs

-- a line written at an offset where room octets are left, which is enough for it; else nothing is changed
unfoldable pub write_line : ℕ → List ℕ → ℕ → List ℕ → Afterwards (Option ℕ)
write_line room d at xs = store_if (leb (at + room) (length d)) (Some (at + length xs)) None d at xs

-- ---- the words of the lines

-- " agent "
abbrev pub agent_is : List ℕ
agent_is = 32 ∷ 97 ∷ 103 ∷ 101 ∷ 110 ∷ 116 ∷ 32 ∷ []

-- " flow at "
abbrev pub flow_at : List ℕ
flow_at = 32 ∷ 102 ∷ 108 ∷ 111 ∷ 119 ∷ 32 ∷ 97 ∷ 116 ∷ 32 ∷ []

-- " counters at "
abbrev pub counters_at : List ℕ
counters_at = 32 ∷ 99 ∷ 111 ∷ 117 ∷ 110 ∷ 116 ∷ 101 ∷ 114 ∷ 115 ∷ 32 ∷ 97 ∷ 116 ∷ 32 ∷ []

-- " length "
abbrev pub length_is : List ℕ
length_is = 32 ∷ 108 ∷ 101 ∷ 110 ∷ 103 ∷ 116 ∷ 104 ∷ 32 ∷ []

-- " source "
abbrev pub source_is : List ℕ
source_is = 32 ∷ 115 ∷ 111 ∷ 117 ∷ 114 ∷ 99 ∷ 101 ∷ 32 ∷ []

-- "."
abbrev pub dot : List ℕ
dot = 46 ∷ []

-- " seq "
abbrev pub seq_is : List ℕ
seq_is = 32 ∷ 115 ∷ 101 ∷ 113 ∷ 32 ∷ []

-- " refused "
abbrev pub refused_is : List ℕ
refused_is = 32 ∷ 114 ∷ 101 ∷ 102 ∷ 117 ∷ 115 ∷ 101 ∷ 100 ∷ 32 ∷ []

-- " at "
abbrev pub at_is : List ℕ
at_is = 32 ∷ 97 ∷ 116 ∷ 32 ∷ []

-- "capture bad at "
abbrev pub bad_at : List ℕ
bad_at = 99 ∷ 97 ∷ 112 ∷ 116 ∷ 117 ∷ 114 ∷ 101 ∷ 32 ∷ 98 ∷ 97 ∷ 100 ∷ 32 ∷ 97 ∷ 116 ∷ 32 ∷ []

-- "records "
abbrev pub records_are : List ℕ
records_are = 114 ∷ 101 ∷ 99 ∷ 111 ∷ 114 ∷ 100 ∷ 115 ∷ 32 ∷ []

-- " samples "
abbrev pub samples_are : List ℕ
samples_are = 32 ∷ 115 ∷ 97 ∷ 109 ∷ 112 ∷ 108 ∷ 101 ∷ 115 ∷ 32 ∷ []

-- a line feed
abbrev pub newline : List ℕ
newline = 10 ∷ []

-- ---- the lines

-- the end of a line: words and a number
unfoldable pub ending : List ℕ → ℕ → List ℕ
ending xs n = (xs ++ decimal n) ++ newline

-- " source 1.100": the top octet, a dot, the low 24 bits
unfoldable pub source_text : ℕ → List ℕ
source_text v = (source_is ++ decimal (v / 16777216)) ++ (dot ++ decimal (v % 16777216))

-- a sample's kind with its offset, length, source id and sequence number
unfoldable pub sample_text : (kind : List ℕ) (offset len source number : ℕ) → List ℕ
sample_text kind offset len source number =
    (kind ++ decimal offset) ++ (length_is ++ decimal len) ++ source_text source ++ ending seq_is number

abbrev pub sample_text_of : ℕ → ℕ → SampleValues → List ℕ
sample_text_of offset len (Flow v) = sample_text flow_at offset len v.words.source_id v.words.sequence_number
sample_text_of offset len (Counters v) = sample_text counters_at offset len v.source_id v.sequence_number

-- " counters at 24 length 48 source 1.100 seq 5"; a flow sample's line says flow
unfoldable pub sample_line : Sample → List ℕ
sample_line x = sample_text_of x.offset x.length x.values

abbrev pub sample_lines : List Sample → List ℕ
sample_lines [] = []
sample_lines (x ∷ xs) = sample_line x ++ sample_lines xs

-- "10.0.0.7", an IPv4 address given as a word
unfoldable pub dotted : ℕ → List ℕ
dotted v = decimal (v / 16777216) ++ (dot ++ decimal (v / 65536 % 256)) ++ (dot ++ decimal (v / 256 % 256)) ++ (dot ++ decimal (v % 256))

-- four words in 32 hexadecimal digits
unfoldable pub hex_text : ℕ → ℕ → ℕ → ℕ → List ℕ
hex_text a b c d = hexadecimal a ++ hexadecimal b ++ hexadecimal c ++ hexadecimal d

unfoldable pub agent_text : Address → List ℕ
agent_text x = cond (eqb x.kind 1) (dotted x.octets.a) (hex_text x.octets.a x.octets.b x.octets.c x.octets.d)

-- "1 agent 10.0.0.7 seq 1 length 72": a record's number, the head and the length of its datagram
unfoldable pub agent_line : ℕ → Head → ℕ → List ℕ
agent_line number h len =
    (decimal number ++ agent_is) ++ agent_text h.agent ++ (seq_is ++ decimal h.sequence_number) ++ ending length_is len

-- "2 refused 2 at 0": a record's number, the refusal's number and its offset
unfoldable pub refused_line : ℕ → ℕ → ℕ → List ℕ
refused_line number n p = decimal number ++ (refused_is ++ decimal n) ++ ending at_is p

-- "capture bad at 8"
unfoldable pub bad_line : ℕ → List ℕ
bad_line offset = ending bad_at offset

-- "records 2 refused 1 samples 1"
unfoldable pub last_line : ℕ → ℕ → ℕ → List ℕ
last_line records refused samples = (records_are ++ decimal records) ++ (refused_is ++ decimal refused) ++ ending samples_are samples

-- what follows the last record: where the capture goes wrong there, the line that says so, then the last line
abbrev pub closing_lines : (bad : Bool) (offset records refused samples : ℕ) → List ℕ
closing_lines false offset records refused samples = last_line records refused samples
closing_lines true offset records refused samples = bad_line offset ++ last_line records refused samples
