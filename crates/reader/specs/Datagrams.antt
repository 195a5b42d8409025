-- Values of whole datagrams, and the walk over a datagram's samples step by step.
use Rattle.std.specs.Prelude.{ℕ, zero, suc, ◌+◌, ◌-◌, cond, List, [], ◌∷◌, length, ltb, eqb, Result, Ok, Err, Option, Some, None}
use Rattle.sflow.specs.declared.Refusal.TheVariants.{Version, Trailing, TooLong}
use Rattle.sflow.specs.Grammar.{Form, fixed, ◌then◌, constant, Value}
use Rattle.sflow.specs.declared.Refused.{Refused}
use Rattle.sflow.specs.Decode.{Decoded, found, refused, refused_at, mapped, decode}
use Rattle.sflow.specs.Datagram.{int, address, sample_type, sample_datagram, agent_address, samples}
use Rattle.sflow.specs.Reading.{longest, read_datagram}
use Rattle.reader.specs.declared.sample.Sample.{Sample}
use Rattle.reader.specs.declared.datagram.Head.{Head}
use Rattle.reader.specs.declared.datagram.Cursor.{Cursor}
use Rattle.fields.specs.declared.address.Address.{Address}
use Rattle.fields.specs.Parts.{item, size, entries_at}
use Rattle.fields.specs.Addresses.{address_of}
use Rattle.reader.specs.Samples.{sample_of, as_sample}

-- a datagram's head: what stands before its samples, the offset of the first one and their number
abbrev pub datagram_of : Value sample_datagram → Head
datagram_of v =
    record {
      agent = address_of (agent_address v);
      sequence_number = item v.1.1.0 0;
      uptime = item v.1.1.0 1;
      samples = entries_at (16 + size address (agent_address v)) (samples v);
    }

abbrev pub as_head : Decoded Head → Result Head Refused
as_head (found v next) = Ok v
as_head (refused why p) = Err (refused_at why p)

-- what reading a whole datagram answers
abbrev pub datagram_read : List ℕ → Result Head Refused
datagram_read s = as_head (mapped datagram_of (read_datagram s))

-- sequence number, uptime, number of samples
abbrev pub head_words : List ℕ
head_words = int ∷ int ∷ int ∷ []

-- what stands before the samples: version; agent address; the words
abbrev pub datagram_head : Form
datagram_head = constant Version 4 (address then fixed head_words)

-- an agent, whose address ends at an offset, and the words behind it
abbrev pub head_with : Address → ℕ → List ℕ → Head
head_with agent at ws =
    record { agent = agent; sequence_number = item ws 0; uptime = item ws 1; samples = record { at = at + 12; count = item ws 2 } }

abbrev pub head_of : Value datagram_head → Head
head_of v =
    record {
      agent = address_of v.1.0;
      sequence_number = item v.1.1 0;
      uptime = item v.1.1 1;
      samples = record { at = 16 + size address v.1.0; count = item v.1.1 2 };
    }

unfoldable pub head_at : List ℕ → Decoded Head
head_at s = cond (ltb longest (length s)) (refused TooLong 0) (mapped head_of (decode datagram_head s 0))

-- a sample read at a cursor, and the cursor behind it
abbrev pub stepped : ℕ → Result (Sample × ℕ) Refused → Result (Option (Sample × Cursor)) Refused
stepped left (Ok r) = Ok (Some (r.0, record { at = r.1; left = left - 1 }))
stepped left (Err r) = Err r

-- one step: a sample, or behind the last one the end or what lies behind it
unfoldable pub step_at : List ℕ → Cursor → Result (Option (Sample × Cursor)) Refused
step_at s c =
    cond (eqb c.left 0)
    (cond (ltb c.at (length s)) (Err (refused_at Trailing c.at)) (Ok None))
    (stepped c.left (as_sample c.at (mapped (sample_of c.at) (decode sample_type s c.at))))

-- ---- the walk from a cursor to its end

-- the samples that a walk meets, and how it ends: at an offset, or in a refusal
pub record Walk : Type 0 where
  pub met : List Sample
  pub ending : Result ℕ Refused

abbrev pub walk_on : ℕ → Result (Option (Sample × Cursor)) Refused → (ℕ → Walk) → Walk
walk_on at (Ok (Some r)) more = record { met = r.0 ∷ (more r.1.at).met; ending = (more r.1.at).ending }
walk_on at (Ok None) more = record { met = []; ending = Ok at }
walk_on at (Err r) more = record { met = []; ending = Err r }

-- the walk with so many samples left, from an offset on
unfoldable pub walk : List ℕ → ℕ → ℕ → Walk
walk s zero at = walk_on at (step_at s (record { at = at; left = 0 })) (λ next. record { met = []; ending = Ok next })
walk s (suc left) at = walk_on at (step_at s (record { at = at; left = suc left })) (walk s left)

-- samples that lie end to end from an offset on, each with its offset, its length and its values
abbrev pub samples_from : ℕ → List (Value sample_type) → List Sample
samples_from at [] = []
samples_from at (v ∷ vs) =
    record { offset = at; length = size sample_type v; values = sample_of at v } ∷ samples_from (at + size sample_type v) vs
