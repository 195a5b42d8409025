-- What starting a datagram and appending a sample to it answer, and what the buffer then holds (document 01, "Writer"): 21, 23, 22, 20 in this order.
use Rattle.std.specs.Prelude.{ℕ, ◌+◌, ◌≡◌, Bool, false, cond, List, [], ◌∷◌, ◌++◌, length, take, drop, leb, Result, Ok, Err}
use Rattle.std.proofs.Math.Option.{Option, some}
use Rattle.std.specs.Borrow.{MutBor}
use Rattle.std.specs.Fn.{Once, FnOnceReturnsAtMut}
use Rattle.xdr.specs.Numbers.{octets_of}
use Rattle.xdr.specs.Writes.{stored, Afterwards, afterwards}
use Rattle.sflow.specs.Grammar.{Value, Valid, encode, allows_given, encode_given}
use Rattle.sflow.specs.Decode.{Decoded, found, refused}
use Rattle.sflow.specs.Datagram.{address, sample_type, sample_datagram, agent_address, samples}
use Rattle.sflow.specs.Reading.{longest, read_datagram}
use Rattle.fields.specs.declared.address.Address.{Address}
use Rattle.form_writer.specs.declared.parts.WriteRefusal.{WriteRefusal}
use Rattle.form_writer.specs.declared.parts.WriteRefusal.TheVariants.{BadLimit, BadDatagram, BadValue, NoRoom}
use Rattle.form_writer.specs.Parts.{write_given}
use Rattle.form_writer.specs.Values.{address_value}

-- a limit from 36 octets to the longest datagram, and not above the buffer
abbrev pub limit_allowed : ℕ → ℕ → Bool
limit_allowed limit room = cond (leb 36 limit) (cond (leb limit longest) (leb limit room) false) false

-- ---- a datagram without samples

abbrev pub start_value : Address → ℕ → ℕ → Value sample_datagram
start_value agent sequence uptime = (4, (address_value agent, ((sequence ∷ uptime ∷ []), [])))

unfoldable pub started : ℕ → Address → ℕ → ℕ → List ℕ → Afterwards (Result ℕ WriteRefusal)
started limit agent sequence uptime d =
    cond (limit_allowed limit (length d))
    (write_given sample_datagram (some (start_value agent sequence uptime)) d)
    (afterwards (Err BadLimit) d)

-- ---- a sample more

-- the count word stands right before the samples, behind version, agent address, sequence number and uptime
abbrev pub count_at : Value sample_datagram → ℕ
count_at v = 12 + length (encode address (agent_address v))

abbrev pub ready_so_far : Decoded (Value sample_datagram) → Result (ℕ × ℕ) WriteRefusal
ready_so_far (found v end) = Ok (count_at v, length (samples v) + 1)
ready_so_far (refused why p) = Err BadDatagram

-- the limit, then the datagram so far, whose octets are the buffer's first
unfoldable pub checked_at : ℕ → ℕ → List ℕ → Result (ℕ × ℕ) WriteRefusal
checked_at limit size d =
    cond (limit_allowed limit (length d))
    (cond (leb size limit) (ready_so_far (read_datagram (take size d))) (Err BadDatagram))
    (Err BadLimit)

-- the octets of a sample behind a datagram of a size, and its count raised, where the new end is within the limit
abbrev pub raised : ℕ → ℕ → List ℕ → List ℕ → ℕ → ℕ → Afterwards (Result ℕ WriteRefusal)
raised limit size xs d at count =
    cond (leb (size + length xs) limit)
    (afterwards (Ok (size + length xs)) (stored (stored d size xs) at (octets_of 4 count)))
    (afterwards (Err NoRoom) d)

abbrev pub appended_when : Bool → List ℕ → ℕ → ℕ → List ℕ → Result (ℕ × ℕ) WriteRefusal → Afterwards (Result ℕ WriteRefusal)
appended_when allowed xs limit size d (Err why) = afterwards (Err why) d
appended_when allowed xs limit size d (Ok (at, count)) = cond allowed (raised limit size xs d at count) (afterwards (Err BadValue) d)

-- octets, if they are allowed, appended to the datagram so far
unfoldable pub appended_octets : Bool → List ℕ → ℕ → ℕ → List ℕ → Afterwards (Result ℕ WriteRefusal)
appended_octets allowed xs limit size d = appended_when allowed xs limit size d (checked_at limit size d)

-- a sample, where one is given and the grammar allows it, appended to the datagram so far
abbrev pub appended : Option (Value sample_type) → ℕ → ℕ → List ℕ → Afterwards (Result ℕ WriteRefusal)
appended x limit size d = appended_octets (allows_given sample_type x) (encode_given sample_type x) limit size d

-- whatever room it is lent, a sample's writer writes that sample to its front, where one is given and the grammar allows it
abbrev pub WritesSample : {F : Type 0} → Once F (MutBor (List ℕ) × Unit {0}) (Result ℕ WriteRefusal × (MutBor (List ℕ) × Unit {0})) → F → Option (Value sample_type) → Type 0
WritesSample writer write x =
    (room : List ℕ) (answer : Result ℕ WriteRefusal) (left : List ℕ) → FnOnceReturnsAtMut writer write room answer left
    → afterwards answer left ≡ write_given sample_type x room

-- a datagram with other samples, for what is said of append
abbrev pub with_samples : Value sample_datagram → List (Value sample_type) → Value sample_datagram
with_samples v ws = (v.0, (v.1.0, (v.1.1.0, ws)))

-- ---- what is left of a buffer where start or an append answers how long the datagram is

-- start leaves a datagram that the reader accepts, without samples; octets behind it stay
pub record StartAccepted (agent : Address) (sequence uptime : ℕ) (d : List ℕ) (n : ℕ) (e : List ℕ) : Type 0 where
  pub valid : Valid sample_datagram (start_value agent sequence uptime)
  pub accepted : read_datagram (take n e) ≡ found (start_value agent sequence uptime) n
  pub stays : drop n e ≡ drop n d

-- an append leaves one with the samples that were there and the new one last; octets behind it stay
pub record AppendAccepted (x : Option (Value sample_type)) (size : ℕ) (d : List ℕ) (n : ℕ) (e : List ℕ) : Type 0 where
  pub so_far : Value sample_datagram
  pub sample : Value sample_type
  pub given : x ≡ some sample
  pub valid : Valid sample_type sample
  pub was_accepted : read_datagram (take size d) ≡ found so_far size
  pub accepted : read_datagram (take n e) ≡ found (with_samples so_far (samples so_far ++ (sample ∷ []))) n
  pub stays : drop n e ≡ drop n d
