-- What the values of all forms share.
use Rattle.std.specs.Prelude.{ℕ, zero, suc, List, length, get_or, Result, Ok, Err}
use Rattle.sflow.specs.Grammar.{Form, Value, encode}
use Rattle.sflow.specs.Decode.{Decoded, found, refused, refused_at}
use Rattle.sflow.specs.declared.Refused.{Refused}
use Rattle.fields.specs.declared.words.Entries.{Entries}

-- the number at a position of a list, counted from 0: a run's item, or an octet
abbrev pub item : List ℕ → ℕ → ℕ
item vs i = get_or vs i 0

-- the octets that a value takes
abbrev pub size : (g : Form) → Value g → ℕ
size g v = length (encode g v)

-- entries at an offset
abbrev pub entries_at : {A : Type 0} → ℕ → List A → Entries
entries_at at vs = record { at = at; count = length vs }

-- the offset behind what was found, whatever it is
abbrev pub as_passed : {A : Type 0} → Decoded A → Result ℕ Refused
as_passed (found v next) = Ok next
as_passed (refused why p) = Err (refused_at why p)

-- goes on behind what was passed over; a refusal stays
abbrev pub behind : Result ℕ Refused → (ℕ → Result ℕ Refused) → Result ℕ Refused
behind (Ok next) f = f next
behind (Err refusal) f = Err refusal

-- so many entries passed over, one behind the other
unfoldable pub pass_each : (ℕ → Result ℕ Refused) → ℕ → ℕ → Result ℕ Refused
pass_each entry zero at = Ok at
pass_each entry (suc n) at = behind (entry at) (pass_each entry n)
