-- What writing a value alone answers, and what the buffer then holds (document 01, "Writer").
use Rattle.std.specs.Prelude.{ℕ, Bool, cond, length, leb, Result, Ok, Err}
use mathlib.Core.List.{List, [], ◌∷◌, ◌++◌, flat_map}
use Rattle.std.proofs.Math.Option.{Option}
use Rattle.xdr.specs.Numbers.{octets_of}
use Rattle.xdr.specs.Writes.{padded_octets, Afterwards, afterwards, store_if}
use Rattle.sflow.specs.Grammar.{Form, Value, allows_given, encode_given}
use Rattle.form_writer.specs.declared.parts.Part.{Part}
use Rattle.form_writer.specs.declared.parts.Part.TheVariants.{Words, Padded, Octets}
use Rattle.form_writer.specs.declared.parts.WriteRefusal.{WriteRefusal}
use Rattle.form_writer.specs.declared.parts.WriteRefusal.TheVariants.{BadLimit, BadDatagram, BadValue, NoRoom}

-- the number of each refusal
abbrev pub write_refusal_number : WriteRefusal → ℕ
write_refusal_number NoRoom = 20
write_refusal_number BadLimit = 21
write_refusal_number BadValue = 22
write_refusal_number BadDatagram = 23

-- the number of each answer; 0 where the octets are written
abbrev pub write_number : Result ℕ WriteRefusal → ℕ
write_number (Ok n) = 0
write_number (Err why) = write_refusal_number why

-- octets written to the front of a buffer, or nothing where they do not fit it
unfoldable pub write_alone : List ℕ → List ℕ → Afterwards (Result ℕ WriteRefusal)
write_alone xs d = store_if (leb (length xs) (length d)) (Ok (length xs)) (Err NoRoom) d 0 xs

-- octets that may not be those of a value of the grammar
abbrev pub write_value : Bool → List ℕ → List ℕ → Afterwards (Result ℕ WriteRefusal)
write_value allowed xs d = cond allowed (write_alone xs d) (afterwards (Err BadValue) d)

-- "A writer of values alone tests 22, then 20 against its buffer's length": a value of a form, where one is given and the form allows it
abbrev pub write_given : (g : Form) → Option (Value g) → List ℕ → Afterwards (Result ℕ WriteRefusal)
write_given g x d = write_value (allows_given g x) (encode_given g x) d

-- the octets of words
unfoldable pub words_octets : List ℕ → List ℕ
words_octets ws = flat_map (octets_of 4) ws

-- the octets of a part: words, a string with its padding, or octets as they are
abbrev pub part_octets : Part → List ℕ
part_octets (Words ws) = words_octets ws.now
part_octets (Padded xs) = padded_octets xs.now
part_octets (Octets xs) = xs.now

-- parts one behind the other
abbrev pub parts_octets : List Part → List ℕ
parts_octets [] = []
parts_octets (p ∷ ps) = part_octets p ++ parts_octets ps
