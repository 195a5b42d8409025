-- Values of strings.
use Rattle.std.specs.Prelude.{ℕ, ◌+◌, List, length, take, drop}
use Rattle.fields.specs.declared.strings.Text.{Text}

-- a string at its length word
abbrev pub text_of : ℕ → List ℕ → Text
text_of at xs = record { at = at + 4; length = length xs }

-- the octets of a string that stands at a place
abbrev pub text_in : List ℕ → Text → List ℕ
text_in s t = take t.length (drop t.at s)
