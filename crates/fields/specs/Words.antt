-- Words in a row.
use Rattle.std.specs.Prelude.{ℕ, replicate}
use Rattle.sflow.specs.Grammar.{Form, fixed}
use Rattle.sflow.specs.Datagram.{int}

-- so many words of any value
abbrev pub words : ℕ → Form
words n = fixed (replicate n int)
