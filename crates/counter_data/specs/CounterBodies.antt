-- Values of counters (RFC 3176, section 4, "Counter types" and "Counter data").
use Rattle.std.specs.Prelude.{ℕ, ◌+◌, Bool, true, false, cond, ◌||◌, List, [], ◌∷◌, eqb}
use Rattle.sflow.specs.Grammar.{Value}
use Rattle.sflow.specs.Decode.{Decoded, found, refused}
use Rattle.sflow.specs.Datagram.{counters_type}
use Rattle.counter_data.specs.declared.CounterBody.{CounterBody}

-- the version, and the offset of the first counter, behind the version word
abbrev pub counter_body_of : ℕ → Value counters_type → CounterBody
counter_body_of at v = record { version = v.0; at = at + 4 }

-- the counters that are found, in the RFC's order; none of a body that is refused
abbrev pub counters_found : Decoded (Value counters_type) → List ℕ
counters_found (found v next) = v.1
counters_found (refused why p) = []

-- ---- for private functions, which go by the widths of counters

-- widths of words and hypers only
abbrev pub words_and_hypers : List ℕ → Bool
words_and_hypers [] = true
words_and_hypers (w ∷ ws) = cond (eqb w 4 || eqb w 8) (words_and_hypers ws) false
