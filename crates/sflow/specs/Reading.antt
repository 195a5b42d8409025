-- What reading a datagram finds (document 01, "Reader answers").
use Rattle.std.specs.Prelude.{ℕ, cond, List, length, ltb}
use Rattle.sflow.specs.declared.Refusal.TheVariants.{Trailing, TooLong}
use Rattle.sflow.specs.Grammar.{Value}
use Rattle.sflow.specs.Decode.{Decoded, found, refused, and_then, decode}
use Rattle.sflow.specs.Datagram.{sample_datagram}

-- the longest datagram, in octets
abbrev pub longest : ℕ
longest = 65507

-- a datagram: its length before all, then its items, then that nothing follows them
unfoldable pub read_datagram : List ℕ → Decoded (Value sample_datagram)
read_datagram s =
    cond (ltb longest (length s)) (refused TooLong 0)
    (and_then (decode sample_datagram s 0) λ v end.
    cond (ltb end (length s)) (refused Trailing end) (found v end))
