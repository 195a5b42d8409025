use Prim.Native.Nat.{◌+◌, ◌-◌, ◌*◌}
use mathlib.Core.Path.{◌≡◌}
use lib.ListN.{length}
use Rattle.sflow.specs.Decode.{decode}
use Rattle.fields.specs.Words.{words}
use Rattle.fields.proofs.WordRows.{rest_behind}
use Rattle.fields.proofs.words.read_words.Given as goal

-- The values so far, and the words that are left, which are all there, give the whole answer.
abbrev pub invariant-loop-value : goal.invariant-loop-value
invariant-loop-value g l =
    (length l.value-items ≡ l.value-index-end)
    × (l.next ≡ l.at + l.value-index * 4)
    × (rest_behind l.value-items l.value-index (decode (words (l.value-index-end - l.value-index)) l.s l.next) ≡ decode (words l.value-index-end) l.s l.at)
