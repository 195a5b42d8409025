use Rattle.form_writer.specs.Parts.{words_octets}
use Rattle.xdr.specs.Writes.{stored}
use lib.ListN.{length, take}
use mathlib.Core.Path.{◌≡◌}
use Prim.Native.Nat.{◌+◌, ◌*◌}
use Rattle.form_writer.proofs.parts.put_words.Given as goal

abbrev pub invariant-loop-w : goal.invariant-loop-w
invariant-loop-w l = (l.p ≡ l.at + l.w-index * 4) × (length l.d ≡ length l.initial.d) × (l.d ≡ stored l.initial.d l.at (words_octets (take l.w-index l.ws)))
