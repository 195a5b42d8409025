use Rattle.std.proofs.Common.{◌++◌, take}
use Rattle.std.specs.Io.KnownBytes.{Appends}
use Rattle.vector_io.specs.Texts.{spaced}
use Rattle.vector_io.proofs.show_part.Given as goal

-- the text and the numbers so far
abbrev pub invariant-loop-number : goal.invariant-loop-number
invariant-loop-number g l = Appends (g.W.Write.contents l.fn.out) (g.W.Write.contents l.out) (l.text ++ spaced (take l.number-index l.number-items))
