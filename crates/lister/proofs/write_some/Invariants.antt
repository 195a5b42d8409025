use Rattle.std.specs.Io.KnownBytes.{Keeps}
use Rattle.lister.proofs.write_some.Given as goal

-- a write that fails takes nothing
abbrev pub invariant-loop : goal.invariant-loop
invariant-loop g l = Keeps (g.W.Write.contents l.fn.writer) (g.W.Write.contents l.writer)
