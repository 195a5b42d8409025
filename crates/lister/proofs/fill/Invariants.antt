use Rattle.std.proofs.Common.{◌≡◌, take}
use Rattle.std.specs.Io.KnownBytes.{Keeps}
use Rattle.lister.proofs.fill.Given as goal

-- a read that fails takes nothing, and the held octets stay
abbrev pub invariant-loop : goal.invariant-loop
invariant-loop g l = Keeps (g.R.Read.remaining l.fn.reader) (g.R.Read.remaining l.reader) × (take l.held l.input ≡ take l.held l.fn.input)
