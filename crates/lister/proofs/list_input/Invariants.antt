use Rattle.std.proofs.Common.{◌≡◌, length, take, ◌≤◌, Err}
use Rattle.listing.specs.Captures.{frame_of}
use Rattle.listing.specs.declared.FrameFault.TheVariants.{Short}
use Rattle.lister.proofs.Stream.{Streamed}
use Rattle.lister.proofs.list_input.Given as goal

-- the held octets stand in the buffer, are no whole record, and follow those that are listed
abbrev pub invariant-loop : goal.invariant-loop
invariant-loop g l =
    (l.held ≤ length l.input) × (frame_of (take l.held l.input) ≡ Err Short)
    × Streamed (g.R.Read.remaining l.fn.reader) (g.R.Read.remaining l.reader) (g.W.Write.contents l.fn.writer) (g.W.Write.contents l.writer) l.state (take l.held l.input)
