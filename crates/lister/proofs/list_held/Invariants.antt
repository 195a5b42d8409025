use Rattle.std.proofs.Common.{length, ◌-◌, ◌≤◌}
use Rattle.lister.proofs.Parts.{Lines}
use Rattle.lister.proofs.Stream.{So}
use Rattle.lister.proofs.list_held.Given as goal

-- what was written so far, and then the text of what is left, is the text of all; and it is the lines of the datagrams so far
abbrev pub invariant-loop-listed : goal.invariant-loop-listed
invariant-loop-listed g l =
    (l.listed ≤ length l.s) × Lines l.fn.begin l.s l.listed l.state
    × So l.fn.begin l.s l.listed l.state (g.W.Write.contents l.fn.writer) (g.W.Write.contents l.writer)

-- how many octets are left
abbrev pub decreases-loop-listed : goal.decreases-loop-listed
decreases-loop-listed g l = length l.s - l.listed
