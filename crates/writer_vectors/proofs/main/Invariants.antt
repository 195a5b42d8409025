use Rattle.std.proofs.Common.{◌+◌, ◌≤◌}
use Rattle.writer_vectors.proofs.main.Given as goal

-- a turn counts one datagram at most
abbrev pub invariant-loop : goal.invariant-loop
invariant-loop l = l.equal + l.different ≤ l.counter
