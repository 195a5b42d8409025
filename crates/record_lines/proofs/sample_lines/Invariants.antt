use Prim.Native.Nat.{◌+◌, ◌*◌, ◌≤◌}
use mathlib.Core.Path.{◌≡◌}
use lib.ListN.{length}
use Rattle.record_lines.proofs.Records.{Leaves, walked}
use Rattle.record_lines.proofs.sample_lines.Given as goal

-- the cursor has as many samples left as the loop has turns
abbrev pub invariant-loop : goal.invariant-loop
invariant-loop l =
    (l.counter + l.cursor.left ≡ l.count) × (l.out + 136 * l.cursor.left ≤ l.at + 136 * l.count) × (length l.d ≡ length l.initial.d)
    × Leaves l.initial.d l.at (walked l.s l.count l.first) l.d l.out (walked l.s l.cursor.left l.cursor.at)
