use Prim.Native.Nat.{◌+◌, ◌-◌, ◌*◌}
use mathlib.Core.Path.{◌≡◌}
use lib.ListN.{length, replicate}
use Rattle.xdr.specs.Items.{numbers_at}
use Rattle.numbers.specs.Reports.{filled_behind}
use Rattle.counter_calls.proofs.put_words.Given as goal

-- What is put so far, and the words that are left put behind it, give the whole.
abbrev pub invariant-loop-i : goal.invariant-loop-i
invariant-loop-i l = (l.at ≡ l.first + 4 * l.i) × (length l.out ≡ length l.initial.out)
    × (filled_behind (l.n + l.i) (numbers_at l.s l.at (replicate (l.count - l.i) 4)) l.out ≡ filled_behind l.n (numbers_at l.s l.first (replicate l.count 4)) l.initial.out)
