use lib.ListN.{length, take, drop, replicate}
use mathlib.Core.List.{◌++◌}
use mathlib.Core.Path.{◌≡◌}
use Rattle.rule_calls.proofs.widened.Given as goal

-- the numbers so far, and zeros
abbrev pub invariant-loop-i : goal.invariant-loop-i
invariant-loop-i l = (length l.wide ≡ 23) × (l.wide ≡ take l.i l.xs ++ drop l.i (replicate 23 0))
