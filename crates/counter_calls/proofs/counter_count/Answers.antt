use borrow.Author.Rules.{rules}
use mathlib.Core.Path.{sym, ap}
use mathlib.Core.Logic.{⊎_elim}
use mathlib.Core.List.{List}
use Prim.Native.Nat.{ℕ}
use lib.ListN.{length}
use Rattle.counter_data.proofs.Bodies.{no_widths}
use Rattle.counter_calls.proofs.CounterRuns.{count_of}
use Rattle.counter_calls.proofs.counter_count.Goals as goal

pub returns-in-1 : goal.returns-in-1
returns-in-1 c = ⊎_elim (λ e. (count_of _ 1 e, search rules)) (⊎_elim (λ e. (count_of _ 4 e, search rules)) (λ e. (count_of _ 6 e, search rules))) c.in-1.is

pub returns-in-2 : goal.returns-in-2
returns-in-2 c = (count_of _ 2 c.in-2.is, search rules)

pub returns-in-3 : goal.returns-in-3
returns-in-3 c = (count_of _ 3 c.in-3.is, search rules)

pub returns-in-5 : goal.returns-in-5
returns-in-5 c = (count_of _ 5 c.in-5.is, search rules)

pub returns-in-7 : goal.returns-in-7
returns-in-7 c = (count_of _ 7 c.in-7.is, search rules)

pub returns-in_default : goal.returns-in_default
returns-in_default c = let r = c.in_default.in_default-own.rest in (sym (ap (λ (ws : List ℕ). length ws) (no_widths _ r.0.0.0.0.1 r.0.0.0.1 r.0.0.1 r.0.1 r.1)), search rules)
