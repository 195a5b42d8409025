use mathlib.Core.Path.{sym, ap}
use mathlib.Core.Logic.{⊎_elim}
use mathlib.Core.List.{List}
use Prim.Native.Nat.{ℕ}
use Rattle.xdr.specs.Items.{total_width}
use Rattle.counter_data.proofs.Bodies.{size_of, no_widths}
use Rattle.counter_data.proofs.body_size.Goals as goal

pub returns-in-1 : goal.returns-in-1
returns-in-1 c = ⊎_elim (λ e. size_of _ 1 e) (⊎_elim (λ e. size_of _ 4 e) (λ e. size_of _ 6 e)) c.in-1.is

pub returns-in-2 : goal.returns-in-2
returns-in-2 c = size_of _ 2 c.in-2.is

pub returns-in-3 : goal.returns-in-3
returns-in-3 c = size_of _ 3 c.in-3.is

pub returns-in-5 : goal.returns-in-5
returns-in-5 c = size_of _ 5 c.in-5.is

pub returns-in-7 : goal.returns-in-7
returns-in-7 c = size_of _ 7 c.in-7.is

pub returns-in_default : goal.returns-in_default
returns-in_default c = let r = c.in_default.in_default-own.rest in sym (ap (λ (ws : List ℕ). total_width ws) (no_widths _ r.0.0.0.0.1 r.0.0.0.1 r.0.0.1 r.0.1 r.1))
