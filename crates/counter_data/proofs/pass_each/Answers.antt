use mathlib.Core.Logic.{⊎_elim}
use Rattle.counter_data.proofs.Bodies.{body_run, body_none, no_widths}
use Rattle.counter_data.proofs.pass_each.Goals as goal

pub returns-in-1 : goal.returns-in-1
returns-in-1 c =
    ⊎_elim (λ e. body_run _ _ _ 1 _ e c.pass_run.ensures)
    (⊎_elim (λ e. body_run _ _ _ 4 _ e c.pass_run.ensures) (λ e. body_run _ _ _ 6 _ e c.pass_run.ensures))
    c.in-1.is

pub returns-in-2 : goal.returns-in-2
returns-in-2 c = body_run _ _ _ 2 _ c.in-2.is c.pass_run-in-2.ensures

pub returns-in-3 : goal.returns-in-3
returns-in-3 c = body_run _ _ _ 3 _ c.in-3.is c.pass_run-in-3.ensures

pub returns-in-5 : goal.returns-in-5
returns-in-5 c = body_run _ _ _ 5 _ c.in-5.is c.pass_run-in-5.ensures

pub returns-in-7 : goal.returns-in-7
returns-in-7 c = body_run _ _ _ 7 _ c.in-7.is c.pass_run-in-7.ensures

pub returns-in_default : goal.returns-in_default
returns-in_default c = let r = c.in_default.in_default-own.rest in body_none _ _ _ (no_widths _ r.0.0.0.0.1 r.0.0.0.1 r.0.0.1 r.0.1 r.1)
