use native.Mathlib.Omega.{arith}
use mathlib.Core.Logic.{⊎_elim}
use Rattle.counter_data.proofs.Bodies.{no_widths}
use Rattle.counter_calls.proofs.CounterRuns.{version_room, version_put, no_version_put}
use Rattle.counter_calls.proofs.put_version.Goals as goal

pub put_interface-requires : goal.put_interface-requires
put_interface-requires c =
    ⊎_elim (λ e. version_room _ 1 _ _ e c.requires) (⊎_elim (λ e. version_room _ 4 _ _ e c.requires) (λ e. version_room _ 6 _ _ e c.requires))
    c.in-1.is

pub put_with_words-requires : goal.put_with_words-requires
put_with_words-requires c = let room = version_room _ 2 _ _ c.in-2.is c.requires in (omega arith, omega arith)

pub put_with_words-requires-in-3 : goal.put_with_words-requires-in-3
put_with_words-requires-in-3 c = let room = version_room _ 3 _ _ c.in-3.is c.requires in (omega arith, omega arith)

pub put_vg-requires : goal.put_vg-requires
put_vg-requires c = version_room _ 5 _ _ c.in-5.is c.requires

pub put_vlan-requires : goal.put_vlan-requires
put_vlan-requires c = version_room _ 7 _ _ c.in-7.is c.requires

pub returns-in_default : goal.returns-in_default
returns-in_default c = let r = c.in_default.in_default-own.rest in no_version_put _ _ _ _ (no_widths _ r.0.0.0.0.1 r.0.0.0.1 r.0.0.1 r.0.1 r.1)

pub returns-in-1 : goal.returns-in-1
returns-in-1 c =
    let put = c.put_interface.ensures in
    ⊎_elim (λ e. version_put _ _ _ _ _ 1 e put) (⊎_elim (λ e. version_put _ _ _ _ _ 4 e put) (λ e. version_put _ _ _ _ _ 6 e put))
    c.in-1.is

pub returns-in-2 : goal.returns-in-2
returns-in-2 c = version_put _ _ _ _ _ 2 c.in-2.is c.put_with_words.ensures

pub returns-in-3 : goal.returns-in-3
returns-in-3 c = version_put _ _ _ _ _ 3 c.in-3.is c.put_with_words-in-3.ensures

pub returns-in-5 : goal.returns-in-5
returns-in-5 c = version_put _ _ _ _ _ 5 c.in-5.is c.put_vg.ensures

pub returns-in-7 : goal.returns-in-7
returns-in-7 c = version_put _ _ _ _ _ 7 c.in-7.is c.put_vlan.ensures
