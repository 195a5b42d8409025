use mathlib.Core.Path.{refl}
use Rattle.counter_calls.proofs.CounterRuns.{then_put}
use Rattle.counter_calls.proofs.put_vg.Goals as goal

pub returns : goal.returns
returns c =
    then_put _ _ _ _ _ _ _ _ _ _
    (then_put _ _ _ _ _ _ _ _ _ _ c.put_interface.ensures c.put_vg_in.ensures refl refl)
    c.put_vg_out.ensures refl refl
