use Prim.Native.Nat.{◌+◌}
use native.Mathlib.Omega.{arith}
use mathlib.Core.Path.{refl}
use Rattle.sflow.specs.Datagram.{if_counters}
use Rattle.counter_calls.proofs.CounterRuns.{then_put, part_put}
use Rattle.counter_calls.proofs.put_interface.Goals as goal

pub returns : goal.returns
returns c =
    let a = c.args in
    part_put a.s.now _ _ a.at (a.at + 88) 1 if_counters (omega arith)
    (then_put _ _ _ _ _ _ _ _ _ _
    (then_put _ _ _ _ _ _ _ _ _ _
    (then_put _ _ _ _ _ _ _ _ _ _
    (then_put _ _ _ _ _ _ _ _ _ _
    (then_put _ _ _ _ _ _ _ _ _ _
    (then_put _ _ _ _ _ _ _ _ _ _ c.put_words.ensures c.put_hyper.ensures refl refl)
    c.put_words-2.ensures refl refl)
    c.put_hyper-2.ensures refl refl)
    c.put_words-3.ensures refl refl)
    c.put_hyper-3.ensures refl refl)
    c.put_words-4.ensures refl refl)
