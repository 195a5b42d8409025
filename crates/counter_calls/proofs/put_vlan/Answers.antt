use Prim.Native.Nat.{◌+◌}
use native.Mathlib.Omega.{arith}
use mathlib.Core.Path.{refl}
use Rattle.sflow.specs.Datagram.{vlan_counters}
use Rattle.counter_calls.proofs.CounterRuns.{then_put, part_put}
use Rattle.counter_calls.proofs.put_vlan.Goals as goal

pub returns : goal.returns
returns c =
    let a = c.args in
    part_put a.s.now _ _ a.at (a.at + 28) 1 vlan_counters (omega arith)
    (then_put _ _ _ _ _ _ _ _ _ _
    (then_put _ _ _ _ _ _ _ _ _ _ c.put_words.ensures c.put_hyper.ensures refl refl)
    c.put_words-2.ensures refl refl)
