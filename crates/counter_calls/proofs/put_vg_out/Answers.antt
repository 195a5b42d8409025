use Prim.Native.Nat.{◌+◌}
use native.Mathlib.Omega.{arith}
use mathlib.Core.Path.{refl}
use mathlib.Core.List.{[], ◌∷◌}
use Rattle.counter_calls.proofs.CounterRuns.{then_put, part_put}
use Rattle.counter_calls.proofs.put_vg_out.Goals as goal

pub returns : goal.returns
returns c =
    let a = c.args in
    part_put a.s.now _ _ a.at (a.at + 40) 28 (4 ∷ 8 ∷ 4 ∷ 8 ∷ 8 ∷ 8 ∷ []) (omega arith)
    (then_put _ _ _ _ _ _ _ _ _ _
    (then_put _ _ _ _ _ _ _ _ _ _
    (then_put _ _ _ _ _ _ _ _ _ _
    (then_put _ _ _ _ _ _ _ _ _ _
    (then_put _ _ _ _ _ _ _ _ _ _ c.put_words.ensures c.put_hyper.ensures refl refl)
    c.put_words-2.ensures refl refl)
    c.put_hyper-2.ensures refl refl)
    c.put_hyper-3.ensures refl refl)
    c.put_hyper-4.ensures refl refl)
