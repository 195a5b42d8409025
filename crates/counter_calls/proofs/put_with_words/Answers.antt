use Prim.Native.Nat.{◌+◌, ◌*◌}
use native.Mathlib.Omega.{arith}
use mathlib.Core.Path.{◌≡◌, refl}
use lib.ListN.{replicate}
use Rattle.xdr.specs.Items.{total_width}
use Rattle.counter_calls.proofs.CounterRuns.{words_width, then_put, part_put}
use Rattle.counter_calls.proofs.put_with_words.Goals as goal

pub returns : goal.returns
returns c =
    let a = c.args in
    let wide : total_width (replicate a.count 4) ≡ 4 * a.count = words_width a.count in
    then_put _ _ _ _ _ _ _ _ _ _ c.put_interface.ensures
    (part_put a.s.now _ _ (a.at + 88) (a.at + 88 + 4 * a.count) 20 (replicate a.count 4) (omega arith) c.put_words.ensures) refl refl
