use Prim.Native.Nat.{ℕ, ◌+◌}
use mathlib.Core.Path.{ap, sym}
use Rattle.numbers.proofs.Reports.{behind_behind}
use Rattle.rule_calls.proofs.fill_key.Goals as goal

pub returns : goal.returns
returns c =
    rw (sym c.widened-front.ensures.0, sym c.widened-back.ensures.0)
    (behind_behind _ _ _ _ _ 2 25 (sym (ap (λ (n : ℕ). 2 + n) c.widened-front.ensures.1)) c.fill_behind.ensures c.fill_behind-2.ensures)
