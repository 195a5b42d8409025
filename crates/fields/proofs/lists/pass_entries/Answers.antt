use Prim.Native.Nat.{◌-◌, ◌+◌}
use native.Mathlib.Omega.{arith}
use mathlib.Core.Path.{◌≡◌, sym, ◌∙◌}
use Rattle.fields.proofs.Answers.{passed_up}
use Rattle.fields.proofs.Passing.{each_end, each_step, each_stop}
use Rattle.fields.proofs.lists.pass_entries.Goals as goal

pub returns-in_err-at : goal.returns-in_err-at
returns-in_err-at g c = λ entry h.
    passed_up _ _ c.from_residual.ensures.1
    ∙ sym (each_stop entry (c.args.count - c.loop.counter) c.loop.at _ (omega arith) (sym (h _ _ c.pass.ensures) ∙ c.in_err-at.was))
    ∙ c.loop.invariant entry h

pub loop-preserved : goal.loop-preserved
loop-preserved g c = λ entry h.
    let less : c.args.count - c.loop.counter - 1 ≡ c.args.count - (c.loop.counter + 1) = omega arith in
    rw (← less)
    (sym (each_step entry (c.args.count - c.loop.counter) c.loop.at _ (omega arith) (sym (h _ _ c.pass.ensures) ∙ c.in_ok-at.was))
    ∙ c.loop.invariant entry h)

pub returns : goal.returns
returns g c = λ entry h. sym (each_end entry (c.args.count - c.loop.counter) c.loop.at (omega arith)) ∙ c.loop.invariant entry h
