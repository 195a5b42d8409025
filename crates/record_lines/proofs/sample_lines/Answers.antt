use native.Mathlib.Omega.{arith}
use Prim.Native.Nat.{◌<◌}
use mathlib.Core.Path.{sym, ap, ◌∙◌}
use Rattle.record_lines.proofs.Records.{leaves_next, leaves_end, walked_end, walked_more, walked_over, walked_stop, one_less}
use Rattle.std.specs.Prelude.{Ok}
use Rattle.record_lines.proofs.sample_lines.Goals as goal

pub returns-in_default : goal.returns-in_default
returns-in_default c =
    let i = c.loop.invariant in
    let left : 0 < c.loop.cursor.left = omega (arith, i.0) in
    (leaves_end _ _ _ _ _ _ i.3 (walked_stop _ _ _ _ left (sym c.next_sample.ensures ∙ c.in_default.is)) (omega (arith, i.1, i.2)), omega (arith, i.1))

pub returns-in_default-step : goal.returns-in_default-step
returns-in_default-step c =
    let i = c.loop.invariant in
    let left : 0 < c.loop.cursor.left = omega (arith, i.0) in
    (leaves_end _ _ _ _ _ _ i.3 (walked_over _ _ _ left (sym c.next_sample.ensures ∙ c.in-Ok.is ∙ ap Ok c.in_default-step.is)) (omega (arith, i.1, i.2)), omega (arith, i.1))

pub sample_line-out-requires : goal.sample_line-out-requires
sample_line-out-requires c =
    let i = c.loop.invariant in omega (arith, i.0, i.1, i.2)

pub loop-preserved : goal.loop-preserved
loop-preserved c =
    let i = c.loop.invariant in
    let left : 0 < c.loop.cursor.left = omega (arith, i.0) in
    let found = sym c.next_sample.ensures ∙ c.in-Ok.is ∙ ap Ok c.in-Some.is in
    let less = one_less _ _ _ _ found in (
      omega (arith, i.0, less),
      omega (arith, i.1, less, c.sample_line-out.ensures.1),
      omega (arith, i.2),
      leaves_next _ _ _ _ _ _ _ _ _ _ i.2 i.3 (rw less (walked_more _ _ _ _ _ left found)) c.sample_line-out.ensures.0,
    )

pub returns : goal.returns
returns c =
    let i = c.loop.invariant in
    (leaves_end _ _ _ _ _ _ i.3 (walked_end _ _ _ (omega (arith, i.0))) (omega (arith, i.1, i.2)), omega (arith, i.1))
