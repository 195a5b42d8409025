use Prim.Native.Nat.{ℕ, ◌+◌, ◌-◌, ◌<◌}
use native.Mathlib.Omega.{arith}
use mathlib.Core.Path.{◌≡◌, sym, ◌∙◌}
use Rattle.std.specs.Prelude.{Some, None}
use Rattle.xdr.specs.Items.{padded, nonzero_at}
use Rattle.xdr.proofs.Padding.{zeros_end, zeros_step, zeros_stop, padded_whole, padded_not, padded_missing}
use Rattle.xdr.proofs.read_padded.Goals as goal
use Rattle.xdr.proofs.read_padded.Goals.{then-s-at-via-then-s-at, then-s-at-via-else-s-at+then-s-at-2}

pub returns-then-s-at : goal.returns-then-s-at
returns-then-s-at c =
    elim c.then-s-at.branch [
      | then-s-at-via-then-s-at w ↦ sym (padded_missing _ _ _ (omega arith))
      | then-s-at-via-else-s-at+then-s-at-2 w ↦ sym (padded_missing _ _ _ (omega arith))
    ]

pub returns-then-s-p-ne0 : goal.returns-then-s-p-ne0
returns-then-s-p-ne0 c =
    let left : ℕ = c.args.at + padded c.args.len - c.loop-p.p in
    let more : 0 < left = omega arith in
    let stop : nonzero_at c.args.s.now c.loop-p.p left ≡ Some c.loop-p.p = zeros_stop _ _ _ more c.if-s-p-ne0.true in
    sym (padded_not _ _ _ _ (omega arith) (sym c.loop-p.invariant ∙ stop))

pub loop-p-preserved : goal.loop-p-preserved
loop-p-preserved c =
    let end : ℕ = c.args.at + padded c.args.len in
    let more : 0 < end - c.loop-p.p = omega arith in
    let less : end - c.loop-p.p - 1 ≡ end - (c.loop-p.p + 1) = omega arith in
    let step = zeros_step c.args.s.now c.loop-p.p (end - c.loop-p.p) more c.if-s-p-ne0.false in
    rw (← less) (sym step ∙ c.loop-p.invariant)

pub returns : goal.returns
returns c =
    let left : ℕ = c.args.at + padded c.args.len - c.loop-p.p in
    let end : nonzero_at c.args.s.now c.loop-p.p left ≡ None = zeros_end _ _ _ (omega arith) in
    sym (padded_whole _ _ _ (omega arith) (sym c.loop-p.invariant ∙ end))
