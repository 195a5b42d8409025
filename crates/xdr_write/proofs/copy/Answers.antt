use Prim.Native.Nat.{◌+◌, ◌<◌}
use native.Mathlib.Numerals.{add-one}
use borrow.Author.Rules.{rules}
use native.Mathlib.Omega.{arith}
use mathlib.Core.Path.{refl, ◌∙◌}
use lib.ListN.{length, length-set}
use lib.Seq.{paste-zero, paste-suc}
use Rattle.xdr.proofs.Writing.{stored_pasted}
use Rattle.xdr_write.proofs.copy.Goals as goal

pub loop-i-init : goal.loop-i-init
loop-i-init c = (refl, paste-zero c.args.d.now c.args.at c.args.xs.now)

pub loop-i-preserved : goal.loop-i-preserved
loop-i-preserved c =
    let a = c.args in
    let room : a.at + c.loop-i.i < length a.d.now = omega arith in
    let step = paste-suc a.d.now a.at a.xs.now c.loop-i.i 0 room (search rules) in
    (simp length-set c.loop-i.invariant.0, rw (c.loop-i.invariant.1, add-one) step)

pub returns : goal.returns
returns c =
    let a = c.args in
    c.loop-i.invariant.1 ∙ stored_pasted a.d.now a.at a.xs.now c.loop-i.i (omega arith)
