use Rattle.std.proofs.Common.{add-one, arith}
use native.Mathlib.Nat.{pow-suc}
use Rattle.record_lines.specs.Digits.{decimal}
use Rattle.record_lines.proofs.Digits.{narrow, broad}
use Rattle.record_lines.proofs.width.Goals as goal

pub returns-in-None : goal.returns-in-None
unfolding decimal
returns-in-None c = (narrow 20 _ (omega arith) (omega (arith, c.in-None.ensures.none)), omega arith)

pub returns-in-Some : goal.returns-in-Some
unfolding decimal
returns-in-Some c =
    let e = pow-suc 10 c.in-Some.power in
    let next = c.in-Some.ensures.next_power_gt in
    let low = c.in-Some.ensures.power_le in
    let few = c.in-Some.ensures.bound in
    (rw add-one (broad c.in-Some.power 20 c.args.n (omega arith) low (omega arith)), omega arith)
