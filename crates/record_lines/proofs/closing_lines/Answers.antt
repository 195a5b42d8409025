use Rattle.record_lines.proofs.Puts.{line_fits, line_full}
use native.Mathlib.Omega.{arith}
use lib.ListN.{length}
use Prim.Native.Nat.{◌+◌, ◌<◌}
use Rattle.record_lines.proofs.closing_lines.Goals as goal

pub returns-in_err-room : goal.returns-in_err-room
returns-in_err-room c =
    let past : length c.args.d.now < c.args.at + 123 = omega (arith, c.in_err-room.ensures) in
    rw c.from_residual.ensures (line_full _ _ _ _ past)

pub returns-then-room-lt123 : goal.returns-then-room-lt123
returns-then-room-lt123 c = line_full _ _ _ _ (omega (arith, c.in_ok-room.ensures))

pub returns : goal.returns
returns c = line_fits _ _ _ _ _ _ (omega (arith, c.in_ok-room.ensures)) c.closing_text.ensures
