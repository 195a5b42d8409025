use native.Mathlib.Omega.{arith}
use lib.ListN.{length}
use Prim.Native.Nat.{◌+◌, ◌<◌}
use mathlib.Core.Path.{sym, ◌∙◌}
use Rattle.record_lines.proofs.Puts.{then}
use Rattle.record_lines.proofs.Records.{lists, lists_refused, no_room, no_room_at_all}
use Rattle.record_lines.proofs.list_record.Goals as goal

pub returns-in_err-room : goal.returns-in_err-room
returns-in_err-room c =
    let past : length c.args.d.now < c.args.at + 164 = omega (arith, c.in_err-room.ensures) in
    rw c.from_residual.ensures (no_room_at_all _ _ _ _ past)

pub returns-then-room-lt164 : goal.returns-then-room-lt164
returns-then-room-lt164 c = no_room_at_all _ _ _ _ (omega (arith, c.in_ok-room.ensures))

pub returns-then-room-count : goal.returns-then-room-count
returns-then-room-count c = no_room _ _ _ _ _ (sym c.read.ensures ∙ c.in-Ok.is) (omega (arith, c.in_ok-room.ensures))

pub returns-in-Err : goal.returns-in-Err
returns-in-Err c =
    lists_refused _ _ _ _ _ _ _ _ _ (sym c.read.ensures ∙ c.in-Err.is) c.from-n.ensures
    c.refused_line.ensures.0 (omega (arith, c.in_ok-room.ensures))

pub returns-else-room-count : goal.returns-else-room-count
returns-else-room-count c =
    lists _ _ _ _ _ _ _ (sym c.read.ensures ∙ c.in-Ok.is)
    (then c.agent_line-next.ensures.0 c.sample_lines.ensures.0 (omega (arith, c.in_ok-room.ensures))) (omega (arith, c.in_ok-room.ensures))
