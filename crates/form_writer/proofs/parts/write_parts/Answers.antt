use Prim.Native.Nat.{◌+◌, ◌≤◌}
use lib.ListN.{length}
use mathlib.Core.Path.{refl}
use native.Mathlib.Omega.{arith}
use Rattle.form_writer.proofs.Stores.{room_start, room_step, room_none, room_all, put_start, put_room, put_step, put_end}
use Rattle.form_writer.proofs.parts.write_parts.Goals as goal

pub loop-part-init : goal.loop-part-init
loop-part-init c = room_start _ _

pub returns-then-room-size : goal.returns-then-room-size
returns-then-room-size c =
    room_none _ _ _ _ c.loop-part.invariant _ _ c.size-size.ensures c.loop-part-test.true c.if-room-size.true

pub loop-part-preserved : goal.loop-part-preserved
loop-part-preserved c =
    room_step _ _ _ _ c.loop-part.invariant _ _ c.size-size.ensures c.loop-part-test.true _ (omega arith)

pub loop-part-2-init : goal.loop-part-2-init
loop-part-2-init c = put_start _ _ (room_all _ _ _ _ c.loop-part.invariant c.loop-part-test.false)

pub put-requires : goal.put-requires
put-requires c = put_room _ _ _ _ _ c.loop-part-2.invariant _ c.loop-part-2-test.true _ refl

pub overflow_add-at : goal.overflow_add-at
overflow_add-at c =
    let room : c.loop-part-2.at + c.size-at.result ≤ length c.loop-part-2.d =
    put_room _ _ _ _ _ c.loop-part-2.invariant _ c.loop-part-2-test.true _ c.size-at.ensures in
    omega arith

pub loop-part-2-preserved : goal.loop-part-2-preserved
loop-part-2-preserved c =
    put_step _ _ _ _ _ c.loop-part-2.invariant _ c.loop-part-2-test.true _ _ c.size-at.ensures c.put.ensures

pub returns : goal.returns
returns c = put_end _ _ _ _ _ c.loop-part-2.invariant c.loop-part-2-test.false
