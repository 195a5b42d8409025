use Rattle.std.proofs.Common.{◌≡◌, ◌+◌, ◌-◌, length, refl, arith, drop-drop}
use Rattle.xdr.specs.Writes.{stored}
use Rattle.record_lines.proofs.put.Goals as goal

pub returns : goal.returns
unfolding stored
returns c =
    let k : c.args.at + length c.args.s.now - c.args.at ≡ length c.args.s.now = omega arith in
    record { next_is = refl; octets_are = rw (c.copy_from_slice.ensures.after, k, drop-drop (length c.args.s.now) c.args.at c.args.d.now) }
