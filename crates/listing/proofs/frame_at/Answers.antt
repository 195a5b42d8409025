use Rattle.std.proofs.Common.{arith}
use Rattle.listing.proofs.Captures.{frame_short, frame_first, frame_second, frame_long, frame_cut, frame_whole}
use Rattle.listing.proofs.frame_at.Goals as goal
use Rattle.listing.proofs.frame_at.Goals.{then-s-at-ne115-via-then-s-at-ne115, then-s-at-ne115-via-else-s-at-ne115+then-s-at-ne70}

pub returns-in_default : goal.returns-in_default
returns-in_default c = frame_short c.args.s.now c.args.at (omega (arith, c.in_default.ensures))

pub returns-then-room-lt4 : goal.returns-then-room-lt4
returns-then-room-lt4 c = frame_short c.args.s.now c.args.at (omega (arith, c.in-Some.ensures))

pub returns-then-s-at-ne115 : goal.returns-then-s-at-ne115
returns-then-s-at-ne115 c = elim c.then-s-at-ne115.branch [
  | then-s-at-ne115-via-then-s-at-ne115 w ↦ frame_first c.args.s.now c.args.at (omega (arith, c.in-Some.ensures)) w.if-s-at-ne115.true
  | then-s-at-ne115-via-else-s-at-ne115+then-s-at-ne70 w ↦ frame_second c.args.s.now c.args.at (omega (arith, c.in-Some.ensures)) w.if-s-at-ne115.false w.if-s-at-ne70.true
]

pub returns-then-n-gt65507 : goal.returns-then-n-gt65507
returns-then-n-gt65507 c =
    frame_long c.args.s.now c.args.at (omega (arith, c.in-Some.ensures)) _ c.if-s-at-ne115.false c.if-s-at-ne70.false c.pair_of-n.ensures
    c.if-n-gt65507.true

pub returns-then-room-n : goal.returns-then-room-n
returns-then-room-n c =
    frame_cut c.args.s.now c.args.at (omega (arith, c.in-Some.ensures)) _ c.if-s-at-ne115.false c.if-s-at-ne70.false c.pair_of-n.ensures
    c.if-n-gt65507.false (omega (arith, c.in-Some.ensures))

pub returns : goal.returns
returns c =
    frame_whole c.args.s.now c.args.at (omega (arith, c.in-Some.ensures)) _ c.if-s-at-ne115.false c.if-s-at-ne70.false c.pair_of-n.ensures
    c.if-n-gt65507.false (omega (arith, c.in-Some.ensures))
