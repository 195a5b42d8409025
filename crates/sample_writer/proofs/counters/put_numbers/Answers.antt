use Prim.Native.Nat.{◌≤◌}
use native.Mathlib.Omega.{arith}
use lib.ListN.{length}
use Rattle.std.proofs.Common.{rules}
use Rattle.std.proofs.lemmas.List.{length_push}
use Rattle.std.proofs.lemmas.Slice.Zip.{zip_turn, zip_end}
use Rattle.sample_writer.proofs.NumberRuns.{put_start, put_step, put_end}
use Rattle.sample_writer.proofs.counters.put_numbers.Goals as goal

pub loop-width-init : goal.loop-width-init
loop-width-init c = put_start _ _ _ _ c.requires.0 c.requires.1 c.requires.2

pub loop-width-preserved : goal.loop-width-preserved
loop-width-preserved c =
    let t = zip_turn c.args.widths.now c.args.numbers.now c.loop-width.yielded c.into_iter-width-iterator.result c.loop-width.width-iterator c.next.new.self _ (search rules) (search rules) c.loop-width.yielded_by _ c.in-Some.is c.next.ensures.steps in
    put_step _ _ _ _ _ _ _ _ _ c.loop-width.invariant t.0 _ _ _ (length_push c.loop-width.yielded _) (t.2 0) (t.3 0) c.write_number.ensures

pub returns : goal.returns
returns c =
    let n = zip_end c.args.widths.now c.args.numbers.now c.loop-width.yielded c.into_iter-width-iterator.result c.loop-width.width-iterator c.next.new.self _ (search rules) (search rules) c.loop-width.yielded_by c.in-None.is c.next.ensures.steps in
    let many = c.loop-width.invariant.many in
    let end : length c.args.widths.now ≤ length c.loop-width.yielded = omega arith in
    put_end _ _ _ _ _ _ _ c.loop-width.invariant end
