use Rattle.std.proofs.Common.{rules, arith, sym, subst, drop, ◌-◌}
use Rattle.std.proofs.lemmas.List.{length-take}
use Rattle.std.proofs.KnownBytes.{Appends-trans}
use Rattle.std.specs.Io.KnownBytes.{Appends}
use Rattle.lister.proofs.Parts.{more_taken}
use Rattle.lister.proofs.flush.Goals as goal

pub loop-done-preserved : goal.loop-done-preserved
loop-done-preserved g c =
    let h = c.in-Ok.ensures.inside in
    let k = c.requires in
    let m = length-take (c.args.n - c.loop-done.done) (drop c.loop-done.done c.args.output.now) in
    let l = more_taken c.args.output.now c.loop-done.done c.args.n c.in-Ok.taken (omega arith) (search rules) h in
    (omega arith, subst (Appends _ _) (sym l) (Appends-trans _ _ _ _ _ c.loop-done.invariant.1 c.in-Ok.ensures.written))
