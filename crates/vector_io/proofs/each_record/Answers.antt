use Rattle.std.proofs.Common.{rules}
use Rattle.vector_io.proofs.Records.{one_more}
use Rattle.vector_io.proofs.each_record.Goals as goal

pub loop-preserved : goal.loop-preserved
loop-preserved g c =
    one_more _ _ _ _ _ _ _ _ _ c.part.result _ _ c.loop.invariant (search rules) (search rules) c.in-Some.ensures.taken c.step.ensures c.in_ok-step.was
