use Rattle.vector_io.specs.Records.{EachRecord}
use Rattle.vector_io.proofs.each_record.Given as goal

-- the calls so far
abbrev pub invariant-loop : goal.invariant-loop
invariant-loop g l = EachRecord (goal.F-post g l.step) (g.R.Read.remaining l.fn.input) l.fn.out (g.R.Read.remaining l.input) l.out
