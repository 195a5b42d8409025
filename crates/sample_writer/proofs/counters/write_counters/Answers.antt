use native.Mathlib.Omega.{arith}
use mathlib.Core.Logic.{⊎_elim}
use mathlib.Core.Path.{refl}
use Rattle.counter_data.proofs.Bodies.{not_listed}
use Rattle.sample_writer.proofs.CounterForms.{counters_arm, counters_none}
use Rattle.sample_writer.proofs.counters.write_counters.Goals as goal

pub returns-in-1 : goal.returns-in-1
returns-in-1 c =
    ⊎_elim
    (λ e. counters_arm _ c.args.sequence_number c.args.source_id c.args.sampling_interval c.args.version c.args.numbers.now (omega arith) (omega arith) (omega arith) (omega arith) 1 _ _ e refl c.write_numbers.ensures)
    (⊎_elim
    (λ e. counters_arm _ c.args.sequence_number c.args.source_id c.args.sampling_interval c.args.version c.args.numbers.now (omega arith) (omega arith) (omega arith) (omega arith) 4 _ _ e refl c.write_numbers.ensures)
    (λ e. counters_arm _ c.args.sequence_number c.args.source_id c.args.sampling_interval c.args.version c.args.numbers.now (omega arith) (omega arith) (omega arith) (omega arith) 6 _ _ e refl c.write_numbers.ensures))
    c.in-1.is

pub returns-in-2 : goal.returns-in-2
returns-in-2 c =
    counters_arm _ c.args.sequence_number c.args.source_id c.args.sampling_interval c.args.version c.args.numbers.now (omega arith) (omega arith) (omega arith) (omega arith) 2 _ _ c.in-2.is refl c.write_numbers-in-2.ensures

pub returns-in-3 : goal.returns-in-3
returns-in-3 c =
    counters_arm _ c.args.sequence_number c.args.source_id c.args.sampling_interval c.args.version c.args.numbers.now (omega arith) (omega arith) (omega arith) (omega arith) 3 _ _ c.in-3.is refl c.write_numbers-in-3.ensures

pub returns-in-5 : goal.returns-in-5
returns-in-5 c =
    counters_arm _ c.args.sequence_number c.args.source_id c.args.sampling_interval c.args.version c.args.numbers.now (omega arith) (omega arith) (omega arith) (omega arith) 5 _ _ c.in-5.is refl c.write_numbers-in-5.ensures

pub returns-in-7 : goal.returns-in-7
returns-in-7 c =
    counters_arm _ c.args.sequence_number c.args.source_id c.args.sampling_interval c.args.version c.args.numbers.now (omega arith) (omega arith) (omega arith) (omega arith) 7 _ _ c.in-7.is refl c.write_numbers-in-7.ensures

pub returns-in_default : goal.returns-in_default
returns-in_default c =
    let r = c.in_default.in_default-own.rest in
    counters_none _ c.args.sequence_number c.args.source_id c.args.sampling_interval c.args.version c.args.numbers.now (omega arith) (omega arith) (omega arith) (omega arith) (not_listed _ r.0.0.0.0.1 r.0.0.0.1 r.0.0.1 r.0.1 r.1)
