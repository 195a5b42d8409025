use borrow.Author.Rules.{rules}
use mathlib.Core.Path.{sym, ap, ◌∙◌}
use Rattle.fields.proofs.Answers.{passed_up}
use Rattle.reader.specs.Samples.{as_sample}
use Rattle.reader.proofs.SampleKinds.{sample_cut, sample_other, sample_flow, sample_flow_refused, sample_flow_behind, sample_counters, sample_counters_refused, sample_counters_behind}
use Rattle.reader.proofs.sample.read_sample.Goals as goal
use Rattle.reader.proofs.sample.read_sample.Goals.{in-1+in_ok-flow-in-1, in-2+in_ok-counters-in-2}

pub returns-in_err-kind : goal.returns-in_err-kind
returns-in_err-kind c =
    passed_up _ _ c.from_residual.ensures.1
    ∙ sym (ap (as_sample c.args.at) (sample_cut _ _ _ (sym c.read_word.ensures ∙ c.in_err-kind.was)))

pub returns-in_err-flow-in-1 : goal.returns-in_err-flow-in-1
returns-in_err-flow-in-1 c =
    passed_up _ _ c.from_residual-in_err-flow-in-1.ensures.1
    ∙ sym
    (ap (as_sample c.args.at)
    (sample_flow_refused _ _ _ _ (sym c.read_word.ensures ∙ c.in_ok-kind.was) c.in-1.is _ _
    (sym c.read_flow.ensures ∙ c.in_err-flow-in-1.was)))

pub returns-in_err-counters-in-2 : goal.returns-in_err-counters-in-2
returns-in_err-counters-in-2 c =
    passed_up _ _ c.from_residual-in_err-counters-in-2.ensures.1
    ∙ sym
    (ap (as_sample c.args.at)
    (sample_counters_refused _ _ _ _ (sym c.read_word.ensures ∙ c.in_ok-kind.was) c.in-2.is _ _
    (sym c.read_counters.ensures ∙ c.in_err-counters-in-2.was)))

pub returns-in_default : goal.returns-in_default
returns-in_default c =
    sym
    (ap (as_sample c.args.at)
    (sample_other _ _ _ _ (sym c.read_word.ensures ∙ c.in_ok-kind.was) (search rules) (search rules)))

pub overflow_sub-sample : goal.overflow_sub-sample
overflow_sub-sample c =
    elim c.match-kind.branch [
      | in-1+in_ok-flow-in-1 w ↦
          rw w.values-is
          (sample_flow_behind _ _ _ _ (sym c.read_word.ensures ∙ c.in_ok-kind.was) w.in-1.is _ _
          (sym w.read_flow.ensures ∙ w.in_ok-flow-in-1.was))
      | in-2+in_ok-counters-in-2 w ↦
          rw w.values-is
          (sample_counters_behind _ _ _ _ (sym c.read_word.ensures ∙ c.in_ok-kind.was) w.in-2.is _ _
          (sym w.read_counters.ensures ∙ w.in_ok-counters-in-2.was))
    ]

pub returns : goal.returns
returns c =
    elim c.match-kind.branch [
      | in-1+in_ok-flow-in-1 w ↦
          rw w.values-is
          (sym
          (ap (as_sample c.args.at)
          (sample_flow _ _ _ _ (sym c.read_word.ensures ∙ c.in_ok-kind.was) w.in-1.is _ _
          (sym w.read_flow.ensures ∙ w.in_ok-flow-in-1.was))))
      | in-2+in_ok-counters-in-2 w ↦
          rw w.values-is
          (sym
          (ap (as_sample c.args.at)
          (sample_counters _ _ _ _ (sym c.read_word.ensures ∙ c.in_ok-kind.was) w.in-2.is _ _
          (sym w.read_counters.ensures ∙ w.in_ok-counters-in-2.was))))
    ]
