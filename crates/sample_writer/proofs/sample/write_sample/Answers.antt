use mathlib.Core.Path.{sym, ◌∙◌}
use Rattle.sflow.specs.Datagram.{sample_type}
use Rattle.form_writer.proofs.Allowances.{none_given}
use Rattle.form_writer.proofs.Allowed.{value_there, value_elsewhere, value_nowhere}
use Rattle.sample_writer.proofs.OneSample.{sample_written}
use Rattle.sample_writer.proofs.sample.write_sample.Goals as goal

pub returns-in_default : goal.returns-in_default
returns-in_default c = none_given sample_type _ _ (value_nowhere sample_type c.args.sample.now _ _ (sym c.pass_sample.ensures ∙ c.in_default.is))

pub returns-then-end-sample : goal.returns-then-end-sample
returns-then-end-sample c =
    none_given sample_type _ _
    (value_elsewhere sample_type c.args.sample.now _ (sym c.pass_sample.ensures ∙ c.in-Ok.is) c.if-end-sample.true)

pub returns : goal.returns
returns c =
    let octets = c.type_inv.sample in
    let sample = c.args.sample.now in
    let v = value_there sample_type sample _ (sym c.pass_sample.ensures ∙ c.in-Ok.is) c.if-end-sample.false in
    sample_written sample (λ i. (octets i).fits) v.0 _ _ _ v.1 c.write_parts.ensures
