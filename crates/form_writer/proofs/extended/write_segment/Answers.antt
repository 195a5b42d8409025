use native.Mathlib.Omega.{arith}
use Rattle.std.proofs.Common.{rules}
use Rattle.form_writer.proofs.Allowances.{not_allowed, not_allowed_so, value_written}
use Rattle.form_writer.proofs.FormValues.{segment_other, segment_many, segment_valid}
use Rattle.form_writer.proofs.PathOctets.{segment_octets}
use Rattle.form_writer.proofs.extended.write_segment.Goals as goal

pub returns-then-not-contains : goal.returns-then-not-contains
returns-then-not-contains c = not_allowed _ _ _ (segment_other _ c.args.numbers.now (search rules))

pub returns-in_err-length : goal.returns-in_err-length
returns-in_err-length c = not_allowed_so _ _ _ _ (search rules) (segment_many _ c.args.numbers.now c.in_err-length.ensures)

pub returns : goal.returns
returns c =
    let words = c.type_inv.numbers in
    value_written _ _ _ _ _ _
    (segment_valid c.args.kind c.args.numbers.now (omega arith) (search rules) (search rules) (search rules) (λ i. (words i).fits))
    (segment_octets c.args.kind c.args.numbers.now _ (search rules)) c.write_parts.ensures
