use native.Mathlib.Omega.{arith}
use Rattle.form_writer.proofs.Allowances.{value_written}
use Rattle.form_writer.proofs.FormValues.{switch_valid}
use Rattle.form_writer.proofs.ExtendedOctets.{switch_octets}
use Rattle.form_writer.proofs.extended.write_switch.Goals as goal

pub returns : goal.returns
returns c =
    value_written _ _ _ _ _ _ (switch_valid _ _ _ _ (omega arith) (omega arith) (omega arith) (omega arith)) (switch_octets _ _ _ _)
    c.write_words.ensures
