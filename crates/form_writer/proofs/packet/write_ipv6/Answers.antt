use native.Mathlib.Omega.{arith}
use Rattle.form_writer.proofs.Allowances.{value_written}
use Rattle.form_writer.proofs.FormValues.{ipv6_valid}
use Rattle.form_writer.proofs.packet.write_ipv6.Goals as goal

pub returns : goal.returns
returns c =
    value_written _ _ _ _ _ _
    (ipv6_valid _ _ _ _ _ _ _ _ (omega arith) (omega arith) (record { a = omega arith; b = omega arith; c = omega arith; d = omega arith })
    (record { a = omega arith; b = omega arith; c = omega arith; d = omega arith }) (omega arith) (omega arith) (omega arith) (omega arith))
    c.ipv6_words.ensures
    c.write_words.ensures
