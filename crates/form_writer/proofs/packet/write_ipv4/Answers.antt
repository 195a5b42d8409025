use native.Mathlib.Omega.{arith}
use Rattle.form_writer.proofs.Allowances.{value_written}
use Rattle.form_writer.proofs.FormValues.{ipv4_valid}
use Rattle.form_writer.proofs.packet.write_ipv4.Goals as goal

pub returns : goal.returns
returns c =
    value_written _ _ _ _ _ _
    (ipv4_valid _ _ _ _ _ _ _ _ (omega arith) (omega arith) (omega arith) (omega arith) (omega arith) (omega arith) (omega arith) (omega arith))
    c.ipv4_words.ensures c.write_words.ensures
