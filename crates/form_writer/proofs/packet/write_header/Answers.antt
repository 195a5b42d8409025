use native.Mathlib.Omega.{arith}
use mathlib.Core.Logic.{⊎_elim}
use Rattle.std.proofs.Common.{rules}
use Rattle.form_writer.proofs.Allowances.{not_allowed, value_written}
use Rattle.form_writer.proofs.FormValues.{header_other, header_long, header_valid}
use Rattle.form_writer.proofs.PacketOctets.{header_octets}
use Rattle.form_writer.proofs.packet.write_header.Goals as goal

pub returns-then-not-contains : goal.returns-then-not-contains
returns-then-not-contains c =
    not_allowed _ _ _
    (⊎_elim (λ e. header_other _ _ c.args.header.now (search rules)) (λ e. header_long _ _ c.args.header.now e.1)
    c.then-not-contains.either)

pub returns : goal.returns
returns c =
    let octets = c.type_inv.header in
    value_written _ _ _ _ _ _
    (header_valid c.args.protocol c.args.frame_length c.args.header.now
    (omega arith) (search rules) (search rules) (omega arith) (omega arith) (λ i. (octets i).fits))
    (header_octets _ _ _) c.write_parts.ensures
