use Rattle.std.proofs.Common.{rules}
use Rattle.form_writer.proofs.Allowances.{not_allowed_so, value_written}
use Rattle.form_writer.proofs.FormValues.{source_long, destination_long, user_valid}
use Rattle.form_writer.proofs.ExtendedOctets.{user_octets}
use Rattle.form_writer.proofs.extended.write_user.Goals as goal

pub returns-in_err-src_length : goal.returns-in_err-src_length
returns-in_err-src_length c =
    not_allowed_so _ _ _ _ (search rules) (source_long c.args.src_user.now c.args.dst_user.now c.in_err-src_length.ensures)

pub returns-in_err-dst_length : goal.returns-in_err-dst_length
returns-in_err-dst_length c =
    not_allowed_so _ _ _ _ (search rules) (destination_long c.args.src_user.now c.args.dst_user.now c.in_err-dst_length.ensures)

pub returns : goal.returns
returns c =
    let dst-octets = c.type_inv.dst_user in
    let src-octets = c.type_inv.src_user in
    value_written _ _ _ _ _ _
    (user_valid c.args.src_user.now c.args.dst_user.now (search rules) (search rules) (λ i. (src-octets i).fits) (λ i. (dst-octets i).fits))
    (user_octets c.args.src_user.now c.args.dst_user.now _ _ (search rules) (search rules)) c.write_parts.ensures
