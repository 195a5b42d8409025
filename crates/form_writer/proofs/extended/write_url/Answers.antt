use native.Mathlib.Omega.{arith}
use Rattle.std.proofs.Common.{rules}
use Rattle.form_writer.proofs.Allowances.{not_allowed, not_allowed_so, value_written}
use Rattle.form_writer.proofs.FormValues.{url_other, url_long, url_valid}
use Rattle.form_writer.proofs.ExtendedOctets.{url_octets}
use Rattle.form_writer.proofs.extended.write_url.Goals as goal

pub returns-then-not-contains : goal.returns-then-not-contains
returns-then-not-contains c = not_allowed _ _ _ (url_other _ c.args.url.now (search rules))

pub returns-in_err-length : goal.returns-in_err-length
returns-in_err-length c = not_allowed_so _ _ _ _ (search rules) (url_long _ c.args.url.now c.in_err-length.ensures)

pub returns : goal.returns
returns c =
    let octets = c.type_inv.url in
    value_written _ _ _ _ _ _
    (url_valid c.args.direction c.args.url.now (omega arith) (search rules) (search rules) (search rules) (λ i. (octets i).fits))
    (url_octets c.args.direction c.args.url.now _ (search rules)) c.write_parts.ensures
