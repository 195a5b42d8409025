use Rattle.std.proofs.Common.{rules}
use native.Mathlib.Omega.{arith}
use Rattle.form_writer.proofs.Allowances.{not_allowed, value_written}
use Rattle.form_writer.proofs.FormValues.{one_listed, two_listed, router_valid, router_other}
use Rattle.form_writer.proofs.ExtendedOctets.{router_ipv4, router_ipv6}
use Rattle.form_writer.proofs.extended.write_router.Goals as goal

pub returns-in-1 : goal.returns-in-1
returns-in-1 c =
    let x = c.args.x in
    value_written _ _ _ _ _ _
    (router_valid x (omega arith) (record { a = omega arith; b = omega arith; c = omega arith; d = omega arith })
    (one_listed x.nexthop.kind c.in-1.is) (omega arith) (omega arith)) (router_ipv4 x c.in-1.is)
    c.write_words.ensures

pub returns-in-2 : goal.returns-in-2
returns-in-2 c =
    let x = c.args.x in
    value_written _ _ _ _ _ _
    (router_valid x (omega arith) (record { a = omega arith; b = omega arith; c = omega arith; d = omega arith })
    (two_listed x.nexthop.kind c.in-2.is) (omega arith) (omega arith))
    (router_ipv6 x c.in-2.is (omega arith) (omega arith) (omega arith)) c.write_words-in-2.ensures

pub returns-in_default : goal.returns-in_default
returns-in_default c =
    let x = c.args.x in
    not_allowed _ _ _ (router_other x (λ e. search rules) (λ e. search rules))
