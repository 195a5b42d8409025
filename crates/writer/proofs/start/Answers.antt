use Rattle.std.proofs.Common.{rules}
use native.Mathlib.Omega.{arith}
use Rattle.writer.proofs.Starts.{start_limit, start_ipv4, start_ipv6, start_other}
use mathlib.Core.Path.{sym, ◌∙◌}
use Rattle.writer.proofs.start.Goals as goal

pub returns-in-1 : goal.returns-in-1
returns-in-1 c =
    let agent = c.well_formed.1.1.0 in
    c.write_words.ensures
    ∙ start_ipv4 _ _ _ _ _ (sym c.limit_allowed.ensures ∙ c.if-not-limit_allowed.false) c.in-1.is (omega (arith, agent))
    (record { a = omega (arith, agent); b = omega (arith, agent); c = omega (arith, agent); d = omega (arith, agent) }) c.ranges.sequence_number.fits c.ranges.uptime.fits

pub returns-in-2 : goal.returns-in-2
returns-in-2 c =
    let agent = c.well_formed.1.1.0 in
    c.write_words-in-2.ensures
    ∙ start_ipv6 _ _ _ _ _ (sym c.limit_allowed.ensures ∙ c.if-not-limit_allowed.false) c.in-2.is (omega (arith, agent))
    (record { a = omega (arith, agent); b = omega (arith, agent); c = omega (arith, agent); d = omega (arith, agent) }) c.ranges.sequence_number.fits c.ranges.uptime.fits

pub returns-in_default : goal.returns-in_default
returns-in_default c =
    start_other _ _ _ _ _ (sym c.limit_allowed.ensures ∙ c.if-not-limit_allowed.false) (λ e. search rules) (λ e. search rules)

pub returns-then-not-limit_allowed : goal.returns-then-not-limit_allowed
returns-then-not-limit_allowed c = start_limit _ _ _ _ _ (sym c.limit_allowed.ensures ∙ c.if-not-limit_allowed.true)
