use mathlib.Core.Path.{sym, ◌∙◌}
use Rattle.packet.proofs.Views.{ethernet_ipv4}
use Rattle.packet.proofs.header_view.Goals as goal

pub returns-in-1 : goal.returns-in-1
returns-in-1 c =
    c.ipv4_view.ensures ∙ ethernet_ipv4 c.args.x.now c.args.protocol c.in-1.is (sym c.holds_ipv4.ensures ∙ c.if-holds_ipv4.true)
