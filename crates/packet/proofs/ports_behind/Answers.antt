use native.Mathlib.Omega.{arith}
use mathlib.Core.Path.{sym, ◌∙◌}
use Rattle.packet.proofs.Views.{ports_there}
use Rattle.packet.proofs.ports_behind.Goals as goal

pub returns : goal.returns
returns c =
    let fits = c.requires in
    ports_there c.args.x.now c.args.protocol c.args.size (sym c.has_ports.ensures ∙ c.if-not-has_ports.false) (omega arith)
    _ _ c.pair_of.ensures c.pair_of-2.ensures
