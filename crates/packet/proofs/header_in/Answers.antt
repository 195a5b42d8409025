use mathlib.Core.Path.{◌∙◌, ap}
use Rattle.packet.specs.Attributes.{header_view}
use Rattle.packet.proofs.Views.{text_lent}
use Rattle.packet.proofs.header_in.Goals as goal

pub returns : goal.returns
returns c =
    c.header_view.ensures
    ∙ ap (header_view c.args.protocol) (text_lent c.args.s.now c.args.t _ _ c.in-Some.ensures.lookup.0.2 c.min-n.ensures)
