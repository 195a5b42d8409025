use mathlib.Core.Path.{sym, ◌∙◌}
use Rattle.counter_data.proofs.Bodies.{body_in_one}
use Rattle.counter_data.proofs.pass_body.Goals as goal

pub returns : goal.returns
returns c =
    let a = c.args in
    body_in_one a.s.now a.at _ a.version _ c.body_size.ensures (sym c.in-Ok.is ∙ c.pass_item.ensures)
