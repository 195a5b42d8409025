use mathlib.Core.Path.{sym, refl}
use Rattle.numbers.proofs.Reports.{then_behind}
use Rattle.sample_calls.proofs.fill_flow.Goals as goal

pub returns : goal.returns
returns c =
    rw (sym c.packet_type-kind.ensures)
    (then_behind _ _ _ _ _ 13 refl
    (then_behind _ _ _ _ _ 10 refl
    (then_behind _ _ _ _ _ 3 refl c.fill.ensures c.fill_words.ensures)
    c.fill_behind.ensures)
    c.fill_packet.ensures)
