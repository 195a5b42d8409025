use Rattle.packet.proofs.Views.{ipv4_seen}
use Rattle.packet.proofs.ipv4_fields.Goals as goal

pub returns : goal.returns
returns c =
    ipv4_seen c.args.x.now c.requires.2 _ _ _ _ _ c.word_of.ensures c.word_of-2.ensures c.from-protocol.ensures
    c.size_of-size.ensures c.ports_behind-ports.ensures
