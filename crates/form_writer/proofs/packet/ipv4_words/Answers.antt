use Rattle.form_writer.proofs.PacketOctets.{ipv4_octets}
use Rattle.form_writer.proofs.packet.ipv4_words.Goals as goal

pub returns : goal.returns
returns c = ipv4_octets _ _ _ _ _ _ _ _
