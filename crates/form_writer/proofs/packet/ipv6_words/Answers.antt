use native.Mathlib.Omega.{arith}
use Rattle.form_writer.proofs.PacketOctets.{ipv6_octets}
use Rattle.form_writer.proofs.packet.ipv6_words.Goals as goal

pub returns : goal.returns
returns c = ipv6_octets _ _ _ _ _ _ _ _ _ _ _ _ _ _ (omega arith) (omega arith) (omega arith) (omega arith) (omega arith) (omega arith)
