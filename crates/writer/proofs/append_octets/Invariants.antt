use Rattle.sflow.specs.Decode.{value_in}
use Rattle.sflow.specs.Datagram.{sample_type}
use Rattle.writer.proofs.append_octets.Given as goal

abbrev pub ghost-append : goal.ghost-append
ghost-append a = value_in sample_type a.write.0.now
