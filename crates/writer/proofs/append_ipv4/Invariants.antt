use Rattle.std.proofs.Math.Option.{some}
use Rattle.sflow.specs.Decode.{entries_in}
use Rattle.sflow.specs.Datagram.{extended_data_type}
use Rattle.form_writer.specs.Values.{ipv4_value}
use Rattle.sample_writer.specs.FlowValues.{flow_given}
use Rattle.writer.proofs.append_ipv4.Given as goal

abbrev pub ghost-append : goal.ghost-append
ghost-append a =
    let w = a.write in
    flow_given w.0 (some (ipv4_value w.1)) (entries_in extended_data_type w.2 w.3.now)
