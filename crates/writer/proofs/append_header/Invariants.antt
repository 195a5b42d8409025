use Rattle.std.proofs.Math.Option.{some}
use Rattle.sflow.specs.Decode.{entries_in}
use Rattle.sflow.specs.Datagram.{extended_data_type}
use Rattle.form_writer.specs.Values.{header_value}
use Rattle.sample_writer.specs.FlowValues.{flow_given}
use Rattle.writer.proofs.append_header.Given as goal

abbrev pub ghost-append : goal.ghost-append
ghost-append a =
    let w = a.write in
    flow_given w.0 (some (header_value w.1 w.2 w.3.now)) (entries_in extended_data_type w.4 w.5.now)
