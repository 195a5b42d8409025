use native.Mathlib.Omega.{arith}
use mathlib.Core.Path.{sym, ◌∙◌}
use Rattle.sflow.specs.Datagram.{packet_data_type}
use Rattle.sflow.proofs.Exact.{value_in_exactly}
use Rattle.form_writer.proofs.Allowed.{value_there, value_elsewhere, value_nowhere}
use Rattle.sample_writer.proofs.Flows.{packet_none, packet_given, flow_put, octets_alone}
use Rattle.sample_writer.proofs.sample.write_flow.Goals as goal

pub returns-in_default : goal.returns-in_default
returns-in_default c =
    packet_none _ _ _ _ (value_nowhere packet_data_type c.args.packet.now _ _ (sym c.pass_packet.ensures ∙ c.in_default.is))

pub returns-then-end-packet : goal.returns-then-end-packet
returns-then-end-packet c =
    packet_none _ _ _ _
    (value_elsewhere packet_data_type c.args.packet.now _ (sym c.pass_packet.ensures ∙ c.in-Ok.is) c.if-end-packet.true)

pub returns : goal.returns
returns c =
    let extended = c.type_inv.extended in
    let packet = c.type_inv.packet in
    let p = value_there packet_data_type c.args.packet.now _ (sym c.pass_packet.ensures ∙ c.in-Ok.is) c.if-end-packet.false in
    let t = (value_in_exactly packet_data_type c.args.packet.now (λ i. (packet i).fits) p.0).0 p.1 in
    let words = c.well_formed.1.0 in
    packet_given _ _ p.0 _ _ _ _ p.1
    (flow_put c.args.words (record { sequence = omega (arith, words); source = omega (arith, words); rate = omega (arith, words); pool = omega (arith, words); drops = omega (arith, words); input = omega (arith, words); output = omega (arith, words) }) p.0 t.0 _ (octets_alone c.args.packet.now p.0 t.1) c.args.count (omega arith)
    c.args.extended.now (λ i. (extended i).fits) _ _ _ c.put_flow.ensures)
