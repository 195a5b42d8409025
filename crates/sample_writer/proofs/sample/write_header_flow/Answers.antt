use mathlib.Core.Logic.{⊎_elim}
use native.Mathlib.Omega.{arith}
use Rattle.sflow.specs.Decode.{entries_in}
use Rattle.sflow.specs.Datagram.{extended_data_type}
use Rattle.form_writer.specs.Values.{header_value}
use Rattle.form_writer.proofs.FormValues.{header_other, header_long, header_valid}
use Rattle.form_writer.proofs.PacketOctets.{header_words}
use Rattle.sample_writer.proofs.Flows.{packet_bad, flow_put}
use Rattle.std.proofs.Common.{rules}
use Rattle.sample_writer.proofs.sample.write_header_flow.Goals as goal

pub returns-then-not-contains : goal.returns-then-not-contains
returns-then-not-contains c =
    packet_bad c.args.words (header_value c.args.protocol c.args.frame_length c.args.header.now)
    (entries_in extended_data_type c.args.count c.args.extended.now) _
    (⊎_elim (λ e. header_other _ _ c.args.header.now (search rules)) (λ e. header_long _ _ c.args.header.now e.1)
    c.then-not-contains.either)

pub returns : goal.returns
returns c =
    let extended = c.type_inv.extended in
    let header = c.type_inv.header in
    let words = c.well_formed.1.0 in
    flow_put c.args.words (record { sequence = omega (arith, words); source = omega (arith, words); rate = omega (arith, words); pool = omega (arith, words); drops = omega (arith, words); input = omega (arith, words); output = omega (arith, words) })
    (header_value c.args.protocol c.args.frame_length c.args.header.now)
    (header_valid c.args.protocol c.args.frame_length c.args.header.now c.ranges.protocol.fits (search rules) (search rules) c.ranges.frame_length.fits
    (omega arith) (λ i. (header i).fits)) _ (header_words c.args.protocol c.args.frame_length c.args.header.now) c.args.count c.ranges.count.fits
    c.args.extended.now (λ i. (extended i).fits) _ _ _ c.put_flow.ensures
