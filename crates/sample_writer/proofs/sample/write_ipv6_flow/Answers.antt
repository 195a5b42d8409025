use native.Mathlib.Omega.{arith}
use Rattle.form_writer.specs.Values.{ipv6_value}
use Rattle.form_writer.proofs.FormValues.{ipv6_valid}
use mathlib.Core.List.{append-nil}
use mathlib.Core.Path.{◌∙◌}
use Rattle.sample_writer.proofs.Flows.{flow_put}
use Rattle.sample_writer.proofs.sample.write_ipv6_flow.Goals as goal

pub returns : goal.returns
returns c =
    let extended = c.type_inv.extended in
    let x = c.args.packet in
    let words = c.well_formed.1.0 in
    let packet = c.well_formed.1.1.0 in
    flow_put c.args.words (record { sequence = omega (arith, words); source = omega (arith, words); rate = omega (arith, words); pool = omega (arith, words); drops = omega (arith, words); input = omega (arith, words); output = omega (arith, words) }) (ipv6_value x)
    (ipv6_valid _ _ x.src_ip x.dst_ip _ _ _ _ (omega (arith, packet)) (omega (arith, packet)) (record { a = omega (arith, packet); b = omega (arith, packet); c = omega (arith, packet); d = omega (arith, packet) })
    (record { a = omega (arith, packet); b = omega (arith, packet); c = omega (arith, packet); d = omega (arith, packet) }) (omega (arith, packet)) (omega (arith, packet)) (omega (arith, packet)) (omega (arith, packet))) _
    (append-nil _ ∙ c.ipv6_words-head.ensures) c.args.count (omega arith) c.args.extended.now (λ i. (extended i).fits) _ _ _
    c.put_flow.ensures
