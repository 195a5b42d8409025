use mathlib.Core.List.{[], ◌∷◌, ◌++◌}
use Rattle.form_writer.specs.Parts.{words_octets, part_octets}
use Rattle.sample_writer.specs.FlowValues.{flow_words_value, flow_octets}
use mathlib.Core.Path.{sym, ◌∙◌}
use Rattle.form_writer.proofs.Allowances.{refused_value, allowed_value}
use Rattle.sample_writer.proofs.Flows.{parts_are}
use Rattle.sample_writer.proofs.sample.put_flow.Goals as goal

pub returns-then-not-are_entries : goal.returns-then-not-are_entries
returns-then-not-are_entries c = refused_value _ _ _ (sym c.are_entries.ensures ∙ c.if-not-are_entries.true)

pub returns : goal.returns
returns c =
    let a = c.args in
    let packet = words_octets a.packet.now in
    let rest = part_octets a.rest in
    allowed_value _ (flow_octets a.words (packet ++ rest) a.count a.extended.now) _ a.d.now _ _ (sym c.are_entries.ensures ∙ c.if-not-are_entries.false)
    (parts_are (words_octets (1 ∷ flow_words_value a.words)) packet rest (words_octets (a.count ∷ [])) a.extended.now)
    c.write_parts.ensures
