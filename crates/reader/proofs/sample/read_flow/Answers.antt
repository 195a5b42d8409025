use mathlib.Core.Path.{sym, ap, ◌∙◌}
use Rattle.sflow.specs.Decode.{as_read}
use Rattle.sflow.proofs.Steps.{list_cut}
use Rattle.fields.proofs.Answers.{passed_up}
use Rattle.reader.proofs.Flows.{flow_words_refused, flow_packet_refused, flow_list, list_found, list_refused}
use Rattle.reader.proofs.sample.read_flow.Goals as goal

pub returns-in_err-words : goal.returns-in_err-words
returns-in_err-words c =
    passed_up _ _ c.from_residual.ensures.1
    ∙ sym (ap as_read (flow_words_refused _ _ _ _ (sym c.read_flow_words.ensures ∙ c.in_err-words.was)))

pub returns-in_err-packet_data : goal.returns-in_err-packet_data
returns-in_err-packet_data c =
    passed_up _ _ c.from_residual-in_err-packet_data.ensures.1
    ∙ sym
    (ap as_read
    (flow_packet_refused _ _ _ _ _ _ (sym c.read_flow_words.ensures ∙ c.in_ok-words.was)
    (sym c.read_packet.ensures ∙ c.in_err-packet_data.was)))

pub returns-in_err-count : goal.returns-in_err-count
returns-in_err-count c =
    let list = flow_list _ _ _ _ _ _ (sym c.read_flow_words.ensures ∙ c.in_ok-words.was) (sym c.read_packet.ensures ∙ c.in_ok-packet_data.was) in
    passed_up _ _ c.from_residual-in_err-count.ensures.1
    ∙ sym (ap as_read (list ∙ list_cut _ _ _ _ _ (sym c.read_word.ensures ∙ c.in_err-count.was)))

pub returns-in_err-next : goal.returns-in_err-next
returns-in_err-next c =
    let list = flow_list _ _ _ _ _ _ (sym c.read_flow_words.ensures ∙ c.in_ok-words.was) (sym c.read_packet.ensures ∙ c.in_ok-packet_data.was) in
    passed_up _ _ c.from_residual-in_err-next.ensures.1
    ∙ sym
    (ap as_read
    (list
    ∙ list_refused _ _ _ _ _ _ _ _ (sym c.read_word.ensures ∙ c.in_ok-count.was)
    (sym c.pass_extended.ensures ∙ c.in_err-next.was)))

pub returns : goal.returns
returns c =
    let list = flow_list _ _ _ _ _ _ (sym c.read_flow_words.ensures ∙ c.in_ok-words.was) (sym c.read_packet.ensures ∙ c.in_ok-packet_data.was) in
    sym
    (ap as_read
    (list
    ∙ list_found _ _ _ _ _ _ _ (sym c.read_word.ensures ∙ c.in_ok-count.was)
    (sym c.pass_extended.ensures ∙ c.in_ok-next.was)))
