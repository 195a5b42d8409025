use borrow.Author.Rules.{rules}
use mathlib.Core.Path.{sym, ap, ◌∙◌}
use Rattle.sflow.specs.Decode.{as_read}
use Rattle.fields.proofs.Answers.{passed_up}
use Rattle.fields.proofs.Compounds.{one_to_in, one_to_out}
use Rattle.packet_data.proofs.Headers.{header_cut, header_protocol, header_frame_cut, header_length_cut, header_long, header_found, header_refused}
use Rattle.packet_data.proofs.read_header.Goals as goal

pub returns-in_err-protocol : goal.returns-in_err-protocol
returns-in_err-protocol c =
    passed_up _ _ c.from_residual.ensures.1
    ∙ sym (ap as_read (header_cut _ _ _ (sym c.read_word.ensures ∙ c.in_err-protocol.was)))

pub returns-then-not-contains : goal.returns-then-not-contains
returns-then-not-contains c =
    sym
    (ap as_read
    (header_protocol _ _ _ _ (sym c.read_word.ensures ∙ c.in_ok-protocol.was) (one_to_out 13 c.in_ok-protocol.protocol (λ low high. search rules))))

pub returns-in_err-frame_length : goal.returns-in_err-frame_length
returns-in_err-frame_length c =
    let allowed = one_to_in 13 c.in_ok-protocol.protocol (search rules) (search rules) in
    passed_up _ _ c.from_residual-in_err-frame_length.ensures.1
    ∙ sym
    (ap as_read
    (header_frame_cut _ _ _ _ (sym c.read_word.ensures ∙ c.in_ok-protocol.was) allowed _
    (sym c.read_word-2.ensures ∙ c.in_err-frame_length.was)))

pub returns-in_err-length : goal.returns-in_err-length
returns-in_err-length c =
    let allowed = one_to_in 13 c.in_ok-protocol.protocol (search rules) (search rules) in
    passed_up _ _ c.from_residual-in_err-length.ensures.1
    ∙ sym
    (ap as_read
    (header_length_cut _ _ _ _ (sym c.read_word.ensures ∙ c.in_ok-protocol.was) allowed _ _
    (sym c.read_word-2.ensures ∙ c.in_ok-frame_length.was) _
    (sym c.read_word-3.ensures ∙ c.in_err-length.was)))

pub returns-then-length-gt256 : goal.returns-then-length-gt256
returns-then-length-gt256 c =
    let allowed = one_to_in 13 c.in_ok-protocol.protocol (search rules) (search rules) in
    sym
    (ap as_read
    (header_long _ _ _ _ (sym c.read_word.ensures ∙ c.in_ok-protocol.was) allowed _ _
    (sym c.read_word-2.ensures ∙ c.in_ok-frame_length.was) _ _
    (sym c.read_word-3.ensures ∙ c.in_ok-length.was) c.if-length-gt256.true))

pub returns-in_err-next : goal.returns-in_err-next
returns-in_err-next c =
    let allowed = one_to_in 13 c.in_ok-protocol.protocol (search rules) (search rules) in
    passed_up _ _ c.from_residual-in_err-next.ensures.1
    ∙ sym
    (ap as_read
    (header_refused _ _ _ _ (sym c.read_word.ensures ∙ c.in_ok-protocol.was) allowed _ _
    (sym c.read_word-2.ensures ∙ c.in_ok-frame_length.was) _ _ _ _
    (sym c.read_word-3.ensures ∙ c.in_ok-length.was) c.if-length-gt256.false
    (sym c.pass_octets.ensures ∙ c.in_err-next.was)))

pub returns : goal.returns
returns c =
    let allowed = one_to_in 13 c.in_ok-protocol.protocol (search rules) (search rules) in
    sym
    (ap as_read
    (header_found _ _ _ _ (sym c.read_word.ensures ∙ c.in_ok-protocol.was) allowed _ _
    (sym c.read_word-2.ensures ∙ c.in_ok-frame_length.was) _ _ _
    (sym c.read_word-3.ensures ∙ c.in_ok-length.was) c.if-length-gt256.false
    (sym c.pass_octets.ensures ∙ c.in_ok-next.was)))
