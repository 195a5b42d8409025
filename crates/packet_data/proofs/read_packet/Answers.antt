use borrow.Author.Rules.{rules}
use mathlib.Core.Path.{sym, ap, ◌∙◌}
use Rattle.sflow.specs.Decode.{as_read}
use Rattle.fields.proofs.Answers.{passed_up}
use Rattle.packet_data.proofs.Ip.{packet_cut, packet_header, packet_ipv4, packet_ipv6, packet_other}
use Rattle.packet_data.proofs.read_packet.Goals as goal

pub returns-in_err-kind : goal.returns-in_err-kind
returns-in_err-kind c =
    passed_up _ _ c.from_residual.ensures.1
    ∙ sym (ap as_read (packet_cut _ _ _ (sym c.read_word.ensures ∙ c.in_err-kind.was)))

pub returns-in-1 : goal.returns-in-1
returns-in-1 c =
    c.read_header.ensures ∙ sym (ap as_read (packet_header _ _ _ _ (sym c.read_word.ensures ∙ c.in_ok-kind.was) c.in-1.is))

pub returns-in-2 : goal.returns-in-2
returns-in-2 c =
    c.read_ipv4.ensures ∙ sym (ap as_read (packet_ipv4 _ _ _ _ (sym c.read_word.ensures ∙ c.in_ok-kind.was) c.in-2.is))

pub returns-in-3 : goal.returns-in-3
returns-in-3 c =
    c.read_ipv6.ensures ∙ sym (ap as_read (packet_ipv6 _ _ _ _ (sym c.read_word.ensures ∙ c.in_ok-kind.was) c.in-3.is))

pub returns-in_default : goal.returns-in_default
returns-in_default c =
    sym
    (ap as_read
    (packet_other _ _ _ _ (sym c.read_word.ensures ∙ c.in_ok-kind.was) (search rules) (search rules) (search rules)))
