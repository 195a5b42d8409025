use borrow.Author.Rules.{rules}
use mathlib.Core.Path.{sym, ap, ◌∙◌}
use mathlib.Core.List.{[], ◌∷◌}
use Rattle.sflow.specs.Decode.{found, as_read}
use Rattle.fields.proofs.Answers.{passed_up}
use Rattle.fields.proofs.FixedItems.{no_more, quad_then, quad_cut, words_then, words_cut}
use Rattle.packet_data.proofs.Ip.{ipv6_reads, ipv6_whole}
use Rattle.packet_data.proofs.read_ipv6.Goals as goal

pub returns-in_err-length : goal.returns-in_err-length
returns-in_err-length c =
    passed_up _ _ c.from_residual.ensures.1
    ∙ sym (ap as_read (ipv6_reads (words_cut 2 (16 ∷ 16 ∷ 4 ∷ 4 ∷ 4 ∷ 4 ∷ []) (sym c.read_words.ensures ∙ c.in_err-length.was))))

pub returns-in_err-src_ip : goal.returns-in_err-src_ip
returns-in_err-src_ip c =
    passed_up _ _ c.from_residual-in_err-src_ip.ensures.1
    ∙ sym
    (ap as_read
    (ipv6_reads
    (words_then 2 (sym c.read_words.ensures ∙ c.in_ok-length.was)
    (quad_cut (sym c.read_quad.ensures ∙ c.in_err-src_ip.was)))))

pub returns-in_err-dst_ip : goal.returns-in_err-dst_ip
returns-in_err-dst_ip c =
    passed_up _ _ c.from_residual-in_err-dst_ip.ensures.1
    ∙ sym
    (ap as_read
    (ipv6_reads
    (words_then 2 (sym c.read_words.ensures ∙ c.in_ok-length.was)
    (quad_then (sym c.read_quad.ensures ∙ c.in_ok-src_ip.was)
    (quad_cut (sym c.read_quad-2.ensures ∙ c.in_err-dst_ip.was))))))

pub returns-in_err-src_port : goal.returns-in_err-src_port
returns-in_err-src_port c =
    passed_up _ _ c.from_residual-in_err-src_port.ensures.1
    ∙ sym
    (ap as_read
    (ipv6_reads
    (words_then 2 (sym c.read_words.ensures ∙ c.in_ok-length.was)
    (quad_then (sym c.read_quad.ensures ∙ c.in_ok-src_ip.was)
    (quad_then (sym c.read_quad-2.ensures ∙ c.in_ok-dst_ip.was)
    (words_cut 4 [] (sym c.read_words-2.ensures ∙ c.in_err-src_port.was)))))))

pub returns : goal.returns
returns c =
    sym
    (ap as_read
    (ipv6_reads
    (words_then 2 (sym c.read_words.ensures ∙ c.in_ok-length.was)
    (quad_then (sym c.read_quad.ensures ∙ c.in_ok-src_ip.was)
    (quad_then (sym c.read_quad-2.ensures ∙ c.in_ok-dst_ip.was)
    (words_then 4 (sym c.read_words-2.ensures ∙ c.in_ok-src_port.was) no_more))))
    ∙ ap (λ x. found x c.in_ok-src_port.next)
    (ipv6_whole c.in_ok-length.field-0-0 c.in_ok-src_port.field-0-0 c.in_ok-src_ip.src_ip c.in_ok-dst_ip.dst_ip (search rules) (search rules) (search rules) (search rules))))
