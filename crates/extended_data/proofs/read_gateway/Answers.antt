use mathlib.Core.Path.{sym, ap, ◌∙◌}
use Rattle.sflow.specs.Decode.{as_read}
use Rattle.fields.proofs.Answers.{passed_up}
use Rattle.fields.proofs.FixedItems.{no_more, word_then, word_cut, reads_found}
use Rattle.extended_data.proofs.Gateways.{words_refused, path_cut, path_refused, communities_refused, communities_found}
use Rattle.extended_data.proofs.read_gateway.Goals as goal

pub returns-in_err-router_as : goal.returns-in_err-router_as
returns-in_err-router_as c =
    passed_up _ _ c.from_residual.ensures.1
    ∙ sym (ap as_read (words_refused _ _ _ (sym c.read_words.ensures ∙ c.in_err-router_as.was)))

pub returns-in_err-count : goal.returns-in_err-count
returns-in_err-count c =
    passed_up _ _ c.from_residual-in_err-count.ensures.1
    ∙ sym
    (ap as_read
    (path_cut _ _ _ _ (sym c.read_words.ensures ∙ c.in_ok-router_as.was) _ (sym c.read_word.ensures ∙ c.in_err-count.was)))

pub returns-in_err-communities_at : goal.returns-in_err-communities_at
returns-in_err-communities_at c =
    passed_up _ _ c.from_residual-in_err-communities_at.ensures.1
    ∙ sym
    (ap as_read
    (path_refused _ _ _ _ (sym c.read_words.ensures ∙ c.in_ok-router_as.was) _ _ (sym c.read_word.ensures ∙ c.in_ok-count.was) _
    (sym c.pass_segments.ensures ∙ c.in_err-communities_at.was)))

pub returns-in_err-communities : goal.returns-in_err-communities
returns-in_err-communities c =
    passed_up _ _ c.from_residual-in_err-communities.ensures.1
    ∙ sym
    (ap as_read
    (communities_refused _ _ _ _ (sym c.read_words.ensures ∙ c.in_ok-router_as.was) _ _ (sym c.read_word.ensures ∙ c.in_ok-count.was) _
    (sym c.pass_segments.ensures ∙ c.in_ok-communities_at.was) _ (sym c.read_numbers.ensures ∙ c.in_err-communities.was)))

pub returns-in_err-localpref : goal.returns-in_err-localpref
returns-in_err-localpref c =
    passed_up _ _ c.from_residual-in_err-localpref.ensures.1
    ∙ sym
    (ap as_read
    (communities_found _ _ _ _ (sym c.read_words.ensures ∙ c.in_ok-router_as.was) _ _ (sym c.read_word.ensures ∙ c.in_ok-count.was) _
    (sym c.pass_segments.ensures ∙ c.in_ok-communities_at.was) _ _ _ (sym c.read_numbers.ensures ∙ c.in_ok-communities.was)
    (reads_found (word_cut (sym c.read_word-2.ensures ∙ c.in_err-localpref.was)))))

pub returns : goal.returns
returns c =
    sym
    (ap as_read
    (communities_found _ _ _ _ (sym c.read_words.ensures ∙ c.in_ok-router_as.was) _ _ (sym c.read_word.ensures ∙ c.in_ok-count.was) _
    (sym c.pass_segments.ensures ∙ c.in_ok-communities_at.was) _ _ _ (sym c.read_numbers.ensures ∙ c.in_ok-communities.was)
    (reads_found (word_then (sym c.read_word-2.ensures ∙ c.in_ok-localpref.was) no_more))))
