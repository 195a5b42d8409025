use mathlib.Core.Path.{sym, ap, ◌∙◌}
use Rattle.fields.proofs.Answers.{passed_up}
use Rattle.reader.specs.Datagrams.{as_head}
use Rattle.reader.proofs.Heads.{head_long, head_cut, head_version, head_agent_refused, head_agent_found, words_cut, words_found}
use Rattle.reader.proofs.datagram.read_head.Goals as goal

pub returns-then-s-gt65507 : goal.returns-then-s-gt65507
returns-then-s-gt65507 c = sym (ap as_head (head_long _ c.if-s-gt65507.true))

pub returns-in_err-version : goal.returns-in_err-version
returns-in_err-version c =
    passed_up _ _ c.from_residual.ensures.1
    ∙ sym (ap as_head (head_cut _ c.if-s-gt65507.false _ (sym c.read_word.ensures ∙ c.in_err-version.was)))

pub returns-then-version-ne4 : goal.returns-then-version-ne4
returns-then-version-ne4 c =
    sym
    (ap as_head
    (head_version _ c.if-s-gt65507.false _ _ (sym c.read_word.ensures ∙ c.in_ok-version.was) c.if-version-ne4.true))

pub returns-in_err-agent : goal.returns-in_err-agent
returns-in_err-agent c =
    passed_up _ _ c.from_residual-in_err-agent.ensures.1
    ∙ sym
    (ap as_head
    (head_agent_refused _ c.if-s-gt65507.false _ _ (sym c.read_word.ensures ∙ c.in_ok-version.was) c.if-version-ne4.false _ _
    (sym c.read_address.ensures ∙ c.in_err-agent.was)))

pub returns-in_err-sequence_number : goal.returns-in_err-sequence_number
returns-in_err-sequence_number c =
    passed_up _ _ c.from_residual-in_err-sequence_number.ensures.1
    ∙ sym
    (ap as_head
    (head_agent_found _ c.if-s-gt65507.false _ _ (sym c.read_word.ensures ∙ c.in_ok-version.was) c.if-version-ne4.false _ _
    (sym c.read_address.ensures ∙ c.in_ok-agent.was)
    ∙ words_cut _ _ _ _ _ (sym c.read_words.ensures ∙ c.in_err-sequence_number.was)))

pub returns : goal.returns
returns c =
    sym
    (ap as_head
    (head_agent_found _ c.if-s-gt65507.false _ _ (sym c.read_word.ensures ∙ c.in_ok-version.was) c.if-version-ne4.false _ _
    (sym c.read_address.ensures ∙ c.in_ok-agent.was)
    ∙ words_found _ _ _ _ _ (sym c.read_words.ensures ∙ c.in_ok-sequence_number.was)))
