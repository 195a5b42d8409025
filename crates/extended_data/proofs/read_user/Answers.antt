use mathlib.Core.Path.{sym, ap, ◌∙◌}
use Rattle.sflow.specs.Decode.{as_read}
use Rattle.fields.proofs.Answers.{passed_up, read_told, read_refused}
use Rattle.extended_data.proofs.Users.{user_refused, user_second}
use Rattle.extended_data.proofs.read_user.Goals as goal

pub returns-in_err-src_user : goal.returns-in_err-src_user
returns-in_err-src_user c =
    passed_up _ _ c.from_residual.ensures.1
    ∙ sym (ap as_read (user_refused _ _ _ (sym c.read_string.ensures ∙ c.in_err-src_user.was)))

pub returns-in_err-dst_user : goal.returns-in_err-dst_user
returns-in_err-dst_user c =
    passed_up _ _ c.from_residual-in_err-dst_user.ensures.1
    ∙ sym
    (ap as_read
    (user_second _ _ _ _ _ (sym c.read_string.ensures ∙ c.in_ok-src_user.was)
    (read_refused _ _ (sym c.read_string-2.ensures ∙ c.in_err-dst_user.was))))

pub returns : goal.returns
returns c =
    sym
    (ap as_read
    (user_second _ _ _ _ _ (sym c.read_string.ensures ∙ c.in_ok-src_user.was)
    (read_told _ _ _ (sym c.read_string-2.ensures ∙ c.in_ok-dst_user.was))))
