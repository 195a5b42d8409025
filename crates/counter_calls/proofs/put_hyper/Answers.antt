use mathlib.Core.Path.{sym, ◌∙◌}
use Rattle.xdr.proofs.Reading.{hyper_read, hyper_short}
use Rattle.counter_calls.proofs.CounterRuns.{hyper_put}
use borrow.Author.Rules.{rules}
use Rattle.counter_calls.proofs.put_hyper.Goals as goal

pub returns-in_default : goal.returns-in_default
returns-in_default c =
    let cut = hyper_short _ _ _ (sym c.read_hyper.ensures ∙ c.in_default.is) in
    absurd (search rules)

pub returns : goal.returns
returns c =
    hyper_put _ _ _ _ _ _ _ (hyper_read _ _ _ _ (sym c.read_hyper.ensures ∙ c.in-Ok.is)) c.put.ensures
