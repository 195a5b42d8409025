use mathlib.Core.Path.{sym, ◌∙◌}
use Rattle.counter_calls.proofs.BodyNumbers.{version_cut, version_within, counters_short, counters_room, counters_there, none_put, body_put}
use Rattle.counter_calls.proofs.fill_values.Goals as goal

pub returns-in_default : goal.returns-in_default
returns-in_default c =
    rw (version_cut _ _ _ (sym c.read_word.ensures ∙ c.in_default.is)) (none_put _ _ c.put_zeros.ensures)

pub overflow_sub-s : goal.overflow_sub-s
overflow_sub-s c =
    version_within _ _ _ _ (sym c.read_word.ensures ∙ c.in-Ok.is)

pub returns-then-s-first : goal.returns-then-s-first
returns-then-s-first c =
    let word = sym c.read_word.ensures ∙ c.in-Ok.is in
    rw (counters_short _ _ _ _ word _ c.body_size.ensures c.if-s-first.true) (none_put _ _ c.put_zeros-then-s-first.ensures)

pub put_version-requires : goal.put_version-requires
put_version-requires c =
    let word = sym c.read_word.ensures ∙ c.in-Ok.is in
    counters_room _ _ _ _ word _ c.body_size.ensures c.if-s-first.false

pub returns : goal.returns
returns c =
    let word = sym c.read_word.ensures ∙ c.in-Ok.is in
    rw (counters_there _ _ _ _ word (counters_room _ _ _ _ word _ c.body_size.ensures c.if-s-first.false))
    (body_put _ _ _ _ _ _ _ _ c.counter_count-count.ensures.0 c.counter_count-count.ensures.1 c.put.ensures
    c.put_version.ensures c.put_zeros-2.ensures)
