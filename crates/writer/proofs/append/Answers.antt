use Rattle.sflow.specs.Grammar.{allows_given, encode_given}
use Rattle.sflow.specs.Datagram.{sample_type}
use Rattle.std.specs.Prelude.{◌+◌, ◌≤◌}
use Rattle.std.proofs.Common.{rules}
use mathlib.Core.Path.{refl, sym, ◌∙◌}
use native.Mathlib.Omega.{arith}
use Rattle.writer.proofs.Appends.{so_far_is, room_ends, refusal_appended, sample_appended, not_appended}
use Rattle.writer.proofs.append.Goals as goal

pub returns-in_err-at : goal.returns-in_err-at
returns-in_err-at g c =
    not_appended (allows_given sample_type g.sample) (encode_given sample_type g.sample) _ _ _ _ _
    (sym c.check_so_far.ensures ∙ c.in_err-at.was) (search rules)

pub slice_bounds-write-count : goal.slice_bounds-write-count
slice_bounds-write-count g c =
    (so_far_is _ _ _ _ _ (λ i. (c.slice_known-1.given i).fits) (sym c.check_so_far.ensures ∙ c.in_ok-at.was)).small

pub slice_bounds-write-start : goal.slice_bounds-write-start
slice_bounds-write-start g c =
    (so_far_is _ _ _ _ _ (λ i. (c.slice_known-1.given i).fits) (sym c.check_so_far.ensures ∙ c.in_ok-at.was)).small

pub slice_bounds-write-end : goal.slice_bounds-write-end
slice_bounds-write-end g c =
    (so_far_is _ _ _ _ _ (λ i. (c.slice_known-1.given i).fits) (sym c.check_so_far.ensures ∙ c.in_ok-at.was)).inside

pub returns-in_err-written : goal.returns-in_err-written
returns-in_err-written g c =
    let k = so_far_is _ _ _ _ _ (λ i. (c.slice_known-1.given i).fits) (sym c.check_so_far.ensures ∙ c.in_ok-at.was) in
    let w = c.requires.1.1 _ _ _ (record { shown = _; shows = refl; left = _; met = c.write.ensures; leaves = refl }) in
    refusal_appended _ _ _ _ k (allows_given sample_type g.sample) (encode_given sample_type g.sample) _ _ _
    (sym c.check_so_far.ensures ∙ c.in_ok-at.was) w _ _ c.in_err-written.was (search rules)

pub overflow_add-result : goal.overflow_add-result
overflow_add-result g c =
    let k = so_far_is _ _ _ _ _ (λ i. (c.slice_known-1.given i).fits) (sym c.check_so_far.ensures ∙ c.in_ok-at.was) in
    let w = c.requires.1.1 _ _ _ (record { shown = _; shows = refl; left = _; met = c.write.ensures; leaves = refl }) in
    let ends : c.args.length + c.in_ok-written.written ≤ c.args.limit =
    room_ends _ _ _ _ k (allows_given sample_type g.sample) (encode_given sample_type g.sample) _ _ _ c.in_ok-written.was w in
    omega arith

pub returns : goal.returns
returns g c =
    let k = so_far_is _ _ _ _ _ (λ i. (c.slice_known-1.given i).fits) (sym c.check_so_far.ensures ∙ c.in_ok-at.was) in
    let w = c.requires.1.1 _ _ _ (record { shown = _; shows = refl; left = _; met = c.write.ensures; leaves = refl }) in
    sample_appended _ _ _ _ k (allows_given sample_type g.sample) (encode_given sample_type g.sample) _ _ _
    (sym c.check_so_far.ensures ∙ c.in_ok-at.was) w _ _ _ c.in_ok-written.was c.write_word.ensures
