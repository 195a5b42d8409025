use Rattle.std.proofs.Common.{rules, arith, sym, ◌∙◌, ap, subst, [], ◌-◌, take}
use Rattle.listing.specs.Captures.{frame_of}
use Rattle.listing.proofs.Captures.{frame_short}
use Rattle.std.proofs.lemmas.Option.{IfSome_then}
use Rattle.lister.proofs.Parts.{front_inside, left_as}
use Rattle.lister.proofs.Stream.{Streamed, streamed_begins, streamed_listed, after_read, ends_at_end, ends_at_bad, moved_to_front, stays_at_front, room_left}
use Rattle.lister.proofs.list_input.Goals as goal
use Rattle.lister.proofs.list_input.Goals.{then-listed-ne0, else-listed-ne0}

pub loop-init : goal.loop-init
loop-init g c = (search rules, sym (frame_short [] 0 (omega arith)), streamed_begins _ _ _ c.nothing_listed-state.ensures)

pub returns-then-end-held : goal.returns-then-end-held
returns-then-end-held g c = IfSome_then c.finish.result c.finish.ensures λ _ written room.
    let f = c.fill.ensures in
    let found = c.in_ok-end.ensures in
    let i = c.loop.invariant in
    let same = c.loop.auto.input in
    let at_end = found.ended c.if-end-held.true (room_left _ _ i.0 i.1 (omega arith)) in
    let read = after_read _ _ _ _ _ _ _ _ _ _ i.2 found.inside.0 found.inside.1 f.front found.read in
    ends_at_end _ _ _ _ _ _ c.fill.new.input c.loop.held c.in_ok-end.end read c.if-end-held.true at_end (ap frame_of f.front ∙ i.1) written

pub returns-in-Bad : goal.returns-in-Bad
returns-in-Bad g c = IfSome_then c.finish-in-Bad.result c.finish-in-Bad.ensures λ _ written room.
    let f = c.fill.ensures in
    let found = c.in_ok-end.ensures in
    let i = c.loop.invariant in
    let l = c.list_held-p.ensures in
    let read = after_read _ _ _ _ _ _ _ _ _ _ i.2 found.inside.0 found.inside.1 f.front found.read in
    let listed = streamed_listed _ _ _ _ _ _ read _ _ l.records (λ failed. cc) in
    let bad = left_as _ _ _ _ l.listed c.in-Bad.is in
    ends_at_bad _ _ _ _ _ _ c.fill.new.input c.list_held-p.result.listed c.in_ok-end.end listed (front_inside _ _ _ l.listed.inside) bad written

pub loop-preserved : goal.loop-preserved
loop-preserved g c =
    let f = c.fill.ensures in
    let found = c.in_ok-end.ensures in
    let i = c.loop.invariant in
    let l = c.list_held-p.ensures in
    let read = after_read _ _ _ _ _ _ _ _ _ _ i.2 found.inside.0 found.inside.1 f.front found.read in
    let listed = streamed_listed _ _ _ _ _ _ read _ _ l.records (λ failed. cc) in
    let unfinished = left_as _ _ _ _ l.listed c.in-Unfinished.is in
    let low = front_inside _ _ _ l.listed.inside in
    let end = c.in_ok-end.end in
    let from = c.list_held-p.result.listed in
    elim c.if-listed-ne0.branch [
      | then-listed-ne0 w ↦
          let moved = ap (take (end - from)) (w.input-is ∙ w.copy_within.ensures.after) ∙ moved_to_front c.fill.new.input from end low found.inside.1 in
          (search rules, ap frame_of moved ∙ unfinished, subst (Streamed _ _ _ _ _) (sym moved) listed)
      | else-listed-ne0 w ↦
          let stays = ap (take (end - from)) w.input-is ∙ stays_at_front c.fill.new.input from end w.if-listed-ne0.false in
          (search rules, ap frame_of stays ∙ unfinished, subst (Streamed _ _ _ _ _) (sym stays) listed)
    ]
