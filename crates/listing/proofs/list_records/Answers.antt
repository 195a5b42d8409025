use Rattle.std.proofs.Common.{◌≡◌, ℕ, ◌+◌, ◌-◌, ◌<◌, length, sym, ap, ◌∙◌, arith, rules}
use Rattle.listing.specs.Captures.{list_from, list_all}
use Rattle.listing.proofs.Captures.{list_end, list_more, list_stop}
use Rattle.listing.proofs.list_records.Goals as goal

pub returns-then-is_over : goal.returns-then-is_over
unfolding list_all
returns-then-is_over c =
    let left : 0 < length c.args.s.now - c.loop.counter = omega arith in
    sym (list_stop _ _ _ _ _ _ left c.step-p.ensures (sym c.is_over.ensures ∙ c.if-is_over.true)) ∙ c.loop.invariant.1

pub loop-preserved : goal.loop-preserved
loop-preserved c =
    let left : 0 < length c.args.s.now - c.loop.counter = omega arith in
    let less : length c.args.s.now - (c.loop.counter + 1) ≡ length c.args.s.now - c.loop.counter - 1 = omega arith in (
      search rules,
      ap (λ (n : ℕ). list_from n c.step-p.new.d c.args.s.now c.step-p.result) less
          ∙ sym (list_more _ _ _ _ _ _ left c.step-p.ensures (sym c.is_over.ensures ∙ c.if-is_over.false)) ∙ c.loop.invariant.1,
    )

pub returns : goal.returns
unfolding list_all
returns c = sym (list_end _ _ _ _ _ (omega arith) c.stopped.ensures) ∙ c.loop.invariant.1
