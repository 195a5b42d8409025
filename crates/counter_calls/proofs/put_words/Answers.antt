use native.Mathlib.Omega.{arith}
use borrow.Author.Rules.{rules}
use mathlib.Core.Path.{refl, sym, ◌∙◌}
use Rattle.xdr.proofs.Reading.{word_read, word_short}
use Rattle.counter_calls.proofs.CounterRuns.{words_start, words_end, words_step}
use Rattle.counter_calls.proofs.put_words.Goals as goal

pub loop-i-init : goal.loop-i-init
loop-i-init c = let a = c.args in (search rules, refl, words_start a.s.now a.out.now a.first a.count a.n)

pub returns-in_default : goal.returns-in_default
returns-in_default c =
    let cut = word_short _ _ _ (sym c.read_word.ensures ∙ c.in_default.is) in
    absurd (search rules)

pub loop-i-preserved : goal.loop-i-preserved
loop-i-preserved c =
    let r = word_read _ _ _ _ (sym c.read_word.ensures ∙ c.in-Ok.is) in (
      omega (arith, r.next_is, c.loop-i.invariant.0),
      search rules,
      words_step _ _ _ _ _ _ _ _ _ c.loop-i-test.true r c.put.ensures ∙ c.loop-i.invariant.2,
    )

pub returns : goal.returns
returns c = sym (words_end _ _ _ _ _ _ c.loop-i-test.false) ∙ c.loop-i.invariant.2
