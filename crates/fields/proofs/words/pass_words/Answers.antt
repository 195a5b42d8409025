use borrow.Author.Rules.{rules}
use Rattle.fields.proofs.Passing.{passed_end, words_missing, words_cut, words_whole}
use native.Mathlib.Omega.{arith}
use mathlib.Core.Path.{sym}
use Rattle.fields.proofs.words.pass_words.Goals as goal

pub returns-then-count-eq0 : goal.returns-then-count-eq0
returns-then-count-eq0 c = sym (passed_end _ _ _ (omega arith))

pub returns-then-s-first : goal.returns-then-s-first
returns-then-s-first c = sym (words_missing _ _ _ (omega arith) c.if-s-first.true)

pub returns-then-left-whole : goal.returns-then-left-whole
returns-then-left-whole c = sym (words_cut _ _ _ (search rules) (omega arith))

pub returns : goal.returns
returns c = sym (words_whole _ _ _ (omega arith))
