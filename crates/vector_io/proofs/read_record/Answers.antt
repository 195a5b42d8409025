use Rattle.std.proofs.Common.{rules}
use Rattle.xdr.proofs.Reading.{word_read}
use Rattle.vector_io.proofs.Given.{no_error, given_to_front}
use mathlib.Core.Path.{sym, ◌∙◌}
use Rattle.vector_io.proofs.read_record.Goals as goal

pub returns-clause-taken : goal.returns-clause-taken
returns-clause-taken g c =
    let word = word_read _ _ _ _ (sym c.read_word.ensures ∙ c.in-Ok.is) in
    let first = no_error _ (sym c.is_err.ensures.value ∙ c.if-is_err.false) c.read_exact.ensures.bytes in
    let next = no_error _ (sym c.is_err-2.ensures.value ∙ c.if-is_err-2.false) c.read_exact-2.ensures.bytes in
    record {
      prefix = c.read_exact.new.buf;
      four = search rules;
      length_is = sym word.value_is;
      given = given_to_front _ _ _ _ _ _ _ (search rules) first next;
    }
