use mathlib.Core.Path.{sym}
use Rattle.xdr.proofs.Writing.{padded_length}
use Rattle.form_writer.proofs.WordRuns.{words_length}
use Rattle.form_writer.proofs.parts.Part.size.Goals as goal

pub returns-in-Words : goal.returns-in-Words
returns-in-Words c = rw c.in-Words.is (sym (words_length _))

pub returns-in-Padded : goal.returns-in-Padded
returns-in-Padded c = rw c.in-Padded.is (sym (padded_length _))
