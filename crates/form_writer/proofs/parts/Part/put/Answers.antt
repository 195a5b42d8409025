use native.Mathlib.Omega.{arith}
use Rattle.xdr.proofs.Writing.{wrote_fits}
use Rattle.form_writer.proofs.WordRuns.{words_length}
use Rattle.form_writer.proofs.parts.Part.put.Goals as goal

pub put_words-requires : goal.put_words-requires
put_words-requires c = omega (arith, words_length c.in-Words.ws.now, rw c.in-Words.is at c.requires)

pub returns-in-Padded : goal.returns-in-Padded
returns-in-Padded c =
    rw c.in-Padded.is (wrote_fits _ _ _ _ _ c.write_padded.ensures (rw c.in-Padded.is at c.requires)).octets_are

pub returns-in-Octets : goal.returns-in-Octets
returns-in-Octets c =
    rw c.in-Octets.is (wrote_fits _ _ _ _ _ c.write_octets.ensures (rw c.in-Octets.is at c.requires)).octets_are
