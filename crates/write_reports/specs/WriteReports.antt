-- What the writers answer as numbers: a number, the lent buffer and the lent array.
use Rattle.std.specs.Prelude.{ℕ, List, [], ◌∷◌, Result, Ok, Err}
use Rattle.xdr.specs.Writes.{Afterwards, afterwards}
use Rattle.form_writer.specs.declared.parts.WriteRefusal.{WriteRefusal}
use Rattle.form_writer.specs.Parts.{write_number}
use Rattle.numbers.specs.Reports.{Report, report, tell, Handed, with_buffer}

-- the length written; a refusal has none
abbrev pub written_length : Result ℕ WriteRefusal → List ℕ
written_length (Ok n) = n ∷ []
written_length (Err why) = []

-- 0 and the length written, or the refusal's number alone
abbrev pub write_report : Result ℕ WriteRefusal → Report
write_report answer = report (write_number answer) (written_length answer)

-- a writer's answer and buffer, with the array that its report goes into
abbrev pub hand_over : Afterwards (Result ℕ WriteRefusal) → List ℕ → Handed
hand_over (afterwards answer d) xs = with_buffer d (tell (write_report answer) xs)
