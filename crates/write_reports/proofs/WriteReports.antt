-- Laws of what the writers hand over.
use Prim.Native.Nat.{ℕ}
use mathlib.Core.Path.{◌≡◌, ap, sym, ◌∙◌}
use mathlib.Core.List.{List}
use Rattle.std.specs.Prelude.{Result, Err}
use Rattle.xdr.specs.Writes.{Afterwards, afterwards}
use Rattle.form_writer.specs.declared.parts.WriteRefusal.{WriteRefusal}
use Rattle.form_writer.specs.Parts.{write_refusal_number}
use Rattle.numbers.specs.Reports.{tell, handed, with_buffer}
use Rattle.numbers.proofs.Reports.{telling, filled_none}
use Rattle.write_reports.specs.WriteReports.{write_report, hand_over}

-- a refusal is told by its number alone
pub refusal_told : {r : ℕ} (x : Result ℕ WriteRefusal) (why : WriteRefusal) (d : List ℕ) → x ≡ Err why → r ≡ write_refusal_number why → afterwards r d ≡ tell (write_report x) d
refusal_told x why d s e = rw s (telling e (sym (filled_none d)))

-- what a report of a writer's answer makes of its outcome
pub handing : {r : ℕ} {x : Result ℕ WriteRefusal} {b e : List ℕ} {o : Afterwards (Result ℕ WriteRefusal)} (d : List ℕ) → afterwards x b ≡ o → afterwards r e ≡ tell (write_report x) d → handed r b e ≡ hand_over o d
handing {r} {x} {b} d f g = ap (with_buffer b) g ∙ ap (λ (o : Afterwards (Result ℕ WriteRefusal)). hand_over o d) f
