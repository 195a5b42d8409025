-- What the writers answer, by document 01's numbers and in the order of its tests ("Writer").
use Rattle.std.specs.Prelude.{ℕ, ◌+◌, ◌≡◌, ◌≢◌, Bool, true, false, cond, ◌&&◌, List, [], ◌∷◌, length, take, leb, Result}
use Rattle.std.proofs.Math.Option.{Option}
use Rattle.sflow.specs.Grammar.{Form, Value, encode, allows, allows_given, encode_given}
use Rattle.sflow.specs.Decode.{Decoded, found, refused}
use Rattle.sflow.specs.Datagram.{sample_type, sample_datagram}
use Rattle.sflow.specs.Reading.{read_datagram}
use Rattle.fields.specs.declared.address.Address.{Address}
use Rattle.form_writer.specs.declared.parts.WriteRefusal.{WriteRefusal}
use Rattle.form_writer.specs.Parts.{write_number}
use Rattle.writer.specs.Datagrams.{limit_allowed, start_value}
use Rattle.numbers.specs.Reports.{Report, report}
use Rattle.write_reports.specs.WriteReports.{write_report}

-- a refusal by its number alone where a test fails, else what the next tests find
abbrev pub refused_unless : Bool → ℕ → Report → Report
refused_unless b number next = cond b next (report number [])

-- a value alone: 22, 20, or 0 and how long its octets are
abbrev pub form_report : (g : Form) → Option (Value g) → ℕ → Report
form_report g x room =
    refused_unless (allows_given g x) 22
    (refused_unless (leb (length (encode_given g x)) room) 20
    (report 0 (length (encode_given g x) ∷ [])))

-- start: 21, 22, or 0 and how long the datagram is; there is always room
abbrev pub start_report : ℕ → Address → ℕ → ℕ → ℕ → Report
start_report limit agent sequence uptime room =
    refused_unless (limit_allowed limit room) 21
    (refused_unless (allows sample_datagram (start_value agent sequence uptime)) 22
    (report 0 (length (encode sample_datagram (start_value agent sequence uptime)) ∷ [])))

abbrev pub is_accepted : Decoded (Value sample_datagram) → Bool
is_accepted (found v end) = true
is_accepted (refused why p) = false

-- an append: 21, 23, 22, 20, or 0 and the new length
abbrev pub append_report : Option (Value sample_type) → ℕ → ℕ → List ℕ → Report
append_report x limit size d =
    refused_unless (limit_allowed limit (length d)) 21
    (refused_unless (leb size limit && is_accepted (read_datagram (take size d))) 23
    (refused_unless (allows_given sample_type x) 22
    (refused_unless (leb (size + length (encode_given sample_type x)) limit) 20
    (report 0 ((size + length (encode_given sample_type x)) ∷ [])))))

-- an answer is told so, and a refusal leaves the buffer as it was
pub record WriteTold (answer : Result ℕ WriteRefusal) (d e : List ℕ) (told : Report) : Type 0 where
  pub tells : write_report answer ≡ told
  pub stays : write_number answer ≢ 0 → e ≡ d
