-- Demand 1 in numbers: whatever an entry of a program in Rattle answers by its contract, its number, place, rule and values are document 01's, and so are the
-- lent buffers, rows and tables where it refuses.
use Rattle.std.specs.Prelude.{ℕ, ◌≤◌, ◌≡◌, ◌↔◌, Bool, List, [], ◌∷◌, length, drop, Result}
use Rattle.std.proofs.Math.Option.{Option as Given}
use Rattle.xdr.specs.Writes.{afterwards}
use Rattle.sflow.specs.declared.Refusal.{Refusal}
use Rattle.sflow.specs.Refusals.{refusal_number}
use Rattle.sflow.specs.Grammar.{Form, Value}
use Rattle.sflow.specs.Decode.{Decoded, found, refused, mapped, decode}
use Rattle.sflow.specs.Datagram.{as_path_type, extended_data_type, sample_type}
use Rattle.sflow.specs.Reading.{read_datagram}
use Rattle.fields.specs.declared.address.Address.{Address}
use Rattle.extended_data.specs.ExtendedData.{segment_of, extended_of}
use Rattle.reader.specs.declared.datagram.Cursor.{Cursor}
use Rattle.reader.specs.Samples.{sample_of, as_sample}
use Rattle.reader.specs.Datagrams.{datagram_of, as_head, datagram_read, head_at, step_at}
use Rattle.form_writer.specs.declared.parts.WriteRefusal.{WriteRefusal}
use Rattle.form_writer.specs.Parts.{write_given}
use Rattle.writer.specs.Datagrams.{started, appended}
use Rattle.ledger.specs.declared.FlowEntry.{FlowEntry}
use Rattle.ledger.specs.declared.Row.{Row}
use Rattle.ledger.specs.Ledger.{EntryAnswer, TableEntered, entry_number, updated, entered}
use Rattle.rules.specs.Checks.{CheckAnswer, check}
use Rattle.engine.specs.Results.{EngineAnswer, engine_of}
use Rattle.record_lines.specs.Lines.{write_line}
use Rattle.listing.specs.Captures.{Frame}
use Rattle.listing.specs.declared.State.{State}
use Rattle.listing.specs.declared.Place.{Place}
use Rattle.listing.specs.Captures.{frame_of, list_all}
use Rattle.listing.specs.Texts.{end_lines}
use Rattle.numbers.specs.Reports.{report, decoded_report}
use Rattle.read_calls.specs.Reading.{head_numbers, head_report, entry_numbers, extended_report, segment_numbers, segment_report}
use Rattle.sample_calls.specs.SampleReports.{sample_report, sample_found, StepTold}
use Rattle.write_calls.specs.WriterAnswers.{form_report, start_report, append_report, WriteTold}
use Rattle.ledger_calls.specs.EntryNumbers.{LentRowTold, EntryTold}
use Rattle.rule_calls.specs.RuleSets.{check_report, engine_report, CheckTold, RunTold}
use Rattle.line_calls.specs.ListedLines.{frame_report, written_report}
use Rattle.line_calls.specs.LineNumbers.{FrameTold, RecordsTold, LinesTold}
use Rattle.std.specs.Prelude.{Option}
use Rattle.reader.specs.declared.datagram.Head.{Head}
use Rattle.std.specs.Prelude.{Result}
use Rattle.sflow.specs.declared.Refused.{Refused}
use Rattle.sflow.specs.Decode.{as_read}
use Rattle.reader.specs.declared.sample.Sample.{Sample}
use Rattle.extended_data.specs.declared.Extended.{Extended}
use Rattle.extended_data.specs.declared.Segment.{Segment}

-- Each field says of an entry: whatever answer its contract allows is told so.
pub record InNumbers : Type 1 where
  -- ---- the reader: 0 and the values, exactly where they are found; else the refusal's number and its place, exactly where reading is refused so
  pub found_exactly : {A : Type 0} (numbers : A → ℕ → List ℕ) (d : Decoded A)
      → ((decoded_report numbers d).number ≡ 0) ↔ ((v : A) × ((next : ℕ) × (d ≡ found v next)))
  pub refused_exactly : {A : Type 0} (numbers : A → ℕ → List ℕ) (n p : ℕ) → 1 ≤ n → (d : Decoded A)
      → (decoded_report numbers d ≡ report n (p ∷ [])) ↔ ((why : Refusal) × ((refusal_number why ≡ n) × (d ≡ refused why p)))
  -- a datagram; its head alone
  pub read : (s : List ℕ) (r : Result Head Refused) → r ≡ datagram_read s → head_report r ≡ decoded_report (λ h next. head_numbers h) (mapped datagram_of (read_datagram s))
  pub read_head : (s : List ℕ) (r : Result Head Refused) → r ≡ as_head (head_at s) → head_report r ≡ decoded_report (λ h next. head_numbers h) (head_at s)
  -- a step of the walk over its samples; a sample; an extended entry; a path segment
  pub next_sample : (s : List ℕ) (c : Cursor) (r : Result (Option (Sample × Cursor)) Refused) → r ≡ step_at s c → StepTold s c r
  pub sample : (s : List ℕ) (at : ℕ) (r : Result (Sample × ℕ) Refused) → r ≡ as_sample at (mapped (sample_of at) (decode sample_type s at)) → sample_report s r ≡ sample_found s at
  pub extended : (s : List ℕ) (at : ℕ) (r : Result (Extended × ℕ) Refused) → r ≡ as_read (mapped (extended_of at) (decode extended_data_type s at))
      → extended_report r ≡ decoded_report entry_numbers (mapped (extended_of at) (decode extended_data_type s at))
  pub segment : (s : List ℕ) (at : ℕ) (r : Result (Segment × ℕ) Refused) → r ≡ as_read (mapped (segment_of at) (decode as_path_type s at))
      → segment_report r ≡ decoded_report segment_numbers (mapped (segment_of at) (decode as_path_type s at))
  -- ---- the writer: a value alone 22, 20; start 21, 22; every append 21, 23, 22, 20, in these orders; a refusal leaves the buffer
  pub form : (g : Form) (x : Given (Value g)) (d e : List ℕ) (r : Result ℕ WriteRefusal) → afterwards r e ≡ write_given g x d → WriteTold r d e (form_report g x (length d))
  pub start : (limit : ℕ) (agent : Address) (sequence uptime : ℕ) (d e : List ℕ) (r : Result ℕ WriteRefusal) → afterwards r e ≡ started limit agent sequence uptime d
      → WriteTold r d e (start_report limit agent sequence uptime (length d))
  pub append : (x : Given (Value sample_type)) (limit size : ℕ) (d e : List ℕ) (r : Result ℕ WriteRefusal) → afterwards r e ≡ appended x limit size d
      → WriteTold r d e (append_report x limit size d)
  -- ---- the ledger: 40, 41, 42 of a table, 43, 41, 42 of a lent row, each exactly where document 01 gives it; a refusal changes no row
  pub table : (rows : List Row) (x : FlowEntry) (r : TableEntered) → r ≡ entered rows x → EntryTold rows x (entry_number r.answer) r.rows
  pub lent_row : (row : Row) (x : FlowEntry) (r : EntryAnswer) (after : Row) → (r ≡ (updated row x).answer) × (after ≡ (updated row x).row)
      → LentRowTold row x (entry_number r) after
  -- ---- rule sets: 30 to 39 with the rule named; 18; the machine's answer, 1 to 4
  pub checked : (s : List ℕ) (r : CheckAnswer) → r ≡ check s → CheckTold s (check_report r)
  pub run : (s x : List ℕ) (r : EngineAnswer) → r ≡ engine_of s x → RunTold s x (engine_report r)
  -- ---- listing: why it stopped; what follows the last record; what a part of a capture begins with
  pub records : (d s : List ℕ) (t : State) (r : Place) (e : List ℕ) → afterwards r e ≡ list_all d s t → RecordsTold e s r
  pub end_lines_told : (d : List ℕ) (at : ℕ) (t : State) (bad : Bool) (r : Option ℕ) (e : List ℕ) → afterwards r e ≡ write_line 123 d at (end_lines t bad)
      → LinesTold 123 d at (end_lines t bad) (written_report r) e
  pub frame : (s : List ℕ) (at : ℕ) (r : Frame) → r ≡ frame_of (drop at s) → FrameTold (drop at s) (frame_report r)
