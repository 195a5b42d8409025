-- The three demands, each with its sentence.
use Rattle.std.specs.Prelude.{ℕ, ◌+◌, ◌≤◌, ◌<◌, ◌≡◌, ◌↔◌, ◌⊎◌, ◌≢◌, Ok, Err, true, false, length, get_or}
use mathlib.Core.List.{List, flat_map}
use Rattle.std.proofs.Math.Option.{Option, some}
use Rattle.xdr.specs.Numbers.{Octets}
use Rattle.xdr.specs.Writes.{stored, afterwards}
use Rattle.sflow.specs.Grammar.{Form, Value, Each, Valid, encode, allows_given}
use Rattle.sflow.specs.Decode.{found, decode, value_in, entries_in, EndToEnd}
use Rattle.sflow.specs.Datagram.{address, sample_type, sample_datagram, agent_address, samples}
use Rattle.sflow.specs.Reading.{longest, read_datagram}
use Rattle.reader.specs.Datagrams.{datagram_of, walk, samples_from}
use Rattle.reader.specs.declared.sample.FlowSample.{FlowSample}
use Rattle.fields.specs.declared.address.Address.{Address}
use Rattle.writer.specs.Datagrams.{limit_allowed, started, appended, StartAccepted, AppendAccepted}
use Rattle.rewriting.specs.Rewriting.{rewritten, Stopped}
use Rattle.rewriting.specs.Calls.{rewritten_by_calls, StoppedByCalls}
use Rattle.ledger.specs.declared.FlowEntry.{FlowEntry}
use Rattle.ledger.specs.declared.Row.{Row}
use Rattle.ledger.specs.declared.EntryRefusal.TheVariants.{TableFull, OtherSource}
use Rattle.ledger.specs.Ledger.{Source, source_of, answered, opened, updated, row_for, free_row, with_row, entered}
use Rattle.ledger.specs.Runs.{Lowest, Grown, AllOthers, NoRow, NoSample, FirstOf}
use Rattle.packet.specs.Attributes.{attributes_of, attribute}
use Rattle.rules.specs.declared.Item.{Item}
use Rattle.rules.specs.declared.MachineAnswer.{MachineAnswer}
use Rattle.rules.specs.Records.{rule_count, rule_of}
use Rattle.rules.specs.Machine.{ended, after}
use Rattle.rules.specs.Checks.{accepted, check}
use Rattle.rules.specs.Demand.{bound, MachineWithin, WithoutGosub, EndedWith, EndsSomewhere}
use Rattle.engine.specs.Results.{flow, flow_in, key_of, engine_of}
use Rattle.theorems.specs.Numbers.{InNumbers}
use Rattle.reader.proofs.datagram.read_head.Statement as ReadHead
use Rattle.reader.proofs.datagram.start.Statement as Cursor
use Rattle.reader.proofs.datagram.next_sample.Statement as NextSample
use Rattle.ledger.proofs.free_row.Statement as FreeRow
use Rattle.ledger.proofs.enter.Statement as Table
use Rattle.ledger.proofs.update_row.Statement as LentRow
use Rattle.listing.proofs.end_text.Statement as EndText
use Rattle.export.proofs.sflow4_read.Statement as Read
use Rattle.export.proofs.sflow4_sample.Statement as Sample
use Rattle.export.proofs.sflow4_extended.Statement as Extended
use Rattle.export.proofs.sflow4_segment.Statement as Segment
use Rattle.export.proofs.sflow4_start.Statement as Start
use Rattle.export.proofs.sflow4_append.Statement as Append
use Rattle.export.proofs.sflow4_append_header.Statement as AppendHeader
use Rattle.export.proofs.sflow4_append_ipv4.Statement as AppendIpv4
use Rattle.export.proofs.sflow4_append_ipv6.Statement as AppendIpv6
use Rattle.export.proofs.sflow4_append_counters.Statement as AppendCounters
use Rattle.export.proofs.sflow4_write.Statement as Write
use Rattle.export.proofs.sflow4_write_counters.Statement as WriteCounters
use Rattle.export.proofs.sflow4_ledger.Statement as Ledger
use Rattle.export.proofs.rtfm_check.Statement as RuleCheck
use Rattle.export.proofs.rtfm_run.Statement as Run
use Rattle.export.proofs.sflow4_lines.Statement as Lines
use Rattle.export.proofs.sflow4_end_lines.Statement as EndLines

-- 1. "Every octet string, rule set and table row is answered or refused, and every call ends. A public entry needs nothing checked beforehand. The refusal
-- number, its place and the contents of each lent buffer are those in document 01."
--
-- Each function that C and Rust can call, and those for a program in Rattle that are no part of one of them (the head alone and the walk over a datagram's
-- samples, the ledger's table by value and one lent row, what follows the last record by the octets that are left), meets its contract: a call is safe and ends, whatever it is given (no contract has a `requires`),
-- and what it answers and every lent slice and row afterwards are those of a definition. What these definitions answer, in document 01's numbers, is
-- `InNumbers`.
pub record Demand1 : Type 2 where
  -- a datagram, read
  pub read_meets : {M : Type 1} → Read.statement M
  -- its head alone, the cursor at its first sample, and a step of the walk over its samples
  pub read_head_meets : {M : Type 1} → ReadHead.statement M
  pub cursor_meets : {M : Type 1} → Cursor.statement M
  pub next_sample_meets : {M : Type 1} → NextSample.statement M
  -- a sample of it
  pub sample_meets : {M : Type 1} → Sample.statement M
  -- an extended entry
  pub extended_meets : {M : Type 1} → Extended.statement M
  -- a path segment
  pub segment_meets : {M : Type 1} → Segment.statement M
  -- a datagram started
  pub start_meets : {M : Type 1} → Start.statement M
  -- a sample appended, given as octets, or as the values of a flow sample, by its packet data, or of a counter sample
  pub append_meets : {M : Type 1} → Append.statement M
  pub append_header_meets : {M : Type 1} → AppendHeader.statement M
  pub append_ipv4_meets : {M : Type 1} → AppendIpv4.statement M
  pub append_ipv6_meets : {M : Type 1} → AppendIpv6.statement M
  pub append_counters_meets : {M : Type 1} → AppendCounters.statement M
  -- every form from values
  pub write_meets : {M : Type 1} → Write.statement M
  -- counters from values
  pub write_counters_meets : {M : Type 1} → WriteCounters.statement M
  -- a flow sample entered in the ledger, a table of numbers or of rows, which are free at first
  pub ledger_meets : {M : Type 1} → Ledger.statement M
  pub table_meets : {M : Type 1} → Table.statement M
  pub free_row_meets : {M : Type 1} → FreeRow.statement M
  -- a lent row of the ledger brought up to date
  pub lent_row_meets : {M : Type 1} → LentRow.statement M
  -- a rule set checked
  pub check_meets : {M : Type 1} → RuleCheck.statement M
  -- a rule set on a flow sample
  pub run_meets : {M : Type 1} → Run.statement M
  -- the records of a part of a capture listed
  pub lines_meets : {M : Type 1} → Lines.statement M
  -- what follows the last record, where it is told whether the capture goes wrong there, or which octets are left
  pub end_lines_meets : {M : Type 1} → EndLines.statement M
  pub end_text_meets : {M : Type 1} → EndText.statement M
  -- the numbers, places, rules and values of their answers
  pub in_numbers : InNumbers

-- 2. "A datagram is accepted exactly when it is RFC 3176 version 4 by its XDR rules and at most 65,507 octets long. Samples found lie end to end over its
-- body. Writing the same values again gives the same octets if they fit a limit document 01 allows, never more. Pool and loss counts follow the ledger's
-- rules modulo 2^32 and 2^64."
pub record Demand2 : Type 0 where
  -- accepted with a value exactly where it is at most 65,507 octets long and the encoding of that value of the grammar
  pub accepted_exactly : (s : List ℕ) → Octets s → (v : Value sample_datagram)
      → (read_datagram s ≡ found v (length s)) ↔ ((length s ≤ longest) × Valid sample_datagram v × (s ≡ encode sample_datagram v))
  -- whatever is accepted is read to its end
  pub to_end : (s : List ℕ) → Octets s → (v : Value sample_datagram) (end : ℕ) → read_datagram s ≡ found v end → end ≡ length s
  -- from the octet behind the count word to the datagram's end
  pub end_to_end : (s : List ℕ) → Octets s → (v : Value sample_datagram) → read_datagram s ≡ found v (length s)
      → EndToEnd (decode sample_type s) (16 + length (encode address (agent_address v))) (samples v) (length s)
  -- and the walk meets exactly these, with their offsets, lengths and values
  pub walk_samples : (s : List ℕ) → Octets s → (v : Value sample_datagram) → read_datagram s ≡ found v (length s)
      → (walk s (datagram_of v).samples.count (datagram_of v).samples.at).met ≡ samples_from (datagram_of v).samples.at (samples v)
  -- a writer takes a value exactly where one is given that the form allows (22 in every other case, `in_numbers`)
  pub taken_exactly : (g : Form) (x : Option (Value g)) → (allows_given g x ≡ true) ↔ ((v : Value g) × (x ≡ some v) × Valid g v)
  -- octets are given for a value, or for so many entries, exactly where they are its, or their, encoding
  pub value_given_exactly : (g : Form) (xs : List ℕ) → Octets xs → (v : Value g) → (value_in g xs ≡ some v) ↔ (Valid g v × (xs ≡ encode g v))
  pub entries_given_exactly : (g : Form) (n : ℕ) (xs : List ℕ) → Octets xs → (vs : List (Value g))
      → (entries_in g n xs ≡ some vs) ↔ ((length vs ≡ n) × Each (Valid g) vs × (xs ≡ flat_map (encode g) vs))
  -- whatever start or an append leaves with a length is accepted: without samples, or with those that were there and the new one last
  pub start_accepted : (limit : ℕ) (agent : Address) (sequence uptime : ℕ) (d : List ℕ) (n : ℕ) (e : List ℕ)
      → started limit agent sequence uptime d ≡ afterwards (Ok n) e → StartAccepted agent sequence uptime d n e
  pub append_accepted : (x : Option (Value sample_type)) (limit size : ℕ) (d : List ℕ) → Octets d → (n : ℕ) (e : List ℕ)
      → appended x limit size d ≡ afterwards (Ok n) e → AppendAccepted x size d n e
  -- written again from what the reader gives of it: its octets, where they fit, and the rest of the buffer as it was
  pub same_octets : (s : List ℕ) → Octets s → (v : Value sample_datagram) → read_datagram s ≡ found v (length s)
      → (limit : ℕ) (d : List ℕ) → limit_allowed limit (length d) ≡ true
      → length s ≤ limit → rewritten s (datagram_of v) limit d ≡ afterwards (Ok (length s)) (stored d 0 s)
  -- and otherwise no more than the samples that fit
  pub never_more : (s : List ℕ) → Octets s → (v : Value sample_datagram) → read_datagram s ≡ found v (length s)
      → (limit : ℕ) (d : List ℕ) → limit_allowed limit (length d) ≡ true → limit < length s → Stopped v limit d (rewritten s (datagram_of v) limit d)
  -- both of what C and Rust can call: the numbers that the reading calls tell, given to the writing calls
  pub same_octets_by_calls : (s : List ℕ) → Octets s → (v : Value sample_datagram) → read_datagram s ≡ found v (length s)
      → (limit : ℕ) (d : List ℕ) → limit_allowed limit (length d) ≡ true
      → length s ≤ limit → rewritten_by_calls s limit d ≡ some (afterwards (Ok (length s)) (stored d 0 s))
  pub never_more_by_calls : (s : List ℕ) → Octets s → (v : Value sample_datagram) → read_datagram s ≡ found v (length s)
      → (limit : ℕ) (d : List ℕ) → limit_allowed limit (length d) ≡ true → limit < length s → StoppedByCalls s v limit d
  -- a free row opens with the sample's numbers and totals of 0
  pub opens : (row : Row) (x : FlowEntry) → row.used ≡ false → updated row x ≡ answered (Ok tt) (opened x)
  -- in a table a sample goes to its source's lowest row, or else to the lowest free one, by the rules of one row
  pub by_row : (rows : List Row) (x : FlowEntry) → row_for x rows < length rows
      → entered rows x ≡ with_row rows (row_for x rows) (updated (get_or rows (row_for x rows) free_row) x)
  -- 40 exactly where every row belongs to another source; 43 is for a lent row alone
  pub full_exactly : (rows : List Row) (x : FlowEntry) → ((entered rows x).answer ≡ Err TableFull) ↔ AllOthers rows x
  pub never_other : (rows : List Row) (x : FlowEntry) → (entered rows x).answer ≡ Err OtherSource → ⊥
  -- a refusal changes no row; every row but the sample's own stays
  pub refusal_keeps : (rows : List Row) (x : FlowEntry) → ((entered rows x).answer ≡ Ok tt) ⊎ ((entered rows x).rows ≡ rows)
  pub others_stay : (rows : List Row) (x : FlowEntry) (j : ℕ) → j ≢ row_for x rows → get_or (entered rows x).rows j free_row ≡ get_or rows j free_row
  -- over any run of samples on any table, the totals of a source's lowest row grow by the sums over its accepted later samples
  pub totals : (s : Source) (xs : List FlowEntry) (rows : List Row) (i : ℕ) → Lowest s rows i → Grown s rows i xs
  -- and a source without a row opens one with its first sample, from which the totals grow in the same way; or gets 40, and changes nothing
  pub first_sample : (rows : List Row) (before : List FlowEntry) (x : FlowEntry) (behind : List FlowEntry) → NoRow (source_of x) rows
      → NoSample (source_of x) before → FirstOf rows before x behind

-- 3. "Take every rule set of n rules that the check accepts, under exactly the rules of document 01, and every flow sample. The RFC 2722 machine, as written
-- out there and given no limits of its own, never comes to a missing rule, a Return without its Gosub or a PopTo with nothing to delete. At no time has it
-- more than 4 calls open or 16 items queued. It ends after at most n + n^2 + n^3 + n^4 + n^5 rules, each counted as often as it is come to. Our engine's
-- answer, flow key and count of rules equal the machine's."
--
-- Of the octets of an accepted rule set:
pub record OfAccepted (s : List ℕ) : Type 0 where
  -- whatever the attributes
  pub machine : (at : ℕ → ℕ) → MachineWithin (rule_count s) (rule_of s) at (bound (rule_count s))
  -- and where no rule is a Gosub, within n rules
  pub without_gosub : WithoutGosub (rule_count s) (rule_of s) → (at : ℕ → ℕ) → MachineWithin (rule_count s) (rule_of s) at (rule_count s)
  -- the machine's answer is the one whose number is the opcode of the rule that ended it, or NoMatch where the last rule's test failed
  pub answers : (at : ℕ → ℕ) (k : ℕ) (answer : MachineAnswer) → EndedWith (after (rule_count s) (rule_of s) at k) answer
      → EndsSomewhere (rule_count s) (rule_of s) at answer
  -- whenever the machine has ended on the sample's attributes, the engine gives that end: its answer, its key and its count
  pub engine : (x : List ℕ) (f : FlowSample) → flow_in x ≡ flow f → (k : ℕ) (answer : MachineAnswer) (items : List Item) (rules : ℕ)
      → after (rule_count s) (rule_of s) (attribute (attributes_of x f)) k ≡ ended answer items rules
      → engine_of s x ≡ Ok (record { answer = answer; key = key_of items; rules = rules })

abbrev pub Demand3 : Type 0
Demand3 = (s : List ℕ) → check s ≡ accepted → OfAccepted s
