-- The ledger of lost flow samples (document 01, "Ledger").
use Rattle.std.specs.Prelude.{ℕ, ◌+◌, ◌-◌, ◌%◌, ◌^◌, Bool, true, false, cond, not, ◌&&◌, ◌||◌, Result, Ok, Err, List, length, ◌==◌, nat_le, nat_lt, slice_index_or, slice_set}
use Rattle.std.specs.List.{position_or_len}
use Rattle.std.specs.Result.{result_and}
use Rattle.fields.specs.declared.address.Address.{Address}
use Rattle.ledger.specs.declared.FlowEntry.{FlowEntry}
use Rattle.ledger.specs.declared.Row.{Row}
use Rattle.ledger.specs.declared.EntryRefusal.{EntryRefusal}
use Rattle.ledger.specs.declared.EntryRefusal.TheVariants.{TableFull, Repeated, Backward, OtherSource}

-- an answer: the sample is entered, or why not
abbrev pub EntryAnswer : Type 0
EntryAnswer = Result (Unit {0}) EntryRefusal

-- an answer, with the row afterwards
pub record RowEntered : Type 0 where
  pub answer : EntryAnswer
  pub row : Row

-- an answer, with the table afterwards
pub record TableEntered : Type 0 where
  pub answer : EntryAnswer
  pub rows : List Row

-- the number of each answer; 0 where the sample is entered
abbrev pub entry_number : EntryAnswer → ℕ
entry_number (Ok _) = 0
entry_number (Err TableFull) = 40
entry_number (Err Repeated) = 41
entry_number (Err Backward) = 42
entry_number (Err OtherSource) = 43

-- ---- sources

-- the same agent address: type and octets, of which the first 4 count for type 1 and all 16 for any other
abbrev pub same_address : Address → Address → Bool
same_address x y =
    (x.kind == y.kind)
    && (x.octets.a == y.octets.a
    && (x.kind == 1 || (x.octets.b == y.octets.b && (x.octets.c == y.octets.c && x.octets.d == y.octets.d))))

-- a source: an agent address and a source id
pub record Source : Type 0 where
  pub agent : Address
  pub id : ℕ

abbrev pub same : Source → Source → Bool
same s t = s.id == t.id && same_address s.agent t.agent

abbrev pub source_of : FlowEntry → Source
source_of x = record { agent = x.agent; id = x.words.source_id }

-- the source that a row in use belongs to
abbrev pub row_source : Row → Source
row_source row = record { agent = row.agent; id = row.source_id }

unfoldable pub same_source : Row → FlowEntry → Bool
same_source row x = same (row_source row) (source_of x)

-- ---- one row

-- a minus b modulo 2 ^ 32
abbrev pub difference : ℕ → ℕ → ℕ
difference a b = (a + 2 ^ 32 - b) % 2 ^ 32

-- document 01's step: how far the sequence number went on
abbrev pub sequence_step : Row → FlowEntry → ℕ
sequence_step row x = difference x.words.sequence_number row.sequence_number

-- a row that a new source opens: its sequence number and pool are kept, the totals are 0
abbrev pub opened : FlowEntry → Row
opened x =
    record {
      used = true;
      agent = x.agent;
      source_id = x.words.source_id;
      sequence_number = x.words.sequence_number;
      sample_pool = x.words.sample_pool;
      lost_total = 0;
      pool_total = 0;
    }

-- a row behind a later sample: step - 1 samples more are lost, the pool went on by the difference, and the new numbers are kept
abbrev pub advanced : Row → FlowEntry → Row
advanced row x =
    record {
      used = true;
      agent = row.agent;
      source_id = row.source_id;
      sequence_number = x.words.sequence_number;
      sample_pool = x.words.sample_pool;
      lost_total = (row.lost_total + (sequence_step row x - 1)) % 2 ^ 64;
      pool_total = (row.pool_total + difference x.words.sample_pool row.sample_pool) % 2 ^ 64;
    }

abbrev pub answered : EntryAnswer → Row → RowEntered
answered answer row = record { answer = answer; row = row }

-- the row afterwards where the sample is entered, else the refusal
abbrev pub row_or_refusal : RowEntered → Result Row EntryRefusal
row_or_refusal e = result_and e.answer (Ok e.row)

-- a later sample of the row's source
abbrev pub later : Row → FlowEntry → RowEntered
later row x =
    cond (sequence_step row x == 0) (answered (Err Repeated) row)
    (cond (nat_le (2 ^ 31) (sequence_step row x)) (answered (Err Backward) row)
    (answered (Ok tt) (advanced row x)))

-- one lent row: a free row opens, a row of another source is refused
unfoldable pub updated : Row → FlowEntry → RowEntered
updated row x = cond row.used (cond (same_source row x) (later row x) (answered (Err OtherSource) row)) (answered (Ok tt) (opened x))

-- ---- the table

abbrev pub is_of : Source → Row → Bool
is_of s row = row.used && same (row_source row) s

abbrev pub is_free : Row → Bool
is_free row = not row.used

-- the lowest row that passes a test, or the number of rows
abbrev pub first_row : (Row → Bool) → List Row → ℕ
first_row p rows = position_or_len p rows

-- the row of a sample: its source's lowest, else the lowest free one, else none
abbrev pub row_for : FlowEntry → List Row → ℕ
row_for x rows = cond (nat_lt (first_row (is_of (source_of x)) rows) (length rows)) (first_row (is_of (source_of x)) rows) (first_row is_free rows)

-- a row that belongs to no source
abbrev pub free_row : Row
free_row =
    record {
      used = false;
      agent = record { kind = 0; octets = record { a = 0; b = 0; c = 0; d = 0 } };
      source_id = 0;
      sequence_number = 0;
      sample_pool = 0;
      lost_total = 0;
      pool_total = 0;
    }

-- one row is brought up to date, and the others stay
abbrev pub with_row : List Row → ℕ → RowEntered → TableEntered
with_row rows i e = record { answer = e.answer; rows = slice_set rows i e.row }

-- a sample entered in a table
unfoldable pub entered : List Row → FlowEntry → TableEntered
entered rows x =
    cond (nat_lt (row_for x rows) (length rows)) (with_row rows (row_for x rows) (updated (slice_index_or rows (row_for x rows) free_row) x))
    (record { answer = Err TableFull; rows = rows })
