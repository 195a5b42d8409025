-- The ledger's table for C and Rust: 64 rows of eleven numbers in a lent array.
use Rattle.std.specs.Prelude.{ℕ, zero, suc, ◌*◌, ◌%◌, ◌^◌, ◌<◌, not, cond, Ok, Err, List, [], ◌∷◌, length, get_or, drop, leb, eqb}
use Rattle.xdr.specs.Writes.{stored, Afterwards, afterwards}
use Rattle.fields.specs.declared.address.Address.{Address}
use Rattle.ledger.specs.declared.FlowEntry.{FlowEntry}
use Rattle.ledger.specs.declared.Row.{Row}
use Rattle.ledger.specs.Ledger.{EntryAnswer, RowEntered, TableEntered, entry_number, free_row, row_for, entered}
use Rattle.numbers.specs.Addresses.{address_with}

-- ---- rows as numbers

-- the number in a column of 32 bits: modulo 2 ^ 32
abbrev pub column_at : List ℕ → ℕ → ℕ
column_at ns i = get_or ns i 0 % 2 ^ 32

-- an agent address behind one number: its type and four words
abbrev pub agent_in : List ℕ → Address
agent_in ns = address_with (column_at ns 1) (column_at ns 2) (column_at ns 3) (column_at ns 4) (column_at ns 5)

-- the row that numbers begin with: used (0 where it is free), agent type, four address words, source id, sequence number, sample pool, totals
abbrev pub row_in : List ℕ → Row
row_in ns =
    record {
      used = not (eqb (get_or ns 0 0) 0);
      agent = agent_in ns;
      source_id = column_at ns 6;
      sequence_number = column_at ns 7;
      sample_pool = column_at ns 8;
      lost_total = get_or ns 9 0;
      pool_total = get_or ns 10 0;
    }

-- the rows that numbers begin with, so many
unfoldable pub rows_in : ℕ → List ℕ → List Row
rows_in zero ns = []
rows_in (suc k) ns = row_in ns ∷ rows_in k (drop 11 ns)

-- the eleven numbers of a row; a row in use has 1 for used
abbrev pub row_numbers : Row → List ℕ
row_numbers row =
    cond row.used 1 0
    ∷ row.agent.kind
    ∷ row.agent.octets.a
    ∷ row.agent.octets.b
    ∷ row.agent.octets.c
    ∷ row.agent.octets.d
    ∷ row.source_id
    ∷ row.sequence_number
    ∷ row.sample_pool
    ∷ row.lost_total
    ∷ row.pool_total
    ∷ []

-- ---- a sample entered

-- a flow sample for the ledger; the words of it that the ledger does not use are 0
abbrev pub flow_entry : Address → ℕ → ℕ → ℕ → FlowEntry
flow_entry agent source sequence pool =
    record {
      agent = agent;
      words =
          record {
            sequence_number = sequence;
            source_id = source;
            sampling_rate = 0;
            sample_pool = pool;
            drops = 0;
            input = 0;
            output = 0;
          };
    }

-- the numbers afterwards: where a sample is entered, the eleven of row i are stored, and every other stays; a refusal changes none
abbrev pub numbers_after : EntryAnswer → ℕ → Row → List ℕ → List ℕ
numbers_after (Ok _) i row ns = stored ns (11 * i) (row_numbers row)
numbers_after (Err _) i row ns = ns

-- the number of the answer, and the numbers afterwards, of row i brought up to date
abbrev pub row_told : RowEntered → ℕ → List ℕ → Afterwards ℕ
row_told e i ns = afterwards (entry_number e.answer) (numbers_after e.answer i e.row ns)

-- row i of a table afterwards, with the answer
abbrev pub row_of : TableEntered → ℕ → RowEntered
row_of e i = record { answer = e.answer; row = get_or e.rows i free_row }

-- a sample entered in the rows that numbers are: the number of the answer, and the numbers afterwards
abbrev pub rows_told : List Row → FlowEntry → List ℕ → Afterwards ℕ
rows_told rows x ns = row_told (row_of (entered rows x) (row_for x rows)) (row_for x rows) ns

-- a sample entered in the table that numbers begin with; 99, which document 01 does not have, where they are fewer than 704
unfoldable pub entered_table : FlowEntry → List ℕ → Afterwards ℕ
entered_table x ns = cond (leb 704 (length ns)) (rows_told (rows_in 64 ns) x ns) (afterwards 99 ns)

-- ---- words

-- every word of an address is below 2 ^ 32
pub record AddressWords (x : Address) : Type 0 where
  pub kind : x.kind < 2 ^ 32
  pub a : x.octets.a < 2 ^ 32
  pub b : x.octets.b < 2 ^ 32
  pub c : x.octets.c < 2 ^ 32
  pub d : x.octets.d < 2 ^ 32

-- every word of an agent address, a source id, a sequence number and a sample pool is below 2 ^ 32
pub record EntryWords (x : Address) (id number total : ℕ) : Type 0 where
  pub agent : AddressWords x
  pub source : id < 2 ^ 32
  pub sequence : number < 2 ^ 32
  pub pool : total < 2 ^ 32

-- every word that the ledger takes of a sample is below 2 ^ 32
abbrev pub SampleWords : FlowEntry → Type 0
SampleWords x = EntryWords x.agent x.words.source_id x.words.sequence_number x.words.sample_pool
