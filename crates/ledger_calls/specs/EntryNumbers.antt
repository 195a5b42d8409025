-- The numbers that the ledger answers, each exactly where document 01 gives it ("Ledger").
use Rattle.std.specs.Prelude.{ℕ, ◌^◌, ◌≤◌, ◌<◌, ◌≡◌, ◌⊎◌, ◌↔◌, true, false, List, length, get_or}
use Rattle.ledger.specs.declared.FlowEntry.{FlowEntry}
use Rattle.ledger.specs.declared.Row.{Row}
use Rattle.ledger.specs.Ledger.{source_of, sequence_step, opened, advanced, is_of, is_free, first_row, free_row, entered}
use Rattle.ledger.specs.Runs.{AllOthers, NoRow}
use Rattle.ledger_calls.specs.LedgerTable.{rows_in}

-- a sample x entered in a lent row: the number n answered, and the row afterwards
pub record LentRowTold (row : Row) (x : FlowEntry) (n : ℕ) (after : Row) : Type 0 where
  -- 43: the row belongs to another source
  pub other : (n ≡ 43) ↔ ((is_free row ≡ false) × (is_of (source_of x) row ≡ false))
  -- 41: step 0
  pub repeated : (n ≡ 41) ↔ ((is_of (source_of x) row ≡ true) × (sequence_step row x ≡ 0))
  -- 42: step 2 ^ 31 or more
  pub backward : (n ≡ 42) ↔ ((is_of (source_of x) row ≡ true) × (2 ^ 31 ≤ sequence_step row x))
  -- 0: a free row, which opens, or any other step of the row's source
  pub enters : (n ≡ 0) ↔ ((is_free row ≡ true) ⊎ ((is_of (source_of x) row ≡ true) × ((0 < sequence_step row x) × (sequence_step row x < 2 ^ 31))))
  pub opens : is_free row ≡ true → after ≡ opened x
  pub goes_on : is_of (source_of x) row ≡ true → n ≡ 0 → after ≡ advanced row x
  -- a refusal changes no row
  pub keeps : (n ≡ 0 → ⊥) → after ≡ row

-- the source of a sample has a row
abbrev pub HasRow : List Row → FlowEntry → Type 0
HasRow rows x = first_row (is_of (source_of x)) rows < length rows

-- the step from the number that the source's lowest row keeps
abbrev pub own_step : List Row → FlowEntry → ℕ
own_step rows x = sequence_step (get_or rows (first_row (is_of (source_of x)) rows) free_row) x

-- a sample x entered in a table: the number n answered, and the rows afterwards
pub record EntryTold (rows : List Row) (x : FlowEntry) (n : ℕ) (after : List Row) : Type 0 where
  -- 40: every row belongs to another source
  pub full : (n ≡ 40) ↔ AllOthers rows x
  -- 41: step 0
  pub repeated : (n ≡ 41) ↔ (HasRow rows x × (own_step rows x ≡ 0))
  -- 42: step 2 ^ 31 or more
  pub backward : (n ≡ 42) ↔ (HasRow rows x × (2 ^ 31 ≤ own_step rows x))
  -- 0: any other step, or a new source and a free row
  pub enters : (n ≡ 0)
      ↔ ((HasRow rows x × ((0 < own_step rows x) × (own_step rows x < 2 ^ 31))) ⊎ (NoRow (source_of x) rows × (first_row is_free rows < length rows)))
  -- 43 is for a lent row alone
  pub never_other : n ≡ 43 → ⊥
  -- a refusal changes no row
  pub keeps : (n ≡ 0 → ⊥) → after ≡ rows

-- a sample x entered in a table of numbers ns: the number n answered, and the numbers afterwards
pub record NumbersTold (ns : List ℕ) (x : FlowEntry) (n : ℕ) (after : List ℕ) : Type 0 where
  -- 99, which document 01 does not have: no table
  pub short : (n ≡ 99) ↔ (length ns < 704)
  -- else as the rows answer
  pub by_rows : 704 ≤ length ns → EntryTold (rows_in 64 ns) x n (entered (rows_in 64 ns) x).rows
  -- a refusal changes no number
  pub keeps : (n ≡ 0 → ⊥) → after ≡ ns
