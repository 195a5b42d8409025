-- A run of samples entered one behind the other, and what it adds to the totals of a source (document 01, "Ledger").
use Rattle.std.specs.Prelude.{◌≡◌, ℕ, ◌+◌, ◌-◌, ◌%◌, ◌^◌, ◌<◌, Bool, true, false, cond, ◌&&◌, ◌⊎◌, Ok, Err, List, [], ◌∷◌, ◌++◌, length, get_or, nat_lt, slice_index_or}
use Rattle.ledger.specs.declared.FlowEntry.{FlowEntry}
use Rattle.ledger.specs.declared.Row.{Row}
use Rattle.ledger.specs.declared.EntryRefusal.TheVariants.{TableFull}
use Rattle.ledger.specs.Ledger.{Source, same, source_of, row_source, difference, opened, is_of, is_free, first_row, free_row, entered}

-- the table behind a run of samples
abbrev pub table_after : List Row → List FlowEntry → List Row
table_after rows [] = rows
table_after rows (x ∷ xs) = table_after (entered rows x).rows xs

-- a later sample of a source is accepted behind a kept sequence number: its step is not 0 and below 2 ^ 31
abbrev pub accepts : Source → ℕ → FlowEntry → Bool
accepts s kept x =
    same s (source_of x)
    && (nat_lt 0 (difference x.words.sequence_number kept) && nat_lt (difference x.words.sequence_number kept) (2 ^ 31))

-- the accepted later samples of a source; those of other sources and the refused ones change nothing
abbrev pub accepted_later : Source → ℕ → List FlowEntry → List FlowEntry
accepted_later s kept [] = []
accepted_later s kept (x ∷ xs) = cond (accepts s kept x) (x ∷ accepted_later s x.words.sequence_number xs) (accepted_later s kept xs)

-- the sum of step - 1 over samples, behind a kept sequence number
abbrev pub lost_sum : ℕ → List FlowEntry → ℕ
lost_sum kept [] = 0
lost_sum kept (x ∷ xs) = (difference x.words.sequence_number kept - 1) + lost_sum x.words.sequence_number xs

-- the sum of the pool differences, behind a kept pool
abbrev pub pool_sum : ℕ → List FlowEntry → ℕ
pool_sum kept [] = 0
pool_sum kept (x ∷ xs) = difference x.words.sample_pool kept + pool_sum x.words.sample_pool xs

-- row i is the lowest of a source
pub record Lowest (s : Source) (rows : List Row) (i : ℕ) : Type 0 where
  pub first : first_row (is_of s) rows ≡ i
  pub inside : i < length rows

-- what a run leaves of a source's lowest row: it is still that, and the totals have grown by the sums
pub record Grown (s : Source) (rows : List Row) (i : ℕ) (xs : List FlowEntry) : Type 0 where
  pub lowest : Lowest s (table_after rows xs) i
  pub lost : (get_or (table_after rows xs) i free_row).lost_total % 2 ^ 64
      ≡ ((get_or rows i free_row).lost_total + lost_sum (get_or rows i free_row).sequence_number (accepted_later s (get_or rows i free_row).sequence_number xs)) % 2 ^ 64
  pub pool : (get_or (table_after rows xs) i free_row).pool_total % 2 ^ 64
      ≡ ((get_or rows i free_row).pool_total + pool_sum (get_or rows i free_row).sample_pool (accepted_later s (get_or rows i free_row).sequence_number xs)) % 2 ^ 64

-- every row belongs to another source than a sample's
abbrev pub AllOthers : List Row → FlowEntry → Type 0
AllOthers rows x = (i : ℕ) → i < length rows → ((get_or rows i free_row).used ≡ true) × (same (row_source (slice_index_or rows i free_row)) (source_of x) ≡ false)

-- ---- a source that has no row when the run begins

-- no row is a source's
abbrev pub NoRow : Source → List Row → Type 0
NoRow s rows = (i : ℕ) → i < length rows → is_of s (slice_index_or rows i free_row) ≡ false

-- no sample of a run is a source's
abbrev pub NoSample : Source → List FlowEntry → Type 0
NoSample s [] = Unit {0}
NoSample s (x ∷ xs) = (same s (source_of x) ≡ false) × NoSample s xs

-- row i is the lowest free one
pub record LowestFree (rows : List Row) (i : ℕ) : Type 0 where
  pub first : first_row is_free rows ≡ i
  pub inside : i < length rows

-- what a run leaves of a source that opens inside it, with its first sample x behind other samples: x is entered in row i, with its sequence number and
-- pool and totals of 0; that row is then the source's lowest, and its totals are the sums over the source's accepted later samples, modulo 2 ^ 64
pub record OpensInside (rows : List Row) (before : List FlowEntry) (x : FlowEntry) (behind : List FlowEntry) (i : ℕ) : Type 0 where
  pub answer : (entered (table_after rows before) x).answer ≡ Ok tt
  pub opens : get_or (entered (table_after rows before) x).rows i free_row ≡ opened x
  pub lowest : Lowest (source_of x) (table_after rows (before ++ (x ∷ behind))) i
  pub lost : (get_or (table_after rows (before ++ (x ∷ behind))) i free_row).lost_total
      ≡ lost_sum x.words.sequence_number (accepted_later (source_of x) x.words.sequence_number behind) % 2 ^ 64
  pub pool : (get_or (table_after rows (before ++ (x ∷ behind))) i free_row).pool_total
      ≡ pool_sum x.words.sample_pool (accepted_later (source_of x) x.words.sequence_number behind) % 2 ^ 64

-- a sample that a full table refuses: the run goes on as without it, and every row still belongs to another source behind it, for rows are not retired
pub record RefusedInside (rows : List Row) (before : List FlowEntry) (x : FlowEntry) (behind : List FlowEntry) : Type 0 where
  pub answer : (entered (table_after rows before) x).answer ≡ Err TableFull
  pub stays : table_after rows (before ++ (x ∷ behind)) ≡ table_after rows (before ++ behind)
  pub full : AllOthers (table_after rows (before ++ (x ∷ behind))) x

-- the first sample x of a source in a run: it takes the lowest free row and opens it, or every row belongs to another source and it changes nothing
pub record FirstOf (rows : List Row) (before : List FlowEntry) (x : FlowEntry) (behind : List FlowEntry) : Type 0 where
  pub opens : (i : ℕ) → LowestFree (table_after rows before) i → OpensInside rows before x behind i
  pub refused : AllOthers (table_after rows before) x → RefusedInside rows before x behind
  pub either : LowestFree (table_after rows before) (first_row is_free (table_after rows before)) ⊎ AllOthers (table_after rows before) x
