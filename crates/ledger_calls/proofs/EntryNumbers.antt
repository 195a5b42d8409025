-- The numbers that follow from the ledger's contracts: each exactly where document 01 gives it. Assumes nothing.
use Prim.Native.Nat.{ℕ, zero, suc, ◌^◌, ◌≤◌, ◌<◌}
use native.Mathlib.Omega.{arith}
use mathlib.Core.Path.{◌≡◌, refl, sym, ap, ◌∙◌, subst}
use mathlib.Core.Logic.{◌⊎◌, inl, inr, ◌↔◌}
use mathlib.Core.Bool.{Bool, true, false, true≢false, cond, not, ◌&&◌}
use mathlib.Core.List.{List}
use lib.ListN.{length, get_or}
use lib.Dec.{leb, ltb, eqb}
use borrow.Author.Tests.{eqb-true, eqb-false, leb-true, leb-false, ltb-true, ltb-false, lt-ltb, le-ltb}
use Rattle.xdr.specs.Writes.{Afterwards, afterwards}
use Rattle.ledger.specs.declared.FlowEntry.{FlowEntry}
use Rattle.ledger.specs.declared.Row.{Row}
use Rattle.ledger.specs.Ledger.{EntryAnswer}
use Rattle.ledger.specs.declared.EntryRefusal.TheVariants.{TableFull, Repeated, Backward, OtherSource}
use Rattle.std.proofs.Common.{Ok, Err}
use Rattle.ledger.specs.Ledger.{RowEntered}
use Rattle.ledger.specs.Ledger.{TableEntered}
use Rattle.ledger.specs.Ledger.{entry_number, same, source_of, row_source, same_source, sequence_step, answered, opened, advanced, updated, is_of, is_free, first_row, row_for, free_row, entered}
use Rattle.ledger.specs.Runs.{AllOthers, NoRow}
use Rattle.std.proofs.lemmas.List.Sums.{passes_at_first}
use Rattle.ledger.proofs.Tables.{first_none, none_first}
use Rattle.ledger.proofs.Answers.{by_row, table_kept, full_exactly}
use Rattle.ledger.proofs.Opening.{no_row_free}
use Rattle.ledger_calls.specs.EntryNumbers.{LentRowTold, HasRow, own_step, EntryTold, NumbersTold}
use Rattle.ledger_calls.specs.LedgerTable.{rows_in, rows_told, numbers_after, entered_table}

-- ---- a lent row

-- one case, with its number and the row afterwards
data RowCase (row : Row) (x : FlowEntry) (n : ℕ) (after : Row) : Type 0 where
  opens : n ≡ 0 → is_free row ≡ true → after ≡ opened x → RowCase row x n after
  other : n ≡ 43 → is_free row ≡ false → is_of (source_of x) row ≡ false → after ≡ row → RowCase row x n after
  repeats : n ≡ 41 → is_of (source_of x) row ≡ true → sequence_step row x ≡ 0 → after ≡ row → RowCase row x n after
  goes_back : n ≡ 42 → is_of (source_of x) row ≡ true → 2 ^ 31 ≤ sequence_step row x → after ≡ row → RowCase row x n after
  goes_on : n ≡ 0 → is_of (source_of x) row ≡ true → 0 < sequence_step row x → sequence_step row x < 2 ^ 31 → after ≡ advanced row x → RowCase row x n after

abbrev CaseOf : Row → FlowEntry → RowEntered → Type 0
CaseOf row x r = RowCase row x (entry_number r.answer) r.row

nonzero : (n : ℕ) → (n ≡ 0 → ⊥) → 0 < n
nonzero zero h = absurd (h refl)
nonzero (suc n) h = omega arith

row_case : (row : Row) (x : FlowEntry) → RowCase row x (entry_number (updated row x).answer) (updated row x).row
unfolding updated same_source
row_case row x = go row.used (same (row_source row) (source_of x)) (eqb (sequence_step row x) 0) (leb (2 ^ 31) (sequence_step row x)) refl refl refl refl
  where
    go : (a b c e : Bool) → row.used ≡ a → same (row_source row) (source_of x) ≡ b → eqb (sequence_step row x) 0 ≡ c → leb (2 ^ 31) (sequence_step row x) ≡ e
        → CaseOf row x
        (cond a (cond b (cond c (answered (Err Repeated) row) (cond e (answered (Err Backward) row) (answered (Ok tt) (advanced row x)))) (answered (Err OtherSource) row)) (answered (Ok tt) (opened x)))
    go false b c e u s i j = opens refl (rw u) refl
    go true false c e u s i j = other refl (rw u) (rw (s, u)) refl
    go true true true e u s i j = repeats refl (rw (s, u)) (eqb-true _ _ i) refl
    go true true false true u s i j = goes_back refl (rw (s, u)) (leb-true _ _ j) refl
    go true true false false u s i j = goes_on refl (rw (s, u)) (nonzero _ (eqb-false _ _ i)) (leb-false _ _ j) refl

-- a free row is no source's
free_none : {A : Type 0} (row : Row) (x : FlowEntry) → is_free row ≡ true → is_of (source_of x) row ≡ true → A
free_none row x = go row.used (same (row_source row) (source_of x))
  where
    go : {A : Type 0} (a b : Bool) → not a ≡ true → (a && b) ≡ true → A
    go true b e f = absurd (true≢false (sym e))
    go false b e f = absurd (true≢false (sym f))

-- a test has one answer
twice : {A : Type 0} (b : Bool) → b ≡ true → b ≡ false → A
twice b e f = absurd (true≢false (sym e ∙ f))

module _ (row : Row) (x : FlowEntry) (n : ℕ) (after : Row) where
  row_other : RowCase row x n after → (n ≡ 43) ↔ ((is_free row ≡ false) × (is_of (source_of x) row ≡ false))
  row_other (opens z f a) = (λ q. absurd (omega arith), λ q. twice _ f q.0)
  row_other (other z f o a) = (λ q. (f, o), λ q. z)
  row_other (repeats z o s a) = (λ q. absurd (omega arith), λ q. twice _ o q.1)
  row_other (goes_back z o s a) = (λ q. absurd (omega arith), λ q. twice _ o q.1)
  row_other (goes_on z o s t a) = (λ q. absurd (omega arith), λ q. twice _ o q.1)

  row_repeated : RowCase row x n after → (n ≡ 41) ↔ ((is_of (source_of x) row ≡ true) × (sequence_step row x ≡ 0))
  row_repeated (opens z f a) = (λ q. absurd (omega arith), λ q. free_none row x f q.0)
  row_repeated (other z f o a) = (λ q. absurd (omega arith), λ q. twice _ q.0 o)
  row_repeated (repeats z o s a) = (λ q. (o, s), λ q. z)
  row_repeated (goes_back z o s a) = (λ q. absurd (omega arith), λ q. let p = q.1 in absurd (omega arith))
  row_repeated (goes_on z o s t a) = (λ q. absurd (omega arith), λ q. let p = q.1 in absurd (omega arith))

  row_backward : RowCase row x n after → (n ≡ 42) ↔ ((is_of (source_of x) row ≡ true) × (2 ^ 31 ≤ sequence_step row x))
  row_backward (opens z f a) = (λ q. absurd (omega arith), λ q. free_none row x f q.0)
  row_backward (other z f o a) = (λ q. absurd (omega arith), λ q. twice _ q.0 o)
  row_backward (repeats z o s a) = (λ q. absurd (omega arith), λ q. let p = q.1 in absurd (omega arith))
  row_backward (goes_back z o s a) = (λ q. (o, s), λ q. z)
  row_backward (goes_on z o s t a) = (λ q. absurd (omega arith), λ q. let p = q.1 in absurd (omega arith))

  abbrev Enters : Type 0
  Enters = (is_free row ≡ true) ⊎ ((is_of (source_of x) row ≡ true) × ((0 < sequence_step row x) × (sequence_step row x < 2 ^ 31)))

  -- only a row that is entered passes
  row_enters : RowCase row x n after → (n ≡ 0) ↔ Enters
  row_enters (opens z f a) = (λ q. inl f, λ q. z)
  row_enters (other z f o a) = (λ q. absurd (omega arith), no)
    where
      no : Enters → n ≡ 0
      no (inl g) = twice _ g f
      no (inr g) = twice _ g.0 o
  row_enters (repeats z o s a) = (λ q. absurd (omega arith), no)
    where
      no : Enters → n ≡ 0
      no (inl g) = free_none row x g o
      no (inr g) = let p = g.1.0 in absurd (omega arith)
  row_enters (goes_back z o s a) = (λ q. absurd (omega arith), no)
    where
      no : Enters → n ≡ 0
      no (inl g) = free_none row x g o
      no (inr g) = let p = g.1.1 in absurd (omega arith)
  row_enters (goes_on z o s t a) = (λ q. inr (o, (s, t)), λ q. z)

  row_opens : RowCase row x n after → is_free row ≡ true → after ≡ opened x
  row_opens (opens z f a) q = a
  row_opens (other z f o a) q = twice _ q f
  row_opens (repeats z o s a) q = free_none row x q o
  row_opens (goes_back z o s a) q = free_none row x q o
  row_opens (goes_on z o s t a) q = free_none row x q o

  row_goes_on : RowCase row x n after → is_of (source_of x) row ≡ true → n ≡ 0 → after ≡ advanced row x
  row_goes_on (opens z f a) o q = free_none row x f o
  row_goes_on (other z f o a) q y = absurd (omega arith)
  row_goes_on (repeats z o s a) q y = absurd (omega arith)
  row_goes_on (goes_back z o s a) q y = absurd (omega arith)
  row_goes_on (goes_on z o s t a) q y = a

  row_keeps : RowCase row x n after → (n ≡ 0 → ⊥) → after ≡ row
  row_keeps (opens z f a) q = absurd (q z)
  row_keeps (other z f o a) q = a
  row_keeps (repeats z o s a) q = a
  row_keeps (goes_back z o s a) q = a
  row_keeps (goes_on z o s t a) q = absurd (q z)

-- what `ledger::update_row` answers and leaves, by its contract
pub row_told : (row : Row) (x : FlowEntry) (r : EntryAnswer) (after : Row) → (r ≡ (updated row x).answer) × (after ≡ (updated row x).row)
    → LentRowTold row x (entry_number r) after
row_told row x r after e =
    let n = entry_number r in
    let c : RowCase row x n after = rw (e.0, e.1) (row_case row x) in
    record {
      other = row_other row x n after c;
      repeated = row_repeated row x n after c;
      backward = row_backward row x n after c;
      enters = row_enters row x n after c;
      opens = row_opens row x n after c;
      goes_on = row_goes_on row x n after c;
      keeps = row_keeps row x n after c;
    }

-- ---- a table

data TableCase (rows : List Row) (x : FlowEntry) (n : ℕ) : Type 0 where
  full : n ≡ 40 → AllOthers rows x → TableCase rows x n
  repeats : n ≡ 41 → HasRow rows x → own_step rows x ≡ 0 → TableCase rows x n
  goes_back : n ≡ 42 → HasRow rows x → 2 ^ 31 ≤ own_step rows x → TableCase rows x n
  goes_on : n ≡ 0 → HasRow rows x → 0 < own_step rows x → own_step rows x < 2 ^ 31 → TableCase rows x n
  opens : n ≡ 0 → NoRow (source_of x) rows → first_row is_free rows < length rows → TableCase rows x n

module _ (rows : List Row) (x : FlowEntry) where
  -- a source's row
  own_case : HasRow rows x → TableCase rows x (entry_number (entered rows x).answer)
  own_case h =
      let i = first_row (is_of (source_of x)) rows in
      let at : row_for x rows ≡ i = rw (lt-ltb _ _ h) in
      let inside : row_for x rows < length rows = rw at h in
      let answer : (entered rows x).answer ≡ (updated (get_or rows i free_row) x).answer =
      ap (λ (t : TableEntered). t.answer) (by_row rows x inside) ∙ ap (λ (k : ℕ). (updated (get_or rows k free_row) x).answer) at in
      rw answer (go (entry_number (updated (get_or rows i free_row) x).answer) (passes_at_first (is_of (source_of x)) rows free_row h) (row_case (get_or rows i free_row) x))
    where
      go : (n : ℕ) {after : Row} → is_of (source_of x) (get_or rows (first_row (is_of (source_of x)) rows) free_row) ≡ true
          → RowCase (get_or rows (first_row (is_of (source_of x)) rows) free_row) x n after → TableCase rows x n
      go n o (opens z f a) = free_none (get_or rows (first_row (is_of (source_of x)) rows) free_row) x f o
      go n o (other z f u a) = twice (is_of (source_of x) (get_or rows (first_row (is_of (source_of x)) rows) free_row)) o u
      go n o (repeats z u s a) = repeats z h s
      go n o (goes_back z u s a) = goes_back z h s
      go n o (goes_on z u s t a) = goes_on z h s t

  -- a new source that has a free row
  open_case : length rows ≤ first_row (is_of (source_of x)) rows → first_row is_free rows < length rows → TableCase rows x (entry_number (entered rows x).answer)
  open_case none h =
      let i = first_row is_free rows in
      let at : row_for x rows ≡ i = rw (le-ltb _ _ none) in
      let inside : row_for x rows < length rows = rw at h in
      let answer : (entered rows x).answer ≡ (updated (get_or rows i free_row) x).answer =
      ap (λ (t : TableEntered). t.answer) (by_row rows x inside) ∙ ap (λ (k : ℕ). (updated (get_or rows k free_row) x).answer) at in
      rw answer (go (entry_number (updated (get_or rows i free_row) x).answer) (passes_at_first is_free rows free_row h) (row_case (get_or rows i free_row) x))
    where
      go : (n : ℕ) {after : Row} → is_free (get_or rows (first_row is_free rows) free_row) ≡ true
          → RowCase (get_or rows (first_row is_free rows) free_row) x n after → TableCase rows x n
      go n o (opens z f a) = opens z (first_none (is_of (source_of x)) rows none) h
      go n o (other z f u a) = twice (is_free (get_or rows (first_row is_free rows) free_row)) o f
      go n o (repeats z u s a) = free_none (get_or rows (first_row is_free rows) free_row) x o u
      go n o (goes_back z u s a) = free_none (get_or rows (first_row is_free rows) free_row) x o u
      go n o (goes_on z u s t a) = free_none (get_or rows (first_row is_free rows) free_row) x o u

  -- a new source that has none
  full_case : length rows ≤ first_row (is_of (source_of x)) rows → length rows ≤ first_row is_free rows → TableCase rows x (entry_number (entered rows x).answer)
  full_case none h =
      let others : AllOthers rows x = no_row_free rows x none h in
      full (ap entry_number ((full_exactly rows x).1 others)) others

  table_case : TableCase rows x (entry_number (entered rows x).answer)
  table_case = go (ltb (first_row (is_of (source_of x)) rows) (length rows)) (ltb (first_row is_free rows) (length rows)) refl refl
    where
      go : (a b : Bool) → ltb (first_row (is_of (source_of x)) rows) (length rows) ≡ a → ltb (first_row is_free rows) (length rows) ≡ b
          → TableCase rows x (entry_number (entered rows x).answer)
      go true b e f = own_case (ltb-true _ _ e)
      go false true e f = open_case (ltb-false _ _ e) (ltb-true _ _ f)
      go false false e f = full_case (ltb-false _ _ e) (ltb-false _ _ f)

  -- where every row belongs to another source, none is the sample's and none is free
  others_none : AllOthers rows x → HasRow rows x → ⊥
  others_none h l = let e = none_first (is_of (source_of x)) rows (λ i k. rw (h i k).0 (h i k).1) in omega arith

  others_used : AllOthers rows x → first_row is_free rows < length rows → ⊥
  others_used h l = let e = none_first is_free rows (λ i k. rw (h i k).0) in omega arith

  no_row : NoRow (source_of x) rows → HasRow rows x → ⊥
  no_row h l = let e = none_first (is_of (source_of x)) rows h in omega arith

  abbrev EntersTable : Type 0
  EntersTable = (HasRow rows x × ((0 < own_step rows x) × (own_step rows x < 2 ^ 31))) ⊎ (NoRow (source_of x) rows × (first_row is_free rows < length rows))

  module _ (n : ℕ) where
    table_full : TableCase rows x n → (n ≡ 40) ↔ AllOthers rows x
    table_full (full z o) = (λ q. o, λ q. z)
    table_full (repeats z h s) = (λ q. absurd (omega arith), λ q. absurd (others_none q h))
    table_full (goes_back z h s) = (λ q. absurd (omega arith), λ q. absurd (others_none q h))
    table_full (goes_on z h s t) = (λ q. absurd (omega arith), λ q. absurd (others_none q h))
    table_full (opens z h f) = (λ q. absurd (omega arith), λ q. absurd (others_used q f))

    table_repeated : TableCase rows x n → (n ≡ 41) ↔ (HasRow rows x × (own_step rows x ≡ 0))
    table_repeated (full z o) = (λ q. absurd (omega arith), λ q. absurd (others_none o q.0))
    table_repeated (repeats z h s) = (λ q. (h, s), λ q. z)
    table_repeated (goes_back z h s) = (λ q. absurd (omega arith), λ q. let p = q.1 in absurd (omega arith))
    table_repeated (goes_on z h s t) = (λ q. absurd (omega arith), λ q. let p = q.1 in absurd (omega arith))
    table_repeated (opens z h f) = (λ q. absurd (omega arith), λ q. absurd (no_row h q.0))

    table_backward : TableCase rows x n → (n ≡ 42) ↔ (HasRow rows x × (2 ^ 31 ≤ own_step rows x))
    table_backward (full z o) = (λ q. absurd (omega arith), λ q. absurd (others_none o q.0))
    table_backward (repeats z h s) = (λ q. absurd (omega arith), λ q. let p = q.1 in absurd (omega arith))
    table_backward (goes_back z h s) = (λ q. (h, s), λ q. z)
    table_backward (goes_on z h s t) = (λ q. absurd (omega arith), λ q. let p = q.1 in absurd (omega arith))
    table_backward (opens z h f) = (λ q. absurd (omega arith), λ q. absurd (no_row h q.0))

    table_enters : TableCase rows x n → (n ≡ 0) ↔ EntersTable
    table_enters (full z o) = (λ q. absurd (omega arith), no)
      where
        no : EntersTable → n ≡ 0
        no (inl g) = absurd (others_none o g.0)
        no (inr g) = absurd (others_used o g.1)
    table_enters (repeats z h s) = (λ q. absurd (omega arith), no)
      where
        no : EntersTable → n ≡ 0
        no (inl g) = let p = g.1.0 in absurd (omega arith)
        no (inr g) = absurd (no_row g.0 h)
    table_enters (goes_back z h s) = (λ q. absurd (omega arith), no)
      where
        no : EntersTable → n ≡ 0
        no (inl g) = let p = g.1.1 in absurd (omega arith)
        no (inr g) = absurd (no_row g.0 h)
    table_enters (goes_on z h s t) = (λ q. inl (h, (s, t)), λ q. z)
    table_enters (opens z h f) = (λ q. inr (h, f), λ q. z)

    table_never : TableCase rows x n → n ≡ 43 → ⊥
    table_never (full z o) q = omega arith
    table_never (repeats z h s) q = omega arith
    table_never (goes_back z h s) q = omega arith
    table_never (goes_on z h s t) q = omega arith
    table_never (opens z h f) q = omega arith

  table_keeps : (entry_number (entered rows x).answer ≡ 0 → ⊥) → (entered rows x).rows ≡ rows
  table_keeps q = go (table_kept rows x)
    where
      go : ((entered rows x).answer ≡ Ok tt) ⊎ ((entered rows x).rows ≡ rows) → (entered rows x).rows ≡ rows
      go (inl e) = absurd (q (ap entry_number e))
      go (inr e) = e

  entered_told : EntryTold rows x (entry_number (entered rows x).answer) (entered rows x).rows
  entered_told =
      let n = entry_number (entered rows x).answer in
      record {
        full = table_full n table_case;
        repeated = table_repeated n table_case;
        backward = table_backward n table_case;
        enters = table_enters n table_case;
        never_other = table_never n table_case;
        keeps = table_keeps;
      }

-- what `ledger::enter` answers and leaves, by its contract
pub entry_told : (rows : List Row) (x : FlowEntry) (r : TableEntered) → r ≡ entered rows x → EntryTold rows x (entry_number r.answer) r.rows
entry_told rows x r e = rw e (entered_told rows x)

-- ---- a table of numbers

below : (a : EntryAnswer) → entry_number a < 99
below (Ok _) = omega arith
below (Err TableFull) = omega arith
below (Err Repeated) = omega arith
below (Err Backward) = omega arith
below (Err OtherSource) = omega arith

-- where the number is not 0, no number is stored
none_stored : (a : EntryAnswer) (i : ℕ) (row : Row) (ns : List ℕ) → (entry_number a ≡ 0 → ⊥) → numbers_after a i row ns ≡ ns
none_stored (Ok _) i row ns q = absurd (q refl)
none_stored (Err TableFull) i row ns q = refl
none_stored (Err Repeated) i row ns q = refl
none_stored (Err Backward) i row ns q = refl
none_stored (Err OtherSource) i row ns q = refl

module _ (x : FlowEntry) (ns : List ℕ) where
  abbrev NumbersOf : Afterwards ℕ → Type 0
  NumbersOf (afterwards n after) = NumbersTold ns x n after

  -- what `ledger_calls::enter` answers and leaves, by its contract
  pub numbers_told : (r : ℕ) (after : List ℕ) → afterwards r after ≡ entered_table x ns → NumbersTold ns x r after
  unfolding entered_table
  numbers_told r after e = subst NumbersOf (sym e) (go (leb 704 (length ns)) refl)
    where
      go : (b : Bool) → leb 704 (length ns) ≡ b → NumbersOf (cond b (rows_told (rows_in 64 ns) x ns) (afterwards 99 ns))
      go true k =
          let rows = rows_in 64 ns in
          let long : 704 ≤ length ns = leb-true _ _ k in
          let small = below (entered rows x).answer in
          record {
            short = (λ q. absurd (omega arith), λ q. absurd (omega arith));
            by_rows = λ _. entered_told rows x;
            keeps = none_stored (entered rows x).answer (row_for x rows) (get_or (entered rows x).rows (row_for x rows) free_row) ns;
          }
      go false k =
          let less : length ns < 704 = leb-false _ _ k in
          record {
            short = (λ _. less, λ _. refl);
            by_rows = λ q. absurd (omega arith);
            keeps = λ _. refl;
          }
