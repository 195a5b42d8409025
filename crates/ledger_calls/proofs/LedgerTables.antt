-- Laws of the ledger's table as numbers.
use Rattle.std.proofs.Common.{◌≡◌, ℕ, zero, suc, ◌+◌, ◌*◌, ◌-◌, ◌≤◌, ◌<◌, Bool, true, false, not, eqb, Option, Some, None, Ok, Err, List, length, get_or, set, take, drop, refl, ap, sym, ◌∙◌, arith, le-leb, lt-ltb, eq-eqb, ne_eqb, length-drop, get_or-set_same}
use borrow.Author.Tests.{lt-leb}
use lib.Seq.{drop-drop, get_or-drop}
use borrow.Rule.Slice.PartMut.{mid_of, put_mid}
use Rattle.std.specs.Prelude.{MatchOption}
use Rattle.std.specs.List.{position, position_or_len}
use Rattle.std.specs.Result.{result_and}
use Rattle.std.proofs.lemmas.List.Sums.{position_or_len_is}
use Rattle.xdr.specs.Writes.{stored, afterwards}
use Rattle.xdr.proofs.Writing.{stored_part}
use Rattle.ledger.proofs.Tables.{no_row, one_row}
use Rattle.ledger.specs.declared.FlowEntry.{FlowEntry}
use Rattle.ledger.specs.declared.Row.{Row}
use Rattle.ledger.specs.Ledger.{TableEntered, RowEntered, EntryAnswer, row_or_refusal, free_row, is_free, row_for, updated}
use Rattle.numbers.specs.Reports.{filled}
use Rattle.ledger_calls.specs.LedgerTable.{row_in, rows_in, row_numbers, row_told, row_of, rows_told, entered_table}
use Rattle.numbers.proofs.Reports.{filled_whole, part_is}

-- ---- rows read

pub rows_length : (k : ℕ) (ns : List ℕ) → length (rows_in k ns) ≡ k
unfolding rows_in
rows_length zero ns = refl
rows_length (suc k) ns = ap suc (rows_length k (drop 11 ns))

-- row i begins at number 11 * i
pub row_at : (k i : ℕ) (ns : List ℕ) → i < k → get_or (rows_in k ns) i free_row ≡ row_in (drop (11 * i) ns)
unfolding rows_in
row_at zero i ns h = absurd (omega arith)
row_at (suc k) zero ns h = refl
row_at (suc k) (suc i) ns h =
    let there : 11 + 11 * i ≡ 11 * suc i = omega arith in
    row_at k i (drop 11 ns) (omega arith) ∙ ap row_in (drop-drop (11 * i) 11 ns ∙ ap (λ (n : ℕ). drop n ns) there)

-- ---- the search

-- the first number of a row tells whether it is free
used_at : (ns : List ℕ) (i : ℕ) (b : Bool) → eqb (get_or ns (11 * i) 0) 0 ≡ b → is_free (row_in (drop (11 * i) ns)) ≡ not (not b)
used_at ns i b e =
    let same : 11 * i + 0 ≡ 11 * i = omega arith in
    let place : get_or (drop (11 * i) ns) 0 0 ≡ get_or ns (11 * i) 0 = get_or-drop (11 * i) ns 0 0 ∙ ap (λ (n : ℕ). get_or ns n 0) same in
    rw (place, e) refl

pub free_at : (ns : List ℕ) (i : ℕ) → get_or ns (11 * i) 0 ≡ 0 → is_free (row_in (drop (11 * i) ns)) ≡ true
free_at ns i e = used_at ns i true (eq-eqb (get_or ns (11 * i) 0) 0 e)

pub not_free_at : (ns : List ℕ) (i : ℕ) → (get_or ns (11 * i) 0 ≡ 0 → ⊥) → is_free (row_in (drop (11 * i) ns)) ≡ false
not_free_at ns i n = used_at ns i false (ne_eqb (get_or ns (11 * i) 0) 0 n)

-- the first of the 64 rows that passes is the one that `position` tells
pub found_first : (p : Row → Bool) (ns : List ℕ) (r : Option ℕ)
    → MatchOption r ((k : ℕ) → 0 ≤ k → k < 64 → p (row_in (drop (11 * k) ns)) ≡ false)
    (λ i. (0 ≤ i) × (i < 64) × (p (row_in (drop (11 * i) ns)) ≡ true) × ((k : ℕ) → 0 ≤ k → k < i → p (row_in (drop (11 * k) ns)) ≡ false))
    → r ≡ position p (rows_in 64 ns)
found_first p ns None h =
    let long = rows_length 64 ns in
    let at : position_or_len p (rows_in 64 ns) ≡ 64 = position_or_len_is p (rows_in 64 ns) 64 free_row (omega arith)
    (λ k l. ap p (row_at 64 k ns (omega arith)) ∙ h k (omega arith) (omega arith)) (λ q. absurd (omega arith)) in
    rw (at, long)
found_first p ns (Some i) h =
    let long = rows_length 64 ns in
    let at : position_or_len p (rows_in 64 ns) ≡ i = position_or_len_is p (rows_in 64 ns) i free_row (omega arith)
    (λ k l. ap p (row_at 64 k ns (omega arith)) ∙ h.3 k (omega arith) l) (λ _. ap p (row_at 64 i ns h.1) ∙ h.2) in
    rw (at, long, lt-ltb i 64 h.1)

-- ---- a row brought up to date

-- a row's numbers, put to the front of a lent part
pub row_stored : (ns e : List ℕ) (at : ℕ) (row : Row) → at + 11 ≤ length ns → e ≡ filled (row_numbers row) (mid_of at (length ns - at) ns)
    → put_mid at (length ns - at) ns e ≡ stored ns at (row_numbers row)
unfolding stored
row_stored ns e at row h q =
    let size : length (row_numbers row) ≤ length (mid_of at (length ns - at) ns) = rw (part_is at ns, length-drop at ns) (omega arith) in
    let front : e ≡ stored (mid_of at (length ns - at) ns) 0 (row_numbers row) = q ∙ filled_whole (row_numbers row) (mid_of at (length ns - at) ns) size in
    ap (put_mid at (length ns - at) ns) front ∙ stored_part ns at (length ns - at) 0 at (row_numbers row) (omega arith) (omega arith) (omega arith)

-- the row that is stored is the row afterwards, read from a lent part
pub row_after : (x : FlowEntry) (ns : List ℕ) (at : ℕ) (read row : Row) → read ≡ row_in (take (length ns - at) (drop at ns)) → row_or_refusal (updated read x) ≡ Ok row
    → row ≡ (updated (row_in (drop at ns)) x).row
row_after x ns at read row e h = sym (go (updated read x).answer (updated read x).row h) ∙ ap (λ (r : Row). (updated r x).row) (e ∙ ap row_in (part_is at ns))
  where
    go : (a : EntryAnswer) (r : Row) → result_and a (Ok r) ≡ Ok row → r ≡ row
    go (Ok _) r h = cc
    go (Err _) r h = absurd (cc)

-- ---- a sample entered

module _ (x : FlowEntry) (ns : List ℕ) where
  -- in a table that has no row for it
  pub full_told : length (rows_in 64 ns) ≤ row_for x (rows_in 64 ns) → afterwards 40 ns ≡ rows_told (rows_in 64 ns) x ns
  full_told h = ap (λ (t : TableEntered). row_told (row_of t (row_for x (rows_in 64 ns))) (row_for x (rows_in 64 ns)) ns) (sym (no_row (rows_in 64 ns) x h))

  module _ (i : ℕ) (h : (row_for x (rows_in 64 ns) ≡ i) × (i < length (rows_in 64 ns))) where
    pub inside : i < 64
    inside = rw (rows_length 64 ns) at h.1

    -- in its row
    pub told_there : row_told (updated (row_in (drop (11 * i) ns)) x) i ns ≡ rows_told (rows_in 64 ns) x ns
    told_there =
        let u : RowEntered = updated (get_or (rows_in 64 ns) i free_row) x in
        let row : get_or (set (rows_in 64 ns) i u.row) i free_row ≡ u.row = get_or-set_same (rows_in 64 ns) i u.row free_row h.1 in
        rw (← row_at 64 i ns inside) (rw (h.0, one_row (rows_in 64 ns) x i h, row))

pub table_short : (x : FlowEntry) (ns : List ℕ) → length ns < 704 → afterwards 99 ns ≡ entered_table x ns
unfolding entered_table
table_short x ns h = rw (lt-leb 704 (length ns) h) refl

pub table_long : (x : FlowEntry) (ns : List ℕ) → 704 ≤ length ns → rows_told (rows_in 64 ns) x ns ≡ entered_table x ns
unfolding entered_table
table_long x ns h = rw (le-leb 704 (length ns) h) refl
