-- What the table's answers say of the rows. Assumes nothing.
use Rattle.std.proofs.Common.{◌≡◌, ℕ, ◌^◌, ◌<◌, ◌≤◌, Bool, true, false, cond, not, ◌&&◌, eqb, ltb, leb, ◌≢◌, Ok, Err, ◌⊎◌, ◌↔◌, List, length, get_or, set, sym, refl, ap, ◌∙◌, inl, inr, true≢false, arith, get_or-set_other, ltb-false, ltb-true, le-ltb}
use mathlib.Core.Bool.{false≢true}
use lib.Seq.{set-get_or}
use Rattle.ledger.specs.declared.FlowEntry.{FlowEntry}
use Rattle.ledger.specs.declared.Row.{Row}
use Rattle.ledger.specs.declared.EntryRefusal.{EntryRefusal}
use Rattle.ledger.specs.declared.EntryRefusal.TheVariants.{TableFull, Repeated, Backward, OtherSource}
use Rattle.ledger.specs.Ledger.{same, source_of, row_source, same_source, sequence_step, answered, row_or_refusal, opened, advanced, updated, is_of, is_free, first_row, row_for, free_row, with_row, entered}
use Rattle.std.proofs.lemmas.List.Sums.{passes_at_first}
use Rattle.ledger.specs.Runs.{AllOthers}
use Rattle.ledger.proofs.Tables.{first_none, none_first, one_row}

-- a sample that has a row is entered there by the rules of one row
pub by_row : (rows : List Row) (x : FlowEntry) → row_for x rows < length rows
    → entered rows x ≡ with_row rows (row_for x rows) (updated (get_or rows (row_for x rows) free_row) x)
by_row rows x h = one_row rows x (row_for x rows) (refl, h)

-- every row but the sample's own stays as it was
pub others_stay : (rows : List Row) (x : FlowEntry) (j : ℕ) → j ≢ row_for x rows → get_or (entered rows x).rows j free_row ≡ get_or rows j free_row
unfolding entered
others_stay rows x j n = go (ltb (row_for x rows) (length rows))
  where
    go : (b : Bool) → get_or (cond b (with_row rows (row_for x rows) (updated (get_or rows (row_for x rows) free_row) x)) (record { answer = Err TableFull; rows = rows })).rows j free_row ≡ get_or rows j free_row
    go true = get_or-set_other rows (row_for x rows) j (updated (get_or rows (row_for x rows) free_row) x).row free_row n
    go false = refl

-- a row that refuses a sample stays as it was
pub row_kept : (row : Row) (x : FlowEntry) → ((updated row x).answer ≡ Ok tt) ⊎ ((updated row x).row ≡ row)
unfolding updated
row_kept row x = go row.used (same_source row x) (eqb (sequence_step row x) 0) (leb (2 ^ 31) (sequence_step row x))
  where
    go : (a b c e : Bool)
        → ((cond a (cond b (cond c (answered (Err Repeated) row) (cond e (answered (Err Backward) row) (answered (Ok tt) (advanced row x)))) (answered (Err OtherSource) row)) (answered (Ok tt) (opened x))).answer ≡ Ok tt)
        ⊎
        ((cond a (cond b (cond c (answered (Err Repeated) row) (cond e (answered (Err Backward) row) (answered (Ok tt) (advanced row x)))) (answered (Err OtherSource) row)) (answered (Ok tt) (opened x))).row ≡ row)
    go false b c e = inl refl
    go true false c e = inr refl
    go true true true e = inr refl
    go true true false true = inr refl
    go true true false false = inl refl

-- where one row gives no row, it is a refusal
pub refused_row : (row : Row) (x : FlowEntry) (why : EntryRefusal) → row_or_refusal (updated row x) ≡ Err why → row ≡ (updated row x).row
refused_row row x why e = elim (row_kept row x) [ inl h ↦ absurd (cc (rw h at e)) | inr k ↦ sym k ]

-- so does a whole table that refuses one
pub table_kept : (rows : List Row) (x : FlowEntry) → ((entered rows x).answer ≡ Ok tt) ⊎ ((entered rows x).rows ≡ rows)
unfolding entered
table_kept rows x = go (ltb (row_for x rows) (length rows)) (row_kept (get_or rows (row_for x rows) free_row) x)
  where
    go : (b : Bool) → ((updated (get_or rows (row_for x rows) free_row) x).answer ≡ Ok tt) ⊎ ((updated (get_or rows (row_for x rows) free_row) x).row ≡ get_or rows (row_for x rows) free_row)
        → ((cond b (with_row rows (row_for x rows) (updated (get_or rows (row_for x rows) free_row) x)) (record { answer = Err TableFull; rows = rows })).answer ≡ Ok tt)
        ⊎ ((cond b (with_row rows (row_for x rows) (updated (get_or rows (row_for x rows) free_row) x)) (record { answer = Err TableFull; rows = rows })).rows ≡ rows)
    go true (inl e) = inl e
    go true (inr e) = inr (ap (set rows (row_for x rows)) e ∙ set-get_or rows (row_for x rows) free_row)
    go false k = inr refl

-- ---- 40 exactly when every row belongs to another source

-- one row never answers that the table is full
row_not_full : (row : Row) (x : FlowEntry) → (updated row x).answer ≡ Err TableFull → ⊥
unfolding updated
row_not_full row x = go row.used (same_source row x) (eqb (sequence_step row x) 0) (leb (2 ^ 31) (sequence_step row x))
  where
    go : (a b c e : Bool)
        → (cond a (cond b (cond c (answered (Err Repeated) row) (cond e (answered (Err Backward) row) (answered (Ok tt) (advanced row x)))) (answered (Err OtherSource) row)) (answered (Ok tt) (opened x))).answer ≡ Err TableFull → ⊥
    go false b c e q = cc
    go true false c e q = cc
    go true true true e q = cc
    go true true false true q = cc
    go true true false false q = cc

pub used_told : (b : Bool) → not b ≡ false → b ≡ true
used_told true e = refl
used_told false e = sym e

pub full_exactly : (rows : List Row) (x : FlowEntry) → ((entered rows x).answer ≡ Err TableFull) ↔ AllOthers rows x
unfolding entered
full_exactly rows x = (to_rows, of_rows)
  where
    go : (a b : Bool) → ltb (first_row (is_of (source_of x)) rows) (length rows) ≡ a → ltb (cond a (first_row (is_of (source_of x)) rows) (first_row is_free rows)) (length rows) ≡ b
        → (cond b (with_row rows (cond a (first_row (is_of (source_of x)) rows) (first_row is_free rows)) (updated (get_or rows (cond a (first_row (is_of (source_of x)) rows) (first_row is_free rows)) free_row) x)) (record { answer = Err TableFull; rows = rows })).answer ≡ Err TableFull
        → AllOthers rows x
    go a true e f q = absurd (row_not_full (get_or rows (cond a (first_row (is_of (source_of x)) rows) (first_row is_free rows)) free_row) x q)
    go true false e f q = absurd (true≢false (sym e ∙ f))
    go false false e f q = λ i l.
        let u : (get_or rows i free_row).used ≡ true = used_told _ (first_none is_free rows (ltb-false _ _ f) i l) in
        let n : is_of (source_of x) (get_or rows i free_row) ≡ false = first_none (is_of (source_of x)) rows (ltb-false _ _ e) i l in
        (u, sym (ap (λ (b : Bool). b && same (row_source (get_or rows i free_row)) (source_of x)) u) ∙ n)

    to_rows : (entered rows x).answer ≡ Err TableFull → AllOthers rows x
    to_rows q = go (ltb (first_row (is_of (source_of x)) rows) (length rows)) (ltb (row_for x rows) (length rows)) refl refl q

    of_rows : AllOthers rows x → (entered rows x).answer ≡ Err TableFull
    of_rows h =
        let own : first_row (is_of (source_of x)) rows ≡ length rows = none_first (is_of (source_of x)) rows (λ i l. rw (h i l).0 (h i l).1) in
        let free : first_row is_free rows ≡ length rows = none_first is_free rows (λ i l. rw (h i l).0) in
        let low : length rows ≤ length rows = omega arith in
        rw (own, free, le-ltb (length rows) (length rows) low, le-ltb (length rows) (length rows) low)

-- ---- 43 is for a lent row alone: the table's own row of a sample is its source's or free

-- a row of the sample's source, or a free one, is none of another source
row_own : (row : Row) (x : FlowEntry) → (is_of (source_of x) row ≡ true) ⊎ (is_free row ≡ true) → (updated row x).answer ≡ Err OtherSource → ⊥
unfolding updated same_source
row_own row x = go row.used (same (row_source row) (source_of x)) (eqb (sequence_step row x) 0) (leb (2 ^ 31) (sequence_step row x))
  where
    go : (a b c e : Bool) → (a && b ≡ true) ⊎ (not a ≡ true)
        → (cond a (cond b (cond c (answered (Err Repeated) row) (cond e (answered (Err Backward) row) (answered (Ok tt) (advanced row x)))) (answered (Err OtherSource) row)) (answered (Ok tt) (opened x))).answer ≡ Err OtherSource → ⊥
    go false b c e h q = cc
    go true false c e (inl h) q = false≢true h
    go true false c e (inr h) q = false≢true h
    go true true true e h q = cc
    go true true false true h q = cc
    go true true false false h q = cc

-- so the table never answers so
pub never_other : (rows : List Row) (x : FlowEntry) → (entered rows x).answer ≡ Err OtherSource → ⊥
unfolding entered
never_other rows x = go (ltb (row_for x rows) (length rows)) refl
  where
    own : (b : Bool) → ltb (first_row (is_of (source_of x)) rows) (length rows) ≡ b
        → cond b (first_row (is_of (source_of x)) rows) (first_row is_free rows) < length rows
        → (is_of (source_of x) (get_or rows (cond b (first_row (is_of (source_of x)) rows) (first_row is_free rows)) free_row) ≡ true)
        ⊎ (is_free (get_or rows (cond b (first_row (is_of (source_of x)) rows) (first_row is_free rows)) free_row) ≡ true)
    own true e h = inl (passes_at_first (is_of (source_of x)) rows free_row h)
    own false e h = inr (passes_at_first is_free rows free_row h)

    go : (b : Bool) → ltb (row_for x rows) (length rows) ≡ b
        → (cond b (with_row rows (row_for x rows) (updated (get_or rows (row_for x rows) free_row) x)) (record { answer = Err TableFull; rows = rows })).answer ≡ Err OtherSource → ⊥
    go true e q = row_own (get_or rows (row_for x rows) free_row) x (own (ltb (first_row (is_of (source_of x)) rows) (length rows)) refl (ltb-true _ _ e)) q
    go false e q = cc
