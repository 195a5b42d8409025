-- What a run of samples leaves of a source that has no row when it begins. Assumes nothing.
use Rattle.std.proofs.Common.{◌≡◌, ℕ, ◌+◌, ◌%◌, ◌^◌, ◌<◌, ◌≤◌, Bool, true, false, cond, ◌&&◌, ltb, ◌⊎◌, ◌≢◌, Ok, Err, List, [], ◌∷◌, ◌++◌, length, get_or, set, sym, refl, ap, ◌∙◌, subst, inl, inr, arith, length-set, get_or-set_other, get_or-set_same, ltb-false, ltb-true, le-ltb, lt-ltb}
use Rattle.xdr.proofs.Tests.{and_parts}
use Rattle.ledger.specs.declared.FlowEntry.{FlowEntry}
use Rattle.ledger.specs.declared.Row.{Row}
use Rattle.ledger.specs.declared.EntryRefusal.TheVariants.{TableFull}
use Rattle.ledger.specs.Ledger.{RowEntered}
use Rattle.ledger.specs.Ledger.{TableEntered}
use Rattle.ledger.specs.Ledger.{entry_number, Source, same, source_of, row_source, same_source, opened, advanced, later, updated, is_of, is_free, first_row, free_row, entered}
use Rattle.std.proofs.lemmas.List.Sums.{position_or_len_is, passes_at_first}
use Rattle.std.proofs.lemmas.List.Folds.{position_or_len-set}
use Rattle.ledger.specs.Runs.{table_after, accepts, accepted_later, lost_sum, pool_sum, Lowest, AllOthers, NoRow, NoSample, LowestFree, OpensInside, RefusedInside, FirstOf}
use Rattle.ledger.proofs.Updates.{opens, of_source}
use Rattle.ledger.proofs.Sameness.{same_self}
use Rattle.ledger.proofs.Tables.{first_none, none_first}
use Rattle.ledger.proofs.Answers.{full_exactly, table_kept, used_told}
use Rattle.ledger.proofs.Theorems.{unused, later_source, later_used, own_other, free_other, stepped, totals_grow}

-- ---- a source without a row keeps none while samples of other sources are entered

-- a row that is and stays another's is brought up to date
none_set : (s : Source) (rows : List Row) (j : ℕ) (r : Row) → first_row (is_of s) rows ≡ length rows
    → (is_of s (get_or rows j free_row) ≡ false) × (is_of s r ≡ false) → first_row (is_of s) (set rows j r) ≡ length (set rows j r)
none_set s rows j r h o = position_or_len-set (is_of s) rows j r free_row (o.1 ∙ sym o.0) ∙ h ∙ sym (length-set rows j r)

none_entered : (s : Source) (rows : List Row) (x : FlowEntry) → first_row (is_of s) rows ≡ length rows → same s (source_of x) ≡ false
    → first_row (is_of s) (entered rows x).rows ≡ length (entered rows x).rows
unfolding entered
none_entered s rows x h e = go (ltb (first_row (is_of (source_of x)) rows) (length rows)) refl (ltb (first_row is_free rows) (length rows)) refl
  where
    go : (a : Bool) → ltb (first_row (is_of (source_of x)) rows) (length rows) ≡ a → (b : Bool) → ltb (first_row is_free rows) (length rows) ≡ b
        → first_row (is_of s) (entered rows x).rows ≡ length (entered rows x).rows
    go true f b g =
        let j = first_row (is_of (source_of x)) rows in
        let r = (updated (get_or rows j free_row) x).row in
        rw (f, f) (none_set s rows j r h (own_other s x e (get_or rows j free_row) (passes_at_first (is_of (source_of x)) rows free_row (ltb-true _ _ f))))
    go false f true g =
        let j = first_row is_free rows in
        let r = (updated (get_or rows j free_row) x).row in
        rw (f, g) (none_set s rows j r h (free_other s x e (get_or rows j free_row) (passes_at_first is_free rows free_row (ltb-true _ _ g))))
    go false f false g = rw (f, g) h

none_after : (s : Source) (xs : List FlowEntry) (rows : List Row) → first_row (is_of s) rows ≡ length rows → NoSample s xs
    → first_row (is_of s) (table_after rows xs) ≡ length (table_after rows xs)
none_after s [] rows h o = h
none_after s (x ∷ xs) rows h o = none_after s xs (entered rows x).rows (none_entered s rows x h o.0) o.1

-- a run in two parts
after_parts : (rows : List Row) (xs ys : List FlowEntry) → table_after rows (xs ++ ys) ≡ table_after (table_after rows xs) ys
after_parts rows [] ys = refl
after_parts rows (x ∷ xs) ys = after_parts (entered rows x).rows xs ys

-- ---- the first sample of a source opens the lowest free row

-- the only row that passes a test is the lowest that does
first_only : (p : Row → Bool) (rows : List Row) (i : ℕ) (r : Row) → first_row p rows ≡ length rows → i < length rows → p r ≡ true → first_row p (set rows i r) ≡ i
first_only p rows i r h l e =
    position_or_len_is p (set rows i r) i free_row (rw length-set (omega arith))
    (λ k m. let n : k ≢ i = omega arith in rw get_or-set_other (first_none p rows (omega arith) k (omega arith)))
    (λ m. rw get_or-set_same e)

module _ (rows : List Row) (x : FlowEntry) (none : first_row (is_of (source_of x)) rows ≡ length rows) (i : ℕ) (l : LowestFree rows i) where
  -- the table behind it
  opens_row : entered rows x ≡ record { answer = Ok tt; rows = set rows i (opened x) }
  unfolding entered
  opens_row =
      let over : length rows ≤ first_row (is_of (source_of x)) rows = omega arith in
      let past : ltb (first_row (is_of (source_of x)) rows) (length rows) ≡ false = le-ltb _ _ over in
      let first = l.first in
      let there : first_row is_free rows < length rows = rw first l.inside in
      let free : (get_or rows i free_row).used ≡ false = unused _ (rw first at (passes_at_first is_free rows free_row there)) in
      let low : ltb i (length rows) ≡ true = lt-ltb _ _ l.inside in
      rw (past, first, low, sym (opens (get_or rows i free_row) x free))

  row_lowest : Lowest (source_of x) (set rows i (opened x)) i
  row_lowest =
      record {
        first = first_only (is_of (source_of x)) rows i (opened x) none l.inside (same_self (source_of x));
        inside = rw (length-set rows i (opened x)) l.inside;
      }

-- where no row is free, every row belongs to another source
pub no_row_free : (rows : List Row) (x : FlowEntry) → length rows ≤ first_row (is_of (source_of x)) rows → length rows ≤ first_row is_free rows → AllOthers rows x
no_row_free rows x past h i l =
    let u : (get_or rows i free_row).used ≡ true = used_told _ (first_none is_free rows h i l) in
    (u, sym (ap (λ (b : Bool). b && same (row_source (get_or rows i free_row)) (source_of x)) u) ∙ first_none (is_of (source_of x)) rows past i l)

-- a full table stays
full_stays : (rows : List Row) (x : FlowEntry) → (entered rows x).answer ≡ Err TableFull → (entered rows x).rows ≡ rows
full_stays rows x f = go (table_kept rows x)
  where
    go : ((entered rows x).answer ≡ Ok tt) ⊎ ((entered rows x).rows ≡ rows) → (entered rows x).rows ≡ rows
    go (inl e) = let z : ◌≡◌ {A = ℕ} 0 40 = ap entry_number (sym e ∙ f) in absurd (omega arith)
    go (inr e) = e

-- ---- a table that is full of other sources stays so: rows are not retired

-- no row is free, and none is the sample's source's
record Full (s : Source) (rows : List Row) : Type 0 where
  used : first_row is_free rows ≡ length rows
  others : first_row (is_of s) rows ≡ length rows

-- a row in use takes a sample
full_set : (s : Source) (rows : List Row) (j : ℕ) (y : FlowEntry) → Full s rows → is_of (source_of y) (get_or rows j free_row) ≡ true
    → Full s (set rows j (updated (get_or rows j free_row) y).row)
unfolding same_source
full_set s rows j y h o =
    let row = get_or rows j free_row in
    let r = (updated row y).row in
    let p = and_parts row.used (same (row_source row) (source_of y)) o in
    let e : r ≡ (later row y).row = ap (λ (u : RowEntered). u.row) (sym (of_source row y p.0 p.1)) in
    record {
      used = position_or_len-set is_free rows j r free_row (ap is_free e ∙ later_used row y p.0) ∙ h.used ∙ sym (length-set rows j r);
      others = position_or_len-set (is_of s) rows j r free_row (ap (is_of s) e ∙ later_source s row y p.0) ∙ h.others ∙ sym (length-set rows j r);
    }

full_entered : (s : Source) (rows : List Row) (y : FlowEntry) → Full s rows → Full s (entered rows y).rows
unfolding entered
full_entered s rows y h = go (ltb (first_row (is_of (source_of y)) rows) (length rows)) refl
  where
    go : (a : Bool) → ltb (first_row (is_of (source_of y)) rows) (length rows) ≡ a → Full s (entered rows y).rows
    go true f = rw (f, f) (full_set s rows (first_row (is_of (source_of y)) rows) y h (passes_at_first (is_of (source_of y)) rows free_row (ltb-true _ _ f)))
    go false f =
        let used = h.used in
        let past : length rows ≤ first_row is_free rows = omega arith in
        rw (f, le-ltb _ _ past) h

full_after : (s : Source) (xs : List FlowEntry) (rows : List Row) → Full s rows → Full s (table_after rows xs)
full_after s [] rows h = h
full_after s (x ∷ xs) rows h = full_after s xs (entered rows x).rows (full_entered s rows x h)

others_after : (xs : List FlowEntry) (rows : List Row) (x : FlowEntry) → AllOthers rows x → AllOthers (table_after rows xs) x
others_after xs rows x h =
    let now : Full (source_of x) rows = record {
      used = none_first is_free rows (λ i l. rw (h i l).0);
      others = none_first (is_of (source_of x)) rows (λ i l. rw (h i l).0 (h i l).1);
    } in
    let end = full_after (source_of x) xs rows now in
    let used = end.used in
    let others = end.others in
    let a : length (table_after rows xs) ≤ first_row (is_of (source_of x)) (table_after rows xs) = omega arith in
    let b : length (table_after rows xs) ≤ first_row is_free (table_after rows xs) = omega arith in
    no_row_free (table_after rows xs) x a b

-- ---- totals below 2 ^ 64 stay below

abbrev Small : Row → Type 0
Small row = (row.lost_total < 2 ^ 64) × (row.pool_total < 2 ^ 64)

small_next : (b : Bool) (row r : Row) (x : FlowEntry) → r ≡ cond b (advanced row x) row → Small row → Small r
small_next true row r x e h = subst Small (sym e) (omega arith, omega arith)
small_next false row r x e h = subst Small (sym e) h

small_after : (s : Source) (xs : List FlowEntry) (rows : List Row) (i : ℕ) → Lowest s rows i → Small (get_or rows i free_row) → Small (get_or (table_after rows xs) i free_row)
small_after s [] rows i l h = h
small_after s (x ∷ xs) rows i l h =
    let p = stepped s rows i l x in
    small_after s xs (entered rows x).rows i p.lowest
    (small_next (accepts s (get_or rows i free_row).sequence_number x) (get_or rows i free_row) (get_or (entered rows x).rows i free_row) x p.row_is h)

-- a total that begins with 0
small_is : (n m : ℕ) → n < 2 ^ 64 → n % 2 ^ 64 ≡ (0 + m) % 2 ^ 64 → n ≡ m % 2 ^ 64
small_is n m h e = omega arith

-- ---- a run

module _ (rows : List Row) (before : List FlowEntry) (x : FlowEntry) (behind : List FlowEntry) (none : first_row (is_of (source_of x)) (table_after rows before) ≡ length (table_after rows before)) where
  opens_inside : (i : ℕ) → LowestFree (table_after rows before) i → OpensInside rows before x behind i
  opens_inside i l =
      let then : List Row = table_after rows before in
      let next : List Row = set then i (opened x) in
      let e : entered then x ≡ record { answer = Ok tt; rows = next } = opens_row then x none i l in
      let low : Lowest (source_of x) next i = row_lowest then x none i l in
      let g = totals_grow (source_of x) behind next i low in
      let row : get_or next i free_row ≡ opened x = get_or-set_same then i (opened x) free_row l.inside in
      let end : table_after rows (before ++ (x ∷ behind)) ≡ table_after next behind =
      after_parts rows before (x ∷ behind) ∙ ap (λ (t : TableEntered). table_after t.rows behind) e in
      let zeros : Small (opened x) = (omega arith, omega arith) in
      let small : Small (get_or (table_after next behind) i free_row) = small_after (source_of x) behind next i low (subst Small (sym row) zeros) in
      record {
        answer = ap (λ (t : TableEntered). t.answer) e;
        opens = ap (λ (t : TableEntered). get_or t.rows i free_row) e ∙ row;
        lowest = subst (λ (t : List Row). Lowest (source_of x) t i) (sym end) g.lowest;
        lost =
            ap (λ (t : List Row). (get_or t i free_row).lost_total) end
            ∙ small_is _ _ small.0
            (g.lost
            ∙ ap (λ (r : Row). (r.lost_total + lost_sum r.sequence_number (accepted_later (source_of x) r.sequence_number behind)) % 2 ^ 64) row);
        pool =
            ap (λ (t : List Row). (get_or t i free_row).pool_total) end
            ∙ small_is _ _ small.1
            (g.pool
            ∙ ap (λ (r : Row). (r.pool_total + pool_sum r.sample_pool (accepted_later (source_of x) r.sequence_number behind)) % 2 ^ 64) row);
      }

  refused_inside : AllOthers (table_after rows before) x → RefusedInside rows before x behind
  refused_inside h =
      let full : (entered (table_after rows before) x).answer ≡ Err TableFull = (full_exactly (table_after rows before) x).1 h in
      record {
        answer = full;
        stays =
            after_parts rows before (x ∷ behind)
            ∙ ap (λ (t : List Row). table_after t behind) (full_stays (table_after rows before) x full)
            ∙ sym (after_parts rows before behind);
        full =
            subst (λ (t : List Row). AllOthers t x) (sym (after_parts rows before (x ∷ behind)))
            (others_after (x ∷ behind) (table_after rows before) x h);
      }

  free_or_full : LowestFree (table_after rows before) (first_row is_free (table_after rows before)) ⊎ AllOthers (table_after rows before) x
  free_or_full = go (ltb (first_row is_free (table_after rows before)) (length (table_after rows before))) refl
    where
      go : (b : Bool) → ltb (first_row is_free (table_after rows before)) (length (table_after rows before)) ≡ b
          → LowestFree (table_after rows before) (first_row is_free (table_after rows before)) ⊎ AllOthers (table_after rows before) x
      go true e = inl (record { first = refl; inside = ltb-true _ _ e })
      go false e =
          let past : length (table_after rows before) ≤ first_row (is_of (source_of x)) (table_after rows before) = omega arith in
          inr (no_row_free (table_after rows before) x past (ltb-false _ _ e))

-- over any run of samples on any table: the first sample of a source that has no row opens the lowest free one, and the totals are the sums from there on;
-- or every row belongs to another source, and it changes nothing
pub first_sample : (rows : List Row) (before : List FlowEntry) (x : FlowEntry) (behind : List FlowEntry) → NoRow (source_of x) rows → NoSample (source_of x) before
    → FirstOf rows before x behind
first_sample rows before x behind n o =
    let none = none_after (source_of x) before rows (none_first (is_of (source_of x)) rows n) o in
    record {
      opens = opens_inside rows before x behind none;
      refused = refused_inside rows before x behind none;
      either = free_or_full rows before x behind none;
    }
