-- What a run of samples does to the totals of a source, whatever the table, the other sources and the refused samples are. Assumes nothing.
use Rattle.std.proofs.Common.{◌≡◌, ℕ, zero, suc, ◌+◌, ◌-◌, ◌%◌, ◌^◌, ◌<◌, ◌≤◌, Bool, true, false, cond, not, ◌&&◌, eqb, ltb, leb, ◌≢◌, Ok, Err, List, [], ◌∷◌, length, get_or, set, sym, refl, ap, ◌∙◌, true≢false, add-zero, arith, length-set, get_or-set_other, get_or-set_same, ltb-true, le-ltb, lt-ltb, eqb-true, leb-false, leb-true}
use borrow.Author.Tests.{eqb-false}
use Rattle.std.proofs.lemmas.List.Sums.{passes_at_first}
use Rattle.std.proofs.lemmas.List.Folds.{position_or_len-set}
use Rattle.xdr.proofs.Tests.{and_parts}
use Rattle.ledger.specs.declared.FlowEntry.{FlowEntry}
use Rattle.ledger.specs.declared.Row.{Row}
use Rattle.ledger.specs.declared.EntryRefusal.TheVariants.{Repeated, Backward}
use Rattle.ledger.specs.Ledger.{RowEntered}
use Rattle.ledger.specs.Ledger.{Source, same, source_of, row_source, same_source, difference, sequence_step, answered, advanced, later, updated, is_of, is_free, first_row, free_row, entered}
use Rattle.ledger.specs.Runs.{accepts, accepted_later, lost_sum, pool_sum, Lowest, Grown}
use Rattle.ledger.proofs.Updates.{opens, of_source}
use Rattle.ledger.proofs.Sameness.{same_either, same_back}

-- ---- the lowest row that passes a test

-- tests that agree have the same lowest row
first_same : (p q : Row → Bool) → ((r : Row) → p r ≡ q r) → (rows : List Row) → first_row p rows ≡ first_row q rows
first_same p q e [] = refl
first_same p q e (row ∷ rows) = rw (e row, first_same p q e rows)

-- ---- one sample

nonzero : (n : ℕ) → (n ≡ 0 → ⊥) → 0 < n
nonzero zero h = absurd (h refl)
nonzero (suc n) h = omega arith

pub unused : (b : Bool) → not b ≡ true → b ≡ false
unused true h = sym h
unused false h = refl

-- whether a step is taken: it is not 0, and below 2 ^ 31
abbrev taken : ℕ → Bool
taken n = ltb 0 n && ltb n (2 ^ 31)

-- the row behind a later sample
later_row : (row : Row) (x : FlowEntry) → (later row x).row ≡ cond (taken (sequence_step row x)) (advanced row x) row
later_row row x = go (sequence_step row x) (eqb (sequence_step row x) 0) (leb (2 ^ 31) (sequence_step row x)) refl refl
  where
    go : (n : ℕ) (a b : Bool) → eqb n 0 ≡ a → leb (2 ^ 31) n ≡ b
        → (cond a (answered (Err Repeated) row) (cond b (answered (Err Backward) row) (answered (Ok tt) (advanced row x)))).row ≡ cond (taken n) (advanced row x) row
    go n true b e f = let z : n ≤ 0 = let y = eqb-true n 0 e in omega arith in rw (le-ltb 0 n z)
    go n false true e f =
        let z : 0 < n = let y = nonzero n (eqb-false n 0 e) in y in
        let h : 2 ^ 31 ≤ n = leb-true (2 ^ 31) n f in
        rw (lt-ltb 0 n z, le-ltb n (2 ^ 31) h)
    go n false false e f =
        let z : 0 < n = nonzero n (eqb-false n 0 e) in
        let h : n < 2 ^ 31 = leb-false (2 ^ 31) n f in
        rw (lt-ltb 0 n z, lt-ltb n (2 ^ 31) h)

-- it belongs to the source that the row belonged to
pub later_source : (s : Source) (row : Row) (x : FlowEntry) → row.used ≡ true → is_of s (later row x).row ≡ is_of s row
later_source s row x u = rw (later_row row x) (go (taken (sequence_step row x)))
  where
    go : (b : Bool) → is_of s (cond b (advanced row x) row) ≡ is_of s row
    go true = rw u
    go false = refl

-- and is in use as that was
pub later_used : (row : Row) (x : FlowEntry) → row.used ≡ true → is_free (later row x).row ≡ is_free row
later_used row x u = rw (later_row row x) (go (taken (sequence_step row x)))
  where
    go : (b : Bool) → is_free (cond b (advanced row x) row) ≡ is_free row
    go true = rw u
    go false = refl

module _ (s : Source) (x : FlowEntry) (other : same s (source_of x) ≡ false) where
  -- a row of another source that takes the sample stays another's
  pub own_other : (r : Row) → is_of (source_of x) r ≡ true → (is_of s r ≡ false) × (is_of s (updated r x).row ≡ false)
  unfolding same_source
  own_other r e =
      let p = and_parts r.used (same (row_source r) (source_of x)) e in
      let n : same (row_source r) s ≡ false = same_back (row_source r) s ∙ same_either (row_source r) (source_of x) s p.1 ∙ other in
      let not_own : is_of s r ≡ false = rw (p.0, n) in
      (not_own, ap (λ (u : RowEntered). is_of s u.row) (sym (of_source r x p.0 p.1)) ∙ later_source s r x p.0 ∙ not_own)

  -- so does a free row that it opens
  pub free_other : (r : Row) → is_free r ≡ true → (is_of s r ≡ false) × (is_of s (updated r x).row ≡ false)
  free_other r e =
      let u : r.used ≡ false = unused r.used e in
      (rw u, ap (λ (w : RowEntered). is_of s w.row) (sym (opens r x u)) ∙ same_back (source_of x) s ∙ other)

-- ---- a table

-- what one sample leaves of a source's lowest row: it is still that, and has advanced exactly where the sample is an accepted later one
pub record Stepped (s : Source) (rows : List Row) (i : ℕ) (x : FlowEntry) : Type 0 where
  pub lowest : Lowest s (entered rows x).rows i
  pub row_is : get_or (entered rows x).rows i free_row
      ≡ cond (accepts s (get_or rows i free_row).sequence_number x) (advanced (get_or rows i free_row) x) (get_or rows i free_row)

-- the lowest row of a source after another row, or that row, took another that belongs to the source exactly where the old one did
lowest_set : (s : Source) (rows : List Row) (i j : ℕ) (r : Row) → Lowest s rows i → is_of s r ≡ is_of s (get_or rows j free_row) → Lowest s (set rows j r) i
lowest_set s rows i j r l e = record { first = position_or_len-set (is_of s) rows j r free_row e ∙ l.first; inside = rw (length-set rows j r) l.inside }

module _ (s : Source) (rows : List Row) (i : ℕ) (l : Lowest s rows i) (x : FlowEntry) where
  passes : is_of s (get_or rows i free_row) ≡ true
  passes =
      let e = l.first in
      let h : first_row (is_of s) rows < length rows = rw e l.inside in
      rw e at (passes_at_first (is_of s) rows free_row h)

  -- a sample of the source
  step_own : same s (source_of x) ≡ true → Stepped s rows i x
  unfolding entered same_source
  step_own e =
      let row = get_or rows i free_row in
      let p = and_parts row.used (same (row_source row) s) passes in
      let mine : same_source row x ≡ true = sym (same_either s (source_of x) (row_source row) e) ∙ p.1 in
      let at : first_row (is_of (source_of x)) rows ≡ i =
      first_same (is_of (source_of x)) (is_of s) (λ r. ap (λ (b : Bool). r.used && b) (sym (same_either s (source_of x) (row_source r) e))) rows ∙ l.first in
      let low : ltb i (length rows) ≡ true = lt-ltb i (length rows) l.inside in
      let after : (entered rows x).rows ≡ set rows i (later row x).row = rw (at, low, low) (ap (λ (u : RowEntered). set rows i u.row) (sym (of_source row x p.0 mine))) in
      record {
        lowest = rw after (lowest_set s rows i i (later row x).row l (later_source s row x p.0));
        row_is = ap (λ (t : List Row). get_or t i free_row) after ∙ get_or-set_same rows i (later row x).row free_row l.inside ∙ rw e (later_row row x);
      }

  -- a row that is and stays another's is brought up to date
  step_elsewhere : same s (source_of x) ≡ false → (j : ℕ) (r : Row) → (is_of s (get_or rows j free_row) ≡ false) × (is_of s r ≡ false)
      → (entered rows x).rows ≡ set rows j r → Stepped s rows i x
  step_elsewhere e j r o after =
      let apart : i ≢ j = λ q. true≢false (sym passes ∙ ap (λ (k : ℕ). is_of s (get_or rows k free_row)) q ∙ o.0) in
      record {
        lowest = rw after (lowest_set s rows i j r l (o.1 ∙ sym o.0));
        row_is = ap (λ (t : List Row). get_or t i free_row) after ∙ get_or-set_other rows j i r free_row apart ∙ rw e;
      }

  -- a sample of another source
  step_other : same s (source_of x) ≡ false → Stepped s rows i x
  unfolding entered
  step_other e = go (ltb (first_row (is_of (source_of x)) rows) (length rows)) refl (ltb (first_row is_free rows) (length rows)) refl
    where
      go : (a : Bool) → ltb (first_row (is_of (source_of x)) rows) (length rows) ≡ a → (b : Bool) → ltb (first_row is_free rows) (length rows) ≡ b → Stepped s rows i x
      go true f b g =
          let j = first_row (is_of (source_of x)) rows in
          let r = (updated (get_or rows j free_row) x).row in
          step_elsewhere e j r (own_other s x e (get_or rows j free_row) (passes_at_first (is_of (source_of x)) rows free_row (ltb-true _ _ f))) (rw (f, f))
      go false f true g =
          let j = first_row is_free rows in
          let r = (updated (get_or rows j free_row) x).row in
          step_elsewhere e j r (free_other s x e (get_or rows j free_row) (passes_at_first is_free rows free_row (ltb-true _ _ g))) (rw (f, g))
      go false f false g = record { lowest = rw (f, g) l; row_is = rw (f, g, e) }

  pub stepped : Stepped s rows i x
  stepped = go (same s (source_of x)) refl
    where
      go : (b : Bool) → same s (source_of x) ≡ b → Stepped s rows i x
      go true e = step_own e
      go false e = step_other e

-- ---- a run

-- totals that are taken modulo 2 ^ 64 at each step are the sum modulo 2 ^ 64
sums : (total more rest : ℕ) → ((total + more) % 2 ^ 64 + rest) % 2 ^ 64 ≡ (total + (more + rest)) % 2 ^ 64
sums total more rest = omega arith

module _ (s : Source) (row : Row) (x : FlowEntry) (xs : List FlowEntry) where
  -- the sums behind a row that the next sample advanced, or left as it was
  lost_grows : (b : Bool) (r : Row) → r ≡ cond b (advanced row x) row
      → (r.lost_total + lost_sum r.sequence_number (accepted_later s r.sequence_number xs)) % 2 ^ 64
      ≡ (row.lost_total + lost_sum row.sequence_number (cond b (x ∷ accepted_later s x.words.sequence_number xs) (accepted_later s row.sequence_number xs))) % 2 ^ 64
  lost_grows true r e = rw e (sums row.lost_total (sequence_step row x - 1) (lost_sum x.words.sequence_number (accepted_later s x.words.sequence_number xs)))
  lost_grows false r e = rw e

  pool_grows : (b : Bool) (r : Row) → r ≡ cond b (advanced row x) row
      → (r.pool_total + pool_sum r.sample_pool (accepted_later s r.sequence_number xs)) % 2 ^ 64
      ≡ (row.pool_total + pool_sum row.sample_pool (cond b (x ∷ accepted_later s x.words.sequence_number xs) (accepted_later s row.sequence_number xs))) % 2 ^ 64
  pool_grows true r e =
      rw e
      (sums row.pool_total (difference x.words.sample_pool row.sample_pool)
      (pool_sum x.words.sample_pool (accepted_later s x.words.sequence_number xs)))
  pool_grows false r e = rw e

-- over any run of samples on any table: the totals of a source's lowest row grow by the sums over its accepted later samples, modulo 2 ^ 64
pub totals_grow : (s : Source) (xs : List FlowEntry) (rows : List Row) (i : ℕ) → Lowest s rows i → Grown s rows i xs
totals_grow s [] rows i l = record { lowest = l; lost = rw add-zero; pool = rw add-zero }
totals_grow s (x ∷ xs) rows i l =
    let row = get_or rows i free_row in
    let p = stepped s rows i l x in
    let g = totals_grow s xs (entered rows x).rows i p.lowest in
    record {
      lowest = g.lowest;
      lost = g.lost ∙ lost_grows s row x xs (accepts s row.sequence_number x) (get_or (entered rows x).rows i free_row) p.row_is;
      pool = g.pool ∙ pool_grows s row x xs (accepts s row.sequence_number x) (get_or (entered rows x).rows i free_row) p.row_is;
    }
