-- The row of a table that a sample goes to, and the table afterwards. Assumes nothing.
use Rattle.std.proofs.Common.{◌≡◌, ℕ, ◌<◌, ◌≤◌, Bool, true, false, cond, ltb, Option, Some, None, Err, List, length, get_or, sym, refl, ◌∙◌, subst, arith, ltb-false, ltb-true, le-ltb, lt-ltb}
use Rattle.std.specs.Option.{option_or}
use Rattle.std.specs.List.{position}
use Rattle.std.proofs.lemmas.List.Sums.{position_or_len_is, fails_before_first}
use Rattle.ledger.specs.declared.FlowEntry.{FlowEntry}
use Rattle.ledger.specs.declared.Row.{Row}
use Rattle.ledger.specs.declared.EntryRefusal.TheVariants.{TableFull}
use Rattle.ledger.specs.Ledger.{source_of, updated, is_of, is_free, first_row, row_for, free_row, with_row, entered}

-- ---- the lowest row that passes a test

-- past all rows, none passes
pub first_none : (p : Row → Bool) (rows : List Row) → length rows ≤ first_row p rows → (i : ℕ) → i < length rows → p (get_or rows i free_row) ≡ false
first_none p rows h i l = fails_before_first p rows i free_row (omega arith)

-- and where none passes, it is past all rows
pub none_first : (p : Row → Bool) (rows : List Row) → ((i : ℕ) → i < length rows → p (get_or rows i free_row) ≡ false) → first_row p rows ≡ length rows
none_first p rows h = position_or_len_is p rows (length rows) free_row (omega arith) h (λ l. absurd (omega arith))

-- ---- the table

module _ (rows : List Row) (x : FlowEntry) where
  -- what a search for the source's lowest row, or else the lowest free one, finds: none, or the sample's row
  abbrev pub Searched : Option ℕ → Type 0
  Searched None = length rows ≤ row_for x rows
  Searched (Some i) = (row_for x rows ≡ i) × (i < length rows)

  pub searched : (r found : Option ℕ) → r ≡ option_or (position (is_of (source_of x)) rows) (position is_free rows) → r ≡ found → Searched found
  searched r found e f =
      subst Searched (sym e ∙ f)
      (go (ltb (first_row (is_of (source_of x)) rows) (length rows)) refl (ltb (first_row is_free rows) (length rows)) refl)
    where
      go : (a : Bool) → ltb (first_row (is_of (source_of x)) rows) (length rows) ≡ a → (b : Bool) → ltb (first_row is_free rows) (length rows) ≡ b
          → Searched (option_or (cond a (Some (first_row (is_of (source_of x)) rows)) None) (cond b (Some (first_row is_free rows)) None))
      go true e b f = (rw e, ltb-true _ _ e)
      go false e true f = (rw e, ltb-true _ _ f)
      go false e false f = rw e (ltb-false _ _ f)

  -- a sample that has no row
  pub no_row : length rows ≤ row_for x rows → entered rows x ≡ record { answer = Err TableFull; rows = rows }
  unfolding entered
  no_row h = rw (le-ltb (row_for x rows) (length rows) h)

  -- a sample that has one is entered there by the rules of one row
  pub one_row : (i : ℕ) → (row_for x rows ≡ i) × (i < length rows) → entered rows x ≡ with_row rows i (updated (get_or rows i free_row) x)
  unfolding entered
  one_row i h = rw (h.0, lt-ltb i (length rows) h.1)
