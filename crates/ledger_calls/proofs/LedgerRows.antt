-- The rows that the table's numbers are after an entry. Assumes nothing.
use Prim.Native.Nat.{ℕ, zero, suc, ◌+◌, ◌*◌, ◌%◌, ◌^◌, ◌≤◌, ◌<◌}
use native.Mathlib.Omega.{arith}
use mathlib.Core.Path.{◌≡◌, refl, ap, sym, subst, ◌∙◌}
use mathlib.Core.Bool.{Bool, true, false, cond, not}
use mathlib.Core.List.{List, ◌∷◌, ◌++◌, append_assoc}
use lib.ListN.{length, get_or, set, take, drop, length-drop}
use lib.Seq.{drop-cons, drop-drop, take-add, get_or-set_same, set-get_or}
use lib.Dec.{leb, ltb, eqb}
use borrow.Author.Tests.{ltb-true, ltb-false}
use Rattle.xdr.specs.Writes.{stored, Afterwards, afterwards}
use Rattle.ledger.proofs.Tables.{no_row, one_row}
use Rattle.ledger.specs.declared.FlowEntry.{FlowEntry}
use Rattle.ledger.specs.declared.Row.{Row}
use Rattle.ledger.specs.declared.EntryRefusal.TheVariants.{TableFull, Repeated, Backward, OtherSource}
use Rattle.std.proofs.Common.{Ok, Err}
use Rattle.ledger.specs.Ledger.{RowEntered}
use Rattle.ledger.specs.Ledger.{TableEntered}
use Rattle.ledger.specs.Ledger.{free_row, same_source, sequence_step, opened, advanced, answered, updated, row_for, with_row, entered}
use Rattle.ledger_calls.specs.LedgerTable.{row_in, rows_in, row_numbers, numbers_after, entered_table, EntryWords, SampleWords}
use Rattle.ledger_calls.proofs.LedgerTables.{rows_length, row_at, table_long}

-- ---- a row from its numbers

-- every word of a row is below 2 ^ 32
abbrev RowWords : Row → Type 0
RowWords row = EntryWords row.agent row.source_id row.sequence_number row.sample_pool

low : (n : ℕ) → n % 2 ^ 32 < 2 ^ 32
low n = omega arith

kept : (n : ℕ) → n < 2 ^ 32 → n % 2 ^ 32 ≡ n
kept n h = omega arith

used_back : (u : Bool) → not (eqb (cond u 1 0) 0) ≡ u
used_back true = refl
used_back false = refl

row_in_words : (ns : List ℕ) → RowWords (row_in ns)
row_in_words ns =
    record {
      agent = record { kind = low (get_or ns 1 0); a = low (get_or ns 2 0); b = low (get_or ns 3 0); c = low (get_or ns 4 0); d = low (get_or ns 5 0) };
      source = low (get_or ns 6 0);
      sequence = low (get_or ns 7 0);
      pool = low (get_or ns 8 0);
    }

-- numbers that begin with a row's are that row
row_back : (row : Row) (rest : List ℕ) → RowWords row → row_in (row_numbers row ++ rest) ≡ row
row_back row rest w =
    rw (
      used_back row.used,
      kept row.agent.kind w.agent.kind,
      kept row.agent.octets.a w.agent.a,
      kept row.agent.octets.b w.agent.b,
      kept row.agent.octets.c w.agent.c,
      kept row.agent.octets.d w.agent.d,
      kept row.source_id w.source,
      kept row.sequence_number w.sequence,
      kept row.sample_pool w.pool,
    ) refl

-- ---- the rows from the table's numbers

-- eleven numbers before others
abbrev eleven : List ℕ → List ℕ → List ℕ
eleven ns ms =
    get_or ns 0 0 ∷ get_or ns 1 0 ∷ get_or ns 2 0 ∷ get_or ns 3 0 ∷ get_or ns 4 0 ∷ get_or ns 5 0 ∷ get_or ns 6 0 ∷ get_or ns 7 0 ∷ get_or ns 8 0 ∷ get_or ns 9 0 ∷ get_or ns 10 0 ∷ ms

eleven_first : (ns : List ℕ) → 11 ≤ length ns → ns ≡ eleven ns (drop 11 ns)
eleven_first ns h =
    drop-cons ns 0 0 (omega arith)
    ∙ ap (λ (l : List ℕ). get_or ns 0 0 ∷ l) (drop-cons ns 1 0 (omega arith)
    ∙ ap (λ (l : List ℕ). get_or ns 1 0 ∷ l) (drop-cons ns 2 0 (omega arith)
    ∙ ap (λ (l : List ℕ). get_or ns 2 0 ∷ l) (drop-cons ns 3 0 (omega arith)
    ∙ ap (λ (l : List ℕ). get_or ns 3 0 ∷ l) (drop-cons ns 4 0 (omega arith)
    ∙ ap (λ (l : List ℕ). get_or ns 4 0 ∷ l) (drop-cons ns 5 0 (omega arith)
    ∙ ap (λ (l : List ℕ). get_or ns 5 0 ∷ l) (drop-cons ns 6 0 (omega arith)
    ∙ ap (λ (l : List ℕ). get_or ns 6 0 ∷ l) (drop-cons ns 7 0 (omega arith)
    ∙ ap (λ (l : List ℕ). get_or ns 7 0 ∷ l) (drop-cons ns 8 0 (omega arith)
    ∙ ap (λ (l : List ℕ). get_or ns 8 0 ∷ l) (drop-cons ns 9 0 (omega arith)
    ∙ ap (λ (l : List ℕ). get_or ns 9 0 ∷ l) (drop-cons ns 10 0 (omega arith)))))))))))

-- a store behind the first row leaves that row
stored_behind : (ns : List ℕ) (at : ℕ) (xs : List ℕ) → 11 ≤ length ns → stored ns (11 + at) xs ≡ eleven ns (stored (drop 11 ns) at xs)
unfolding stored
stored_behind ns at xs h =
    let same : 11 + at + length xs ≡ 11 + (at + length xs) = omega arith in
    let rest : drop (11 + at + length xs) ns ≡ drop (at + length xs) (drop 11 ns) = ap (λ (n : ℕ). drop n ns) same ∙ sym (drop-drop (at + length xs) 11 ns) in
    ap (λ (l : List ℕ). take (11 + at) ns ++ (xs ++ l)) rest
    ∙ ap (λ (l : List ℕ). l ++ (xs ++ drop (at + length xs) (drop 11 ns))) (take-add 11 at ns)
    ∙ append_assoc (take 11 ns) (take at (drop 11 ns)) (xs ++ drop (at + length xs) (drop 11 ns))
    ∙ ap (λ (l : List ℕ). take 11 l ++ stored (drop 11 ns) at xs) (eleven_first ns h)

-- a row's numbers stored are that row in the table, and the other rows stay
rows_set : (k i : ℕ) (ns : List ℕ) (row : Row) → i < k → k * 11 ≤ length ns → RowWords row → rows_in k (stored ns (11 * i) (row_numbers row)) ≡ set (rows_in k ns) i row
unfolding rows_in stored
rows_set zero i ns row h l w = absurd (omega arith)
rows_set (suc k) zero ns row h l w = ap (λ (r : Row). r ∷ rows_in k (drop 11 ns)) (row_back row (drop 11 ns) w)
rows_set (suc k) (suc i) ns row h l w =
    let there : 11 * suc i ≡ 11 + 11 * i = omega arith in
    let first : 11 ≤ length ns = omega arith in
    let room : k * 11 ≤ length (drop 11 ns) = rw (length-drop 11 ns) (omega arith) in
    ap (λ (n : ℕ). rows_in (suc k) (stored ns n (row_numbers row))) there
    ∙ ap (rows_in (suc k)) (stored_behind ns (11 * i) (row_numbers row) first)
    ∙ ap (λ (rows : List Row). row_in ns ∷ rows) (rows_set k i (drop 11 ns) row (omega arith) room w)

-- ---- a sample entered

-- a row brought forward keeps its agent and source id
advanced_words : (row : Row) (x : FlowEntry) → RowWords row → SampleWords x → RowWords (advanced row x)
advanced_words row x v w = record { agent = v.agent; source = v.source; sequence = w.sequence; pool = w.pool }

module _ (ns : List ℕ) (x : FlowEntry) (w : SampleWords x) (long : 704 ≤ length ns) (i : ℕ) (h : i < 64) where
  -- the rows with row i brought up to date
  row_brought : (row : Row) → row ≡ get_or (rows_in 64 ns) i free_row
      → rows_in 64 (numbers_after (updated row x).answer i (updated row x).row ns) ≡ set (rows_in 64 ns) i (updated row x).row
  unfolding updated
  row_brought row q = go row.used (same_source row x) (eqb (sequence_step row x) 0) (leb (2 ^ 31) (sequence_step row x))
    where
      stays : rows_in 64 ns ≡ set (rows_in 64 ns) i row
      stays = sym (ap (set (rows_in 64 ns) i) q ∙ set-get_or (rows_in 64 ns) i free_row)

      words : RowWords row
      words = subst RowWords (sym (q ∙ row_at 64 i ns h)) (row_in_words (drop (11 * i) ns))

      after : Bool → Bool → Bool → Bool → RowEntered
      after a b c e =
          cond a (cond b (cond c (answered (Err Repeated) row) (cond e (answered (Err Backward) row) (answered (Ok tt) (advanced row x)))) (answered (Err OtherSource) row))
          (answered (Ok tt) (opened x))

      go : (a b c e : Bool) → rows_in 64 (numbers_after (after a b c e).answer i (after a b c e).row ns) ≡ set (rows_in 64 ns) i (after a b c e).row
      go false b c e = rows_set 64 i ns (opened x) h long w
      go true false c e = stays
      go true true true e = stays
      go true true false true = stays
      go true true false false = rows_set 64 i ns (advanced row x) h long (advanced_words row x words w)

abbrev array : Afterwards ℕ → List ℕ
array (afterwards r ns) = ns

-- the table after an entry is the ledger's: its rows are those that the sample entered in its rows leaves
pub rows_after : (x : FlowEntry) (ns after : List ℕ) (r : ℕ) → SampleWords x → 704 ≤ length ns → afterwards r after ≡ entered_table x ns
    → rows_in 64 after ≡ (entered (rows_in 64 ns) x).rows
rows_after x ns after r w long e = go (ltb (row_for x (rows_in 64 ns)) (length (rows_in 64 ns))) refl
  where
    told_after : (t : TableEntered) → t ≡ entered (rows_in 64 ns) x
        → after ≡ numbers_after t.answer (row_for x (rows_in 64 ns)) (get_or t.rows (row_for x (rows_in 64 ns)) free_row) ns
    told_after t q =
        ap array (e ∙ sym (table_long x ns long))
        ∙ ap (λ (s : TableEntered). numbers_after s.answer (row_for x (rows_in 64 ns)) (get_or s.rows (row_for x (rows_in 64 ns)) free_row) ns) (sym q)

    full : length (rows_in 64 ns) ≤ row_for x (rows_in 64 ns) → rows_in 64 after ≡ (entered (rows_in 64 ns) x).rows
    full h =
        let q = sym (no_row (rows_in 64 ns) x h) in
        ap (rows_in 64) (told_after (record { answer = Err TableFull; rows = rows_in 64 ns }) q) ∙ ap (λ (s : TableEntered). s.rows) q

    one : row_for x (rows_in 64 ns) < length (rows_in 64 ns) → rows_in 64 after ≡ (entered (rows_in 64 ns) x).rows
    one inside =
        let i : ℕ = row_for x (rows_in 64 ns) in
        let h : i < 64 = subst (λ (n : ℕ). i < n) (rows_length 64 ns) inside in
        let row : Row = get_or (rows_in 64 ns) i free_row in
        let u : RowEntered = updated row x in
        let t : TableEntered = with_row (rows_in 64 ns) i u in
        let q : t ≡ entered (rows_in 64 ns) x = sym (one_row (rows_in 64 ns) x i (refl, inside)) in
        ap (rows_in 64) (told_after t q ∙ ap (λ (s : Row). numbers_after u.answer i s ns) (get_or-set_same (rows_in 64 ns) i u.row free_row inside))
        ∙ row_brought ns x w long i h row refl ∙ ap (λ (s : TableEntered). s.rows) q

    go : (b : Bool) → ltb (row_for x (rows_in 64 ns)) (length (rows_in 64 ns)) ≡ b → rows_in 64 after ≡ (entered (rows_in 64 ns) x).rows
    go true q = one (ltb-true (row_for x (rows_in 64 ns)) (length (rows_in 64 ns)) q)
    go false q = full (ltb-false (row_for x (rows_in 64 ns)) (length (rows_in 64 ns)) q)
