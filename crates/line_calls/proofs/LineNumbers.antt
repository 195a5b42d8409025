-- The numbers that follow from the contracts of listing: each exactly where it holds. Assumes nothing.
use Prim.Native.Nat.{ℕ, ◌+◌, ◌≤◌, ◌<◌}
use native.Mathlib.Omega.{arith}
use mathlib.Core.Path.{◌≡◌, refl, sym, ap, ◌∙◌, subst}
use mathlib.Core.Logic.{◌⊎◌, inl, inr, ◌↔◌}
use mathlib.Core.Bool.{Bool, true, false, cond}
use mathlib.Core.List.{List, [], ◌∷◌}
use lib.ListN.{length, get_or, drop}
use lib.Dec.{leb, ltb, eqb}
use borrow.Author.Tests.{leb-true, leb-false, ltb-true, ltb-false, eqb-true, eqb-false}
use Rattle.reader.specs.Datagrams.{datagram_read}
use Rattle.xdr.specs.Writes.{stored, Afterwards, afterwards}
use Rattle.record_lines.specs.declared.Listed.{Listed}
use Rattle.record_lines.specs.Lines.{write_line}
use Rattle.record_lines.specs.Records.{record_lines, room_of, answer_to, list_record}
use Rattle.listing.specs.Captures.{Frame}
use Rattle.listing.specs.declared.FrameFault.TheVariants.{Short, Wrong}
use Rattle.std.proofs.Common.{Ok, Err, Option, Some, None}
use Rattle.listing.specs.declared.Stop.{Stop}
use Rattle.listing.specs.declared.Stop.TheVariants.{GoesOn, NoRecord, Output, BadRecord}
use Rattle.listing.specs.declared.State.{State}
use Rattle.listing.specs.declared.Place.{Place}
use Rattle.listing.specs.Captures.{length_in, frame_of, list_all}
use Rattle.listing.specs.Texts.{end_lines}
use Rattle.listing.proofs.Stops.{list_stops}
use Rattle.numbers.specs.Reports.{Report}
use Rattle.line_calls.specs.ListedLines.{stop_number, frame_report, listed_report, written_report}
use Rattle.line_calls.specs.LineNumbers.{Marked, FrameTold, RecordsTold, RecordTold, LinesTold}
use Rattle.std.specs.Prelude.{Result, Ok, Err}
use Rattle.sflow.specs.declared.Refused.{Refused}
use Rattle.std.specs.Prelude.{Option, Some, None}
use Rattle.reader.specs.declared.datagram.Head.{Head}

-- ---- the records of a buffer

module _ {A : Type 0} (x : Stop) where
  told_none : (x ≡ GoesOn → ⊥) → (x ≡ NoRecord) ↔ A → (stop_number x ≡ 0) ↔ A
  told_none n e = (λ q. e.0 (go x n q), λ a. ap stop_number (e.1 a))
    where
      go : (y : Stop) → (y ≡ GoesOn → ⊥) → stop_number y ≡ 0 → y ≡ NoRecord
      go GoesOn n q = absurd (n refl)
      go NoRecord n q = refl
      go Output n q = absurd (omega arith)
      go BadRecord n q = absurd (omega arith)

  told_full : (x ≡ Output) ↔ A → (stop_number x ≡ 1) ↔ A
  told_full e = (λ q. e.0 (go x q), λ a. ap stop_number (e.1 a))
    where
      go : (y : Stop) → stop_number y ≡ 1 → y ≡ Output
      go GoesOn q = absurd (omega arith)
      go NoRecord q = absurd (omega arith)
      go Output q = refl
      go BadRecord q = absurd (omega arith)

  told_bad : (x ≡ BadRecord) ↔ A → (stop_number x ≡ 2) ↔ A
  told_bad e = (λ q. e.0 (go x q), λ a. ap stop_number (e.1 a))
    where
      go : (y : Stop) → stop_number y ≡ 2 → y ≡ BadRecord
      go GoesOn q = absurd (omega arith)
      go NoRecord q = absurd (omega arith)
      go Output q = absurd (omega arith)
      go BadRecord q = refl

-- what `listing::list_records` answers and leaves, by its contract
pub records_told : (d s : List ℕ) (t : State) (r : Place) (e : List ℕ) → afterwards r e ≡ list_all d s t → RecordsTold e s r
records_told d s t r e h =
    let k = list_stops d s t r e h in
    record {
      no_record = told_none r.stop k.over k.no_record;
      no_room = told_full r.stop k.no_room;
      bad_record = told_bad r.stop k.bad_record;
    }

-- ---- lines

module _ (room : ℕ) (d : List ℕ) (at : ℕ) (xs : List ℕ) where
  abbrev LinesOf : Afterwards (Option ℕ) → Type 0
  LinesOf (afterwards w e) = LinesTold room d at xs (written_report w) e

  -- what a writer of lines answers and leaves, by its contract
  pub lines_told : (w : Option ℕ) (e : List ℕ) → afterwards w e ≡ write_line room d at xs → LinesTold room d at xs (written_report w) e
  unfolding write_line
  lines_told w e h = subst LinesOf (sym h) (go (leb (at + room) (length d)) refl)
    where
      go : (b : Bool) → leb (at + room) (length d) ≡ b → LinesOf (cond b (afterwards (Some (at + length xs)) (stored d at xs)) (afterwards None d))
      go true k =
          let fits : at + room ≤ length d = leb-true _ _ k in
          record {
            no_room = (λ q. absurd (omega arith), λ q. absurd (omega arith));
            written = (λ q. fits, λ q. refl);
            values = λ q. refl;
            stores = λ q. refl;
            keeps = λ q. absurd (omega arith);
          }
      go false k =
          let over : length d < at + room = leb-false _ _ k in
          record {
            no_room = (λ q. over, λ q. refl);
            written = (λ q. absurd (omega arith), λ q. absurd (omega arith));
            values = λ q. absurd (omega arith);
            stores = λ q. absurd (omega arith);
            keeps = λ q. refl;
          }

-- what `listing::end_lines` answers and leaves, by its contract
pub end_told : (d : List ℕ) (at : ℕ) (t : State) (bad : Bool) (r : Option ℕ) (e : List ℕ) → afterwards r e ≡ write_line 123 d at (end_lines t bad)
    → LinesTold 123 d at (end_lines t bad) (written_report r) e
end_told d at t bad r e h = lines_told 123 d at (end_lines t bad) r e h

abbrev found_rank : Result Head Refused → ℕ
found_rank (Ok h) = 0
found_rank (Err e) = 1

abbrev samples_in : Result Head Refused → ℕ
samples_in (Ok h) = h.samples.count
samples_in (Err e) = 0

module _ (d : List ℕ) (at n : ℕ) (s : List ℕ) where
  abbrev RecordOf : Afterwards (Option Listed) → Type 0
  RecordOf (afterwards l e) = RecordTold d at n s (listed_report l) e

  -- an accepted datagram, or a refused one, where there is room
  listed : (a : Result Head Refused) → datagram_read s ≡ a → at + room_of (datagram_read s) ≤ length d
      → RecordTold d at n s (listed_report (Some (answer_to a (at + length (record_lines n s))))) (stored d at (record_lines n s))
  listed (Ok h) f k =
      record {
        no_room = (λ q. absurd (omega arith), λ q. absurd (omega arith));
        written = (λ q. k, λ q. refl);
        accepted = λ g e q. ap (λ (c : ℕ). (at + length (record_lines n s)) ∷ c ∷ []) (ap samples_in (sym f ∙ e));
        refused = λ why p e q. let z : ◌≡◌ {A = ℕ} 0 1 = ap found_rank (sym f ∙ e) in absurd (omega arith);
        stores = λ q. refl;
        keeps = λ q. absurd (omega arith);
      }
  listed (Err r) f k =
      record {
        no_room = (λ q. absurd (omega arith), λ q. absurd (omega arith));
        written = (λ q. k, λ q. refl);
        accepted = λ g e q. let z : ◌≡◌ {A = ℕ} 1 0 = ap found_rank (sym f ∙ e) in absurd (omega arith);
        refused = λ why p g q. refl;
        stores = λ q. refl;
        keeps = λ q. absurd (omega arith);
      }

  -- what `record_lines::list_record` answers and leaves, by its contract
  pub record_told : (r : Option Listed) (e : List ℕ) → afterwards r e ≡ list_record d at n s → RecordTold d at n s (listed_report r) e
  unfolding list_record
  record_told r e h = subst RecordOf (sym h) (go (leb (at + room_of (datagram_read s)) (length d)) refl)
    where
      go : (b : Bool) → leb (at + room_of (datagram_read s)) (length d) ≡ b
          → RecordOf (cond b (afterwards (Some (answer_to (datagram_read s) (at + length (record_lines n s)))) (stored d at (record_lines n s))) (afterwards None d))
      go true k = listed (datagram_read s) refl (leb-true _ _ k)
      go false k =
          let over : length d < at + room_of (datagram_read s) = leb-false _ _ k in
          record {
            no_room = (λ q. over, λ q. refl);
            written = (λ q. absurd (omega arith), λ q. absurd (omega arith));
            accepted = λ g e q. absurd (omega arith);
            refused = λ why p e q. absurd (omega arith);
            stores = λ q. absurd (omega arith);
            keeps = λ q. refl;
          }

-- ---- the record that octets begin with

-- one case, with its number
data FrameCase (s : List ℕ) (r : Report) : Type 0 where
  none : r.number ≡ 0 → length s < 4 → FrameCase s r
  cut : r.number ≡ 0 → 4 ≤ length s → Marked s → length_in s ≤ 65507 → length s < 4 + length_in s → FrameCase s r
  whole : r.number ≡ 1 → r.numbers ≡ length_in s ∷ [] → Marked s → length_in s ≤ 65507 → 4 + length_in s ≤ length s → FrameCase s r
  unmarked : r.number ≡ 2 → 4 ≤ length s → (Marked s → ⊥) → FrameCase s r
  long : r.number ≡ 2 → 4 ≤ length s → 65507 < length_in s → FrameCase s r

frame_case : (s : List ℕ) → FrameCase s (frame_report (frame_of s))
unfolding frame_of
frame_case s =
    go (leb 4 (length s)) (eqb (get_or s 0 0) 115) (eqb (get_or s 1 0) 70) (ltb 65507 (length_in s)) (leb (4 + length_in s) (length s)) refl refl refl refl refl
  where
    go : (p q r u v : Bool) → leb 4 (length s) ≡ p → eqb (get_or s 0 0) 115 ≡ q → eqb (get_or s 1 0) 70 ≡ r → ltb 65507 (length_in s) ≡ u
        → leb (4 + length_in s) (length s) ≡ v
        → FrameCase s (frame_report (cond p (cond q (cond r (cond u (Err Wrong) (cond v (Ok (length_in s)) (Err Short))) (Err Wrong)) (Err Wrong)) (Err Short)))
    go false q r u v a b c d e = none refl (leb-false _ _ a)
    go true false r u v a b c d e = unmarked refl (leb-true _ _ a) (λ m. eqb-false _ _ b m.0)
    go true true false u v a b c d e = unmarked refl (leb-true _ _ a) (λ m. eqb-false _ _ c m.1)
    go true true true true v a b c d e = long refl (leb-true _ _ a) (ltb-true _ _ d)
    go true true true false true a b c d e = whole refl refl (eqb-true _ _ b, eqb-true _ _ c) (ltb-false _ _ d) (leb-true _ _ e)
    go true true true false false a b c d e = cut refl (leb-true _ _ a) (eqb-true _ _ b, eqb-true _ _ c) (ltb-false _ _ d) (leb-false _ _ e)

module _ (s : List ℕ) (r : Report) where
  abbrev Less : Type 0
  Less = (length s < 4) ⊎ (Marked s × ((length_in s ≤ 65507) × (length s < 4 + length_in s)))

  abbrev Bad : Type 0
  Bad = (4 ≤ length s) × ((Marked s → ⊥) ⊎ (65507 < length_in s))

  not_less : 4 ≤ length s → (Marked s → length_in s ≤ 65507 → length s < 4 + length_in s → ⊥) → Less → ⊥
  not_less h n (inl k) = omega arith
  not_less h n (inr k) = n k.0 k.1.0 k.1.1

  not_bad : Marked s → length_in s ≤ 65507 → Bad → ⊥
  not_bad m h (k, inl n) = n m
  not_bad m h (k, inr l) = omega arith

  frame_less : FrameCase s r → (r.number ≡ 0) ↔ Less
  frame_less (none z h) = (λ q. inl h, λ q. z)
  frame_less (cut z h m l k) = (λ q. inr (m, (l, k)), λ q. z)
  frame_less (whole z v m l k) = (λ q. absurd (omega arith), λ q. absurd (not_less (omega arith) (λ _ _ j. omega arith) q))
  frame_less (unmarked z h n) = (λ q. absurd (omega arith), λ q. absurd (not_less h (λ m _ _. n m) q))
  frame_less (long z h n) = (λ q. absurd (omega arith), λ q. absurd (not_less h (λ _ l _. omega arith) q))

  frame_whole : FrameCase s r → (r.number ≡ 1) ↔ (Marked s × ((length_in s ≤ 65507) × (4 + length_in s ≤ length s)))
  frame_whole (none z h) = (λ q. absurd (omega arith), λ q. let k = q.1.1 in absurd (omega arith))
  frame_whole (cut z h m l k) = (λ q. absurd (omega arith), λ q. let j = q.1.1 in absurd (omega arith))
  frame_whole (whole z v m l k) = (λ q. (m, (l, k)), λ q. z)
  frame_whole (unmarked z h n) = (λ q. absurd (omega arith), λ q. absurd (n q.0))
  frame_whole (long z h n) = (λ q. absurd (omega arith), λ q. let j = q.1.0 in absurd (omega arith))

  frame_wrong : FrameCase s r → (r.number ≡ 2) ↔ Bad
  frame_wrong (none z h) = (λ q. absurd (omega arith), λ q. let k = q.0 in absurd (omega arith))
  frame_wrong (cut z h m l k) = (λ q. absurd (omega arith), λ q. absurd (not_bad m l q))
  frame_wrong (whole z v m l k) = (λ q. absurd (omega arith), λ q. absurd (not_bad m l q))
  frame_wrong (unmarked z h n) = (λ q. (h, inl n), λ q. z)
  frame_wrong (long z h n) = (λ q. (h, inr n), λ q. z)

  frame_values : FrameCase s r → r.number ≡ 1 → r.numbers ≡ length_in s ∷ []
  frame_values (none z h) q = absurd (omega arith)
  frame_values (cut z h m l k) q = absurd (omega arith)
  frame_values (whole z v m l k) q = v
  frame_values (unmarked z h n) q = absurd (omega arith)
  frame_values (long z h n) q = absurd (omega arith)

-- what `listing::frame_at` answers, by its contract
pub frame_told : (s : List ℕ) (at : ℕ) (r : Frame) → r ≡ frame_of (drop at s) → FrameTold (drop at s) (frame_report r)
frame_told s at r e =
    let c : FrameCase (drop at s) (frame_report r) = rw e (frame_case (drop at s)) in
    record {
      less = frame_less (drop at s) (frame_report r) c;
      whole = frame_whole (drop at s) (frame_report r) c;
      wrong = frame_wrong (drop at s) (frame_report r) c;
      values = frame_values (drop at s) (frame_report r) c;
    }
