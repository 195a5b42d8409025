-- Laws of a capture's text: the records of a buffer are a step of it, and so are records in front. Assumes nothing.
use Rattle.std.proofs.Common.{◌≡◌, ℕ, zero, suc, ◌+◌, ◌*◌, ◌/◌, ◌%◌, ◌<◌, ◌≤◌, Bool, true, false, cond, ltb, leb, List, [], ◌∷◌, ◌++◌, length, take, drop, sym, refl, ap, ◌∙◌, append_assoc, not-suc-le-zero, add_assoc, arith, length-append, length-drop, drop_of_length-le, take_all, drop-drop, take_at, drop_at, le-ltb, lt-ltb, le-leb, leb-false, leb-true, Ok, Err, Some, None}
use Rattle.reader.specs.Datagrams.{datagram_read}
use Rattle.xdr.specs.Writes.{stored, Afterwards, afterwards}
use Rattle.xdr.proofs.Writing.{stored_front, stored_back}
use Rattle.record_lines.specs.Records.{record_lines, room_of, answer_to, list_record}
use Rattle.listing.specs.Captures.{frame_of, datagram_in, more, behind, stopped_as, on_frame, on_listing, go_on}
use Rattle.listing.specs.Captures.{list_step, is_over, list_from, list_all, begins}
use Rattle.listing.specs.Texts.{end_lines, end_text, counted_as, behind_record, record_text, on_record, text_within, text_from, record_with, capture_of, texts_of, behind_all}
use Rattle.listing.specs.Captures.{Frame}
use Rattle.listing.specs.declared.FrameFault.TheVariants.{Short, Wrong}
use Rattle.listing.specs.declared.Stop.{Stop}
use Rattle.listing.specs.declared.Stop.TheVariants.{NoRecord, Output, BadRecord}
use Rattle.listing.specs.declared.State.{State}
use Rattle.listing.specs.declared.Place.{Place}
use Rattle.record_lines.proofs.Digits.{stored_none}
use Rattle.std.specs.Prelude.{Result, Ok, Err}
use Rattle.sflow.specs.declared.Refused.{Refused}
use Rattle.reader.specs.declared.datagram.Head.{Head}

-- ---- the text does not go by the number of turns, where they are enough

within_same : (n m : ℕ) (t : State) (s : List ℕ) → length s ≤ n → length s ≤ m → text_within n t s ≡ text_within m t s
unfolding text_within frame_of
within_same zero zero t s h k = refl
within_same zero (suc m) t [] h k = refl
within_same zero (suc m) t (x ∷ s) h k = absurd (not-suc-le-zero h)
within_same (suc n) zero t [] h k = refl
within_same (suc n) zero t (x ∷ s) h k = absurd (not-suc-le-zero k)
within_same (suc n) (suc m) t s h k = go (frame_of s) (within_same n m)
  where
    go : (f : Frame) → ((t : State) (s : List ℕ) → length s ≤ n → length s ≤ m → text_within n t s ≡ text_within m t s)
        → on_record t s f (text_within n) ≡ on_record t s f (text_within m)
    go (Ok i) same =
        let l = length-drop (4 + i) s in
        let a : length (drop (4 + i) s) ≤ n = omega arith in
        let b : length (drop (4 + i) s) ≤ m = omega arith in
        ap (λ (xs : List ℕ). record_text t (datagram_in s i) ++ xs) (same (behind_record t i (datagram_in s i)) (drop (4 + i) s) a b)
    go (Err Short) same = refl
    go (Err Wrong) same = refl

within_step : (n : ℕ) (t : State) (s : List ℕ) (i : ℕ) → frame_of s ≡ Ok i
    → text_within (suc n) t s ≡ record_text t (datagram_in s i) ++ text_within n (behind_record t i (datagram_in s i)) (drop (4 + i) s)
unfolding text_within
within_step n t s i e = rw e

-- a whole record in front: its lines, and the text of what is behind it
pub text_step : (t : State) (s : List ℕ) (n : ℕ) → frame_of s ≡ Ok n
    → text_from t s ≡ record_text t (datagram_in s n) ++ text_from (behind_record t n (datagram_in s n)) (drop (4 + n) s)
unfolding text_from
text_step t s n e =
    let l = length-drop (4 + n) s in
    let long : length s ≤ suc (length s) = omega arith in
    let short : length (drop (4 + n) s) ≤ length s = omega arith in
    within_same (length s) (suc (length s)) t s (omega arith) long
    ∙ within_step (length s) t s n e
    ∙ ap (λ (xs : List ℕ). record_text t (datagram_in s n) ++ xs)
    (within_same (length s) (length (drop (4 + n) s)) (behind_record t n (datagram_in s n)) (drop (4 + n) s) short (omega arith))

-- ---- records in front of a capture

record_front : (x rest : List ℕ) → length x ≤ 65507 → frame_of (record_with x ++ rest) ≡ Ok (length x)
unfolding frame_of
record_front x rest h =
    let whole : length x / 256 * 256 + length x % 256 ≡ length x = omega arith in
    let four : 4 ≤ length (record_with x ++ rest) = rw length-append (omega arith) in
    let there : 4 + length x ≤ length (record_with x ++ rest) = rw length-append (omega arith) in
    rw (whole, le-leb _ _ four, le-ltb _ _ h, le-leb _ _ there)

-- every record's datagram is short enough for its length
pub data Fit : List (List ℕ) → Type 0 where
  none : Fit []
  one : {x : List ℕ} {xs : List (List ℕ)} → length x ≤ 65507 → Fit xs → Fit (x ∷ xs)

-- a capture in two parts, cut where a record ends: the lines of the first, then the text of the second behind its state
pub text_parts : (t : State) (xs : List (List ℕ)) (rest : List ℕ) → Fit xs
    → text_from t (capture_of xs ++ rest) ≡ texts_of t xs ++ text_from (behind_all t xs) rest
text_parts t [] rest f = refl
text_parts t (x ∷ xs) rest (one h f) =
    let s : List ℕ = record_with x ++ (capture_of xs ++ rest) in
    let front : frame_of s ≡ Ok (length x) = record_front x (capture_of xs ++ rest) h in
    let own : datagram_in s (length x) ≡ x = take_at x (capture_of xs ++ rest) (length x) refl in
    let back : drop (4 + length x) s ≡ capture_of xs ++ rest = sym (drop-drop (length x) 4 s) ∙ drop_at x (capture_of xs ++ rest) (length x) refl in
    let u : State = behind_record t (length x) x in
    ap (text_from t) (append_assoc (record_with x) (capture_of xs) rest)
    ∙ text_step t s (length x) front
    ∙ rw (own, back, text_parts u xs rest f, append_assoc (record_text t x) (texts_of u xs) (text_from (behind_all u xs) rest))

-- ---- the call that lists a buffer's records is a step of the text

stored_far : (d : List ℕ) (at : ℕ) (xs : List ℕ) → length d ≤ at → stored d at xs ≡ d ++ (xs ++ [])
unfolding stored
stored_far d at xs h =
    let long : length d ≤ at + length xs = omega arith in
    rw (take_all at d h, drop_of_length-le d long)

-- a store right behind a store, inside the buffer
stored_behind : (d : List ℕ) (at next : ℕ) (xs ys : List ℕ) → next ≡ at + length xs → at ≤ length d
    → stored (stored d at xs) next ys ≡ stored d at (xs ++ ys)
unfolding stored
stored_behind d at next xs ys e inside =
    let rest : List ℕ = drop (at + length xs + length ys) d in
    rw (e, stored_front d at xs inside, stored_back d at xs (length ys) inside, append_assoc (take at d) xs (ys ++ rest))
    (rw (append_assoc xs ys, length-append, ← add_assoc))

-- a store right behind a store is one store, also behind the buffer
stored_on : (d : List ℕ) (at next : ℕ) (xs ys : List ℕ) → next ≡ at + length xs → stored (stored d at xs) next ys ≡ stored d at (xs ++ ys)
stored_on d at next xs ys e = go (leb at (length d)) refl
  where
    go : (b : Bool) → leb at (length d) ≡ b → stored (stored d at xs) next ys ≡ stored d at (xs ++ ys)
    go true h = stored_behind d at next xs ys e (leb-true _ _ h)
    go false h =
        let far : length d < at = leb-false _ _ h in
        let small : length d ≤ at = omega arith in
        let long : length (d ++ (xs ++ [])) ≤ next = rw (length-append, length-append) (omega arith) in
        ap (λ (l : List ℕ). stored l next ys) (stored_far d at xs small)
        ∙ stored_far (d ++ (xs ++ [])) next ys long
        ∙ append_assoc d (xs ++ []) (ys ++ [])
        ∙ ap (λ (l : List ℕ). d ++ l) (append_assoc xs [] (ys ++ []) ∙ sym (append_assoc xs ys []))
        ∙ sym (stored_far d at (xs ++ ys) small)

-- from a place p of a buffer s and an output d to a place q and an output e some text was put: at p's offset and up to q's; and the text of
-- the capture from p on is that text, then the text from q on behind q's state
pub record Tells (d s : List ℕ) (p q : Place) (e : List ℕ) : Type 0 where
  pub text : List ℕ
  pub octets_are : e ≡ stored d p.out text
  pub out_is : q.out ≡ p.out + length text
  pub text_is : text_from p.state (drop p.at s) ≡ text ++ text_from q.state (drop q.at s)

abbrev pub Told : List ℕ → List ℕ → Place → Afterwards Place → Type 0
Told d s p (afterwards q e) = Tells d s p q e

stays : (d s : List ℕ) (p : Place) (x : Stop) → Tells d s p (stopped_as p x) d
stays d s p x = record { text = []; octets_are = sym (stored_none d p.out); out_is = omega arith; text_is = refl }

text_behind : (t : State) (s : List ℕ) (at n : ℕ) (a : Result Head Refused) → frame_of (drop at s) ≡ Ok n → datagram_read (datagram_in (drop at s) n) ≡ a
    → text_from t (drop at s)
    ≡ record_lines (more t.records 1) (datagram_in (drop at s) n) ++ text_from (counted_as t (4 + n) a) (drop (at + (4 + n)) s)
unfolding record_text behind_record
text_behind t s at n a e q = text_step t (drop at s) n e ∙ rw (q, drop-drop (4 + n) at s)

step_told : (d s : List ℕ) (p : Place) → Told d s p (list_step d s p)
unfolding list_step list_record
step_told d s p = on_frame_is (frame_of (drop p.at s)) refl
  where
    lines : ℕ → List ℕ
    lines n = record_lines (more p.state.records 1) (datagram_in (drop p.at s) n)

    on_head : (n : ℕ) (a : Result Head Refused) → frame_of (drop p.at s) ≡ Ok n → datagram_read (datagram_in (drop p.at s) n) ≡ a
        → Tells d s p (behind p (4 + n) (Some (answer_to a (p.out + length (lines n))))) (stored d p.out (lines n))
    on_head n (Ok h) e q =
        record { text = lines n; octets_are = refl; out_is = refl; text_is = text_behind p.state s p.at n (Ok h) e q }
    on_head n (Err err) e q =
        record { text = lines n; octets_are = refl; out_is = refl; text_is = text_behind p.state s p.at n (Err err) e q }

    on_room : (n : ℕ) (b : Bool) → frame_of (drop p.at s) ≡ Ok n
        → Told d s p (on_listing p (4 + n)
        (cond b (afterwards (Some (answer_to (datagram_read (datagram_in (drop p.at s) n)) (p.out + length (lines n)))) (stored d p.out (lines n))) (afterwards None d)))
    on_room n true e = on_head n (datagram_read (datagram_in (drop p.at s) n)) e refl
    on_room n false e = stays d s p Output

    on_frame_is : (f : Frame) → frame_of (drop p.at s) ≡ f → Told d s p (on_frame d (drop p.at s) p f)
    on_frame_is (Err Short) e = stays d s p NoRecord
    on_frame_is (Err Wrong) e = stays d s p BadRecord
    on_frame_is (Ok n) e = on_room n (leb (p.out + room_of (datagram_read (datagram_in (drop p.at s) n))) (length d)) e

chain : (d s : List ℕ) (p q : Place) (e : List ℕ) (w : Afterwards Place) → Tells d s p q e → Told e s q w → Told d s p w
chain d s p q e (afterwards r g) a b =
    let i = a.out_is in
    let j = b.out_is in
    record {
      text = a.text ++ b.text;
      octets_are =
          b.octets_are ∙ ap (λ (l : List ℕ). stored l q.out b.text) a.octets_are ∙ stored_on d p.out q.out a.text b.text i;
      out_is = rw length-append (omega arith);
      text_is =
          a.text_is ∙ ap (λ (l : List ℕ). a.text ++ l) b.text_is ∙ sym (append_assoc a.text b.text (text_from r.state (drop r.at s)));
    }

list_told : (n : ℕ) (d s : List ℕ) (p : Place) → Told d s p (list_from n d s p)
unfolding list_from
list_told zero d s p = stays d s p _
list_told (suc n) d s p = go (list_step d s p) (step_told d s p) λ e q. list_told n e s q
  where
    on : (q : Place) (e : List ℕ) (b : Bool) → Tells d s p q e → Told e s q (list_from n e s q) → Told d s p (cond b (afterwards q e) (list_from n e s q))
    on q e true a r = a
    on q e false a r = chain d s p q e (list_from n e s q) a r

    go : (w : Afterwards Place) → Told d s p w → ((e : List ℕ) (q : Place) → Told e s q (list_from n e s q))
        → Told d s p (go_on w λ e q. list_from n e s q)
    go (afterwards q e) a r = on q e (is_over q.stop) a (r e q)

-- the call that lists a buffer's records: what it puts, and then the text of what it left behind the state it gives, is the text of all
pub list_all_told : (d s : List ℕ) (t : State) → Told d s (begins t) (list_all d s t)
unfolding list_all
list_all_told d s t = list_told (length s) d s (begins t)

-- ---- what follows the last record

-- the capture goes wrong exactly where octets are left
pub end_text_is : (t : State) (s : List ℕ) → end_text t s ≡ end_lines t (ltb 0 (length s))
end_text_is t [] = refl
end_text_is t (x ∷ s) = let h : 0 < suc (length s) = omega arith in ap (end_lines t) (sym (lt-ltb 0 (suc (length s)) h))
