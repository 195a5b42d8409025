-- The records of a buffer that is listed, and the datagrams in them. Assumes nothing.
use Rattle.std.proofs.Common.{◌≡◌, ℕ, zero, suc, ◌+◌, ◌-◌, ◌*◌, ◌/◌, ◌%◌, ◌<◌, ◌≤◌, Bool, true, false, cond, ltb, leb, List, [], ◌∷◌, ◌++◌, length, take, drop, get_or, sym, refl, ap, ◌∙◌, subst, append_assoc, arith, length-append, length-drop, drop-drop, take-append-drop, le-leb, leb-false, leb-true, Ok, Err, Some, None}
use Rattle.std.proofs.lemmas.List.{append_cancel_right, length-take-le, get_or_append_left}
use native.Mathlib.Nat.{zero-add}
use lib.Dec.{eqb}
use lib.Seq.{take-append_seam}
use Rattle.std.proofs.lemmas.Bool.{eqb-true, ltb-false}
use Rattle.xdr.specs.Numbers.{Octets}
use Rattle.sflow.proofs.Slices.{octets_drop}
use Rattle.reader.specs.Datagrams.{datagram_read}
use Rattle.xdr.specs.Writes.{stored, Afterwards, afterwards}
use Rattle.record_lines.specs.Records.{room_of, answer_to, record_lines, list_record}
use Rattle.listing.specs.Captures.{frame_of, length_in, datagram_in, more, behind, stopped_as, on_frame, on_listing, go_on, list_step, is_over, list_from, list_all, begins}
use Rattle.listing.specs.Texts.{counted_as, behind_record, record_text, text_from, record_with, capture_of, texts_of, behind_all}
use Rattle.listing.specs.Captures.{Frame}
use Rattle.listing.specs.declared.FrameFault.TheVariants.{Short, Wrong}
use Rattle.listing.specs.declared.Stop.{Stop}
use Rattle.listing.specs.declared.Stop.TheVariants.{NoRecord, Output, BadRecord}
use Rattle.listing.specs.declared.State.{State}
use Rattle.listing.specs.declared.Place.{Place}
use Rattle.listing.proofs.Texts.{Fit, none, one, text_parts, Told, list_all_told}
use Rattle.std.specs.Prelude.{Result, Ok, Err}
use Rattle.sflow.specs.declared.Refused.{Refused}
use Rattle.reader.specs.declared.datagram.Head.{Head}

-- ---- what a frame says of the octets

pub record Says (s : List ℕ) (n : ℕ) : Type 0 where
  inside : 4 + n ≤ length s
  first : get_or s 0 0 ≡ 115
  second : get_or s 1 0 ≡ 70
  length_is : length_in s ≡ n
  short : n ≤ 65507

pub whole_says : (s : List ℕ) (n : ℕ) → frame_of s ≡ Ok n → Says s n
unfolding frame_of
whole_says s n e =
    go (leb 4 (length s)) (eqb (get_or s 0 0) 115) (eqb (get_or s 1 0) 70) (ltb 65507 (length_in s)) (leb (4 + length_in s) (length s)) refl refl refl refl e
  where
    go : (p q r u v : Bool) → eqb (get_or s 0 0) 115 ≡ q → eqb (get_or s 1 0) 70 ≡ r → ltb 65507 (length_in s) ≡ u → leb (4 + length_in s) (length s) ≡ v
        → cond p (cond q (cond r (cond u (Err Wrong) (cond v (Ok (length_in s)) (Err Short))) (Err Wrong)) (Err Wrong)) (Err Short) ≡ Ok n → Says s n
    go false q r u v a b c h x = let z : ◌≡◌ {A = ℕ} 0 1 = cc in absurd (omega arith)
    go true false r u v a b c h x = let z : ◌≡◌ {A = ℕ} 0 1 = cc in absurd (omega arith)
    go true true false u v a b c h x = let z : ◌≡◌ {A = ℕ} 0 1 = cc in absurd (omega arith)
    go true true true true v a b c h x = let z : ◌≡◌ {A = ℕ} 0 1 = cc in absurd (omega arith)
    go true true true false false a b c h x = let z : ◌≡◌ {A = ℕ} 0 1 = cc in absurd (omega arith)
    go true true true false true a b c h x =
        let i : length_in s ≡ n = cc in
        let k : 4 + length_in s ≤ length s = leb-true _ _ h in
        let m : length_in s ≤ 65507 = ltb-false _ _ c in
        record { inside = omega arith; first = eqb-true _ _ a; second = eqb-true _ _ b; length_is = i; short = omega arith }

-- an unfinished record is shorter than the longest record
pub short_says : (s : List ℕ) → frame_of s ≡ Err Short → length s < 65511
unfolding frame_of
short_says s e =
    go (leb 4 (length s)) (eqb (get_or s 0 0) 115) (eqb (get_or s 1 0) 70) (ltb 65507 (length_in s)) (leb (4 + length_in s) (length s)) refl refl refl e
  where
    go : (p q r u v : Bool) → leb 4 (length s) ≡ p → ltb 65507 (length_in s) ≡ u → leb (4 + length_in s) (length s) ≡ v
        → cond p (cond q (cond r (cond u (Err Wrong) (cond v (Ok (length_in s)) (Err Short))) (Err Wrong)) (Err Wrong)) (Err Short) ≡ Err Short → length s < 65511
    go false q r u v a c h x = let k : length s < 4 = leb-false _ _ a in omega arith
    go true false r u v a c h x = let z : ◌≡◌ {A = ℕ} 0 1 = cc in absurd (omega arith)
    go true true false u v a c h x = let z : ◌≡◌ {A = ℕ} 0 1 = cc in absurd (omega arith)
    go true true true true v a c h x = let z : ◌≡◌ {A = ℕ} 0 1 = cc in absurd (omega arith)
    go true true true false true a c h x = let z : ◌≡◌ {A = ℕ} 0 1 = cc in absurd (omega arith)
    go true true true false false a c h x =
        let m : length_in s ≤ 65507 = ltb-false _ _ c in
        let k : length s < 4 + length_in s = leb-false _ _ h in
        omega arith

-- a bad record has its mark and length, and stays bad whatever follows
pub wrong_says : (s : List ℕ) → frame_of s ≡ Err Wrong → 4 ≤ length s
unfolding frame_of
wrong_says s e = go (leb 4 (length s)) _ refl e
  where
    go : (p : Bool) (f : Frame) → leb 4 (length s) ≡ p → cond p f (Err Short) ≡ Err Wrong → 4 ≤ length s
    go false f a x = let z : ◌≡◌ {A = ℕ} 0 1 = cc in absurd (omega arith)
    go true f a x = leb-true _ _ a

-- the first four octets, and what follows them
four_first : (s : List ℕ) → 4 ≤ length s → s ≡ get_or s 0 0 ∷ get_or s 1 0 ∷ get_or s 2 0 ∷ get_or s 3 0 ∷ drop 4 s
four_first [] h = absurd (omega arith)
four_first (a ∷ []) h = absurd (omega arith)
four_first (a ∷ b ∷ []) h = absurd (omega arith)
four_first (a ∷ b ∷ c ∷ []) h = absurd (omega arith)
four_first (a ∷ b ∷ c ∷ d ∷ s) h = refl

pub wrong_stays : (s rest : List ℕ) → frame_of s ≡ Err Wrong → frame_of (s ++ rest) ≡ Err Wrong
unfolding frame_of
wrong_stays s rest e =
    let h : 4 ≤ length s = wrong_says s e in
    let long : 4 ≤ length (s ++ rest) = rw length-append (omega (arith, h)) in
    let a : get_or (s ++ rest) 0 0 ≡ get_or s 0 0 = get_or_append_left s rest 0 0 (omega (arith, h)) in
    let b : get_or (s ++ rest) 1 0 ≡ get_or s 1 0 = get_or_append_left s rest 0 1 (omega (arith, h)) in
    let c : get_or (s ++ rest) 2 0 ≡ get_or s 2 0 = get_or_append_left s rest 0 2 (omega (arith, h)) in
    let d : get_or (s ++ rest) 3 0 ≡ get_or s 3 0 = get_or_append_left s rest 0 3 (omega (arith, h)) in
    rw (le-leb _ _ long, a, b, c, d)
    (go (leb 4 (length s)) (eqb (get_or s 0 0) 115) (eqb (get_or s 1 0) 70) (ltb 65507 (length_in s)) (leb (4 + length_in s) (length s))
    (leb (4 + length_in s) (length (s ++ rest))) (length_in s) e)
  where
    go : (p q r u v w : Bool) (n : ℕ) → cond p (cond q (cond r (cond u (Err Wrong) (cond v (Ok n) (Err Short))) (Err Wrong)) (Err Wrong)) (Err Short) ≡ Err Wrong
        → cond q (cond r (cond u (Err Wrong) (cond w (Ok n) (Err Short))) (Err Wrong)) (Err Wrong) ≡ Err Wrong
    go false q r u v w n x = let z : ◌≡◌ {A = ℕ} 0 1 = cc in absurd (omega arith)
    go true false r u v w n x = refl
    go true true false u v w n x = refl
    go true true true true v w n x = refl
    go true true true false true w n x = let z : ◌≡◌ {A = ℕ} 0 1 = cc in absurd (omega arith)
    go true true true false false w n x = let z : ◌≡◌ {A = ℕ} 0 1 = cc in absurd (omega arith)

-- a whole record in front is one of a datagram
pub record_front : (s : List ℕ) (n : ℕ) → Octets s → frame_of s ≡ Ok n
    → (length (datagram_in s n) ≡ n) × (s ≡ record_with (datagram_in s n) ++ drop (4 + n) s)
record_front s n o e =
    let says = whole_says s n e in
    let inside = says.inside in
    let l : length (drop 4 s) ≡ length s - 4 = length-drop 4 s in
    let long : length (datagram_in s n) ≡ n = length-take-le n (drop 4 s) (omega arith) in
    let small : get_or s 3 0 < 256 = o 3 in
    let is : get_or s 2 0 * 256 + get_or s 3 0 ≡ n = says.length_is in
    let high : get_or s 2 0 ≡ length (datagram_in s n) / 256 = omega arith in
    let low : get_or s 3 0 ≡ length (datagram_in s n) % 256 = omega arith in
    let back : drop 4 s ≡ datagram_in s n ++ drop (4 + n) s =
    sym (take-append-drop n (drop 4 s)) ∙ ap (λ (l : List ℕ). datagram_in s n ++ l) (drop-drop n 4 s) in (
      long,
      four_first s (omega arith)
          ∙ ap (λ (k : ℕ). k ∷ get_or s 1 0 ∷ get_or s 2 0 ∷ get_or s 3 0 ∷ drop 4 s) says.first
          ∙ ap (λ (k : ℕ). 115 ∷ k ∷ get_or s 2 0 ∷ get_or s 3 0 ∷ drop 4 s) says.second
          ∙ ap (λ (k : ℕ). 115 ∷ 70 ∷ k ∷ get_or s 3 0 ∷ drop 4 s) high
          ∙ ap (λ (k : ℕ). 115 ∷ 70 ∷ length (datagram_in s n) / 256 ∷ k ∷ drop 4 s) low
          ∙ ap (λ (l : List ℕ). 115 ∷ 70 ∷ length (datagram_in s n) / 256 ∷ length (datagram_in s n) % 256 ∷ l) back,
    )

-- ---- the datagrams between two places of a buffer

pub capture_parts : (xs ys : List (List ℕ)) → capture_of (xs ++ ys) ≡ capture_of xs ++ capture_of ys
capture_parts [] ys = refl
capture_parts (x ∷ xs) ys =
    ap (λ (l : List ℕ). record_with x ++ l) (capture_parts xs ys) ∙ sym (append_assoc (record_with x) (capture_of xs) (capture_of ys))

pub texts_parts : (t : State) (xs ys : List (List ℕ)) → texts_of t (xs ++ ys) ≡ texts_of t xs ++ texts_of (behind_all t xs) ys
texts_parts t [] ys = refl
texts_parts t (x ∷ xs) ys =
    let u : State = behind_record t (length x) x in
    ap (λ (l : List ℕ). record_text t x ++ l) (texts_parts u xs ys) ∙ sym (append_assoc (record_text t x) (texts_of u xs) (texts_of (behind_all u xs) ys))

pub behind_parts : (t : State) (xs ys : List (List ℕ)) → behind_all t (xs ++ ys) ≡ behind_all (behind_all t xs) ys
behind_parts t [] ys = refl
behind_parts t (x ∷ xs) ys = behind_parts (behind_record t (length x) x) xs ys

pub fit_parts : (xs ys : List (List ℕ)) → Fit xs → Fit ys → Fit (xs ++ ys)
fit_parts [] ys none g = g
fit_parts (x ∷ xs) ys (one h f) g = one h (fit_parts xs ys f g)

pub record Splits (s : List ℕ) (p q : Place) : Type 0 where
  pub datagrams : List (List ℕ)
  pub fit : Fit datagrams
  pub records_are : drop p.at s ≡ capture_of datagrams ++ drop q.at s
  pub state_is : q.state ≡ behind_all p.state datagrams

abbrev pub Split : List ℕ → Place → Afterwards Place → Type 0
Split s p (afterwards q e) = Splits s p q

stays : (s : List ℕ) (p : Place) (x : Stop) → Splits s p (stopped_as p x)
stays s p x = record { datagrams = []; fit = none; records_are = refl; state_is = refl }

step_split : (d s : List ℕ) (p : Place) → Octets s → Split s p (list_step d s p)
unfolding list_step list_record behind_record
step_split d s p o = on_frame_is (frame_of (drop p.at s)) refl
  where
    on_head : (n : ℕ) (a : Result Head Refused) (out : ℕ) → frame_of (drop p.at s) ≡ Ok n → datagram_read (datagram_in (drop p.at s) n) ≡ a
        → Splits s p (behind p (4 + n) (Some (answer_to a out)))
    on_head n a out e q = by a q
      where
        front : (length (datagram_in (drop p.at s) n) ≡ n) × (drop p.at s ≡ record_with (datagram_in (drop p.at s) n) ++ drop (4 + n) (drop p.at s))
        front = record_front (drop p.at s) n (octets_drop p.at s o) e

        says : Says (drop p.at s) n
        says = whole_says (drop p.at s) n e

        fit_is : Fit (datagram_in (drop p.at s) n ∷ [])
        fit_is = let h = says.short in let l = front.0 in one (omega arith) none

        records : drop p.at s ≡ capture_of (datagram_in (drop p.at s) n ∷ []) ++ drop (p.at + (4 + n)) s
        records =
            front.1
            ∙ ap (λ (l : List ℕ). record_with (datagram_in (drop p.at s) n) ++ l) (drop-drop (4 + n) p.at s)
            ∙ sym (append_assoc (record_with (datagram_in (drop p.at s) n)) [] (drop (p.at + (4 + n)) s))

        state : (a : Result Head Refused) → datagram_read (datagram_in (drop p.at s) n) ≡ a
            → counted_as p.state (4 + n) a ≡ behind_all p.state (datagram_in (drop p.at s) n ∷ [])
        state a q = ap (λ (k : ℕ). counted_as p.state (4 + k) a) (sym front.0) ∙ ap (counted_as p.state (4 + length (datagram_in (drop p.at s) n))) (sym q)

        by : (a : Result Head Refused) → datagram_read (datagram_in (drop p.at s) n) ≡ a → Splits s p (behind p (4 + n) (Some (answer_to a out)))
        by (Ok h) q = record { datagrams = datagram_in (drop p.at s) n ∷ []; fit = fit_is; records_are = records; state_is = state (Ok h) q }
        by (Err e) q =
            record { datagrams = datagram_in (drop p.at s) n ∷ []; fit = fit_is; records_are = records; state_is = state (Err e) q }

    lines : ℕ → List ℕ
    lines n = record_lines (more p.state.records 1) (datagram_in (drop p.at s) n)

    on_room : (n : ℕ) (b : Bool) → frame_of (drop p.at s) ≡ Ok n
        → Split s p (on_listing p (4 + n)
        (cond b (afterwards (Some (answer_to (datagram_read (datagram_in (drop p.at s) n)) (p.out + length (lines n)))) (stored d p.out (lines n))) (afterwards None d)))
    on_room n true e = on_head n (datagram_read (datagram_in (drop p.at s) n)) (p.out + length (lines n)) e refl
    on_room n false e = stays s p Output

    on_frame_is : (f : Frame) → frame_of (drop p.at s) ≡ f → Split s p (on_frame d (drop p.at s) p f)
    on_frame_is (Err Short) e = stays s p NoRecord
    on_frame_is (Err Wrong) e = stays s p BadRecord
    on_frame_is (Ok n) e = on_room n (leb (p.out + room_of (datagram_read (datagram_in (drop p.at s) n))) (length d)) e

chain : (s : List ℕ) (p q r : Place) → Splits s p q → Splits s q r → Splits s p r
chain s p q r a b =
    record {
      datagrams = a.datagrams ++ b.datagrams;
      fit = fit_parts a.datagrams b.datagrams a.fit b.fit;
      records_are =
          a.records_are ∙ ap (λ (l : List ℕ). capture_of a.datagrams ++ l) b.records_are
          ∙ sym (append_assoc (capture_of a.datagrams) (capture_of b.datagrams) (drop r.at s))
          ∙ ap (λ (l : List ℕ). l ++ drop r.at s) (sym (capture_parts a.datagrams b.datagrams));
      state_is =
          b.state_is ∙ ap (λ (t : State). behind_all t b.datagrams) a.state_is ∙ sym (behind_parts p.state a.datagrams b.datagrams);
    }

list_split : (n : ℕ) (d s : List ℕ) (p : Place) → Octets s → Split s p (list_from n d s p)
unfolding list_from
list_split zero d s p o = stays s p _
list_split (suc n) d s p o = go (list_step d s p) (step_split d s p o) (λ e q. list_split n e s q o)
  where
    further : (q : Place) (w : Afterwards Place) → Splits s p q → Split s q w → Split s p w
    further q (afterwards r g) a b = chain s p q r a b

    on : (q : Place) (e : List ℕ) (b : Bool) → Splits s p q → Split s q (list_from n e s q) → Split s p (cond b (afterwards q e) (list_from n e s q))
    on q e true a r = a
    on q e false a r = further q (list_from n e s q) a r

    go : (w : Afterwards Place) → Split s p w → ((e : List ℕ) (q : Place) → Split s q (list_from n e s q))
        → Split s p (go_on w λ e q. list_from n e s q)
    go (afterwards q e) a r = on q e (is_over q.stop) a (r e q)

-- what a call that lists a buffer lists: datagrams, in records, up to where it stopped; and their lines, which are the front of the output
pub record Records (s : List ℕ) (t : State) (q : Place) (e : List ℕ) : Type 0 where
  pub datagrams : List (List ℕ)
  pub fit : Fit datagrams
  pub records_are : s ≡ capture_of datagrams ++ drop q.at s
  pub state_is : q.state ≡ behind_all t datagrams
  pub lines_are : take q.out e ≡ texts_of t datagrams

pub front_of_stored : (d xs : List ℕ) → take (length xs) (stored d 0 xs) ≡ xs
unfolding stored
front_of_stored d xs = take-append_seam xs (drop (0 + length xs) d)

pub records_listed : (d e s : List ℕ) (t : State) (q : Place) → Octets s → afterwards q e ≡ list_all d s t → Records s t q e
unfolding list_all
records_listed d e s t q o h =
    let a : Splits s (begins t) q = subst (Split s (begins t)) (sym h) (list_split (length s) d s (begins t) o) in
    let b = subst (Told d s (begins t)) (sym h) (list_all_told d s t) in
    let whole : b.text ++ text_from q.state (drop q.at s) ≡ texts_of t a.datagrams ++ text_from q.state (drop q.at s) =
    sym b.text_is ∙ ap (text_from t) a.records_are ∙ text_parts t a.datagrams (drop q.at s) a.fit
    ∙ ap (λ (u : State). texts_of t a.datagrams ++ text_from u (drop q.at s)) (sym a.state_is) in
    let same : b.text ≡ texts_of t a.datagrams = append_cancel_right b.text (texts_of t a.datagrams) _ whole in
    record {
      datagrams = a.datagrams;
      fit = a.fit;
      records_are = a.records_are;
      state_is = a.state_is;
      lines_are =
          ap (take q.out) b.octets_are ∙ ap (λ (k : ℕ). take k (stored d 0 b.text)) (b.out_is ∙ zero-add _)
          ∙ front_of_stored d b.text ∙ same;
    }
