-- The place that listing comes to lies inside the buffer and the output; where it moves in neither, nothing was listed. Assumes nothing.
use Rattle.std.proofs.Common.{◌≡◌, ℕ, zero, suc, ◌+◌, ◌<◌, ◌≤◌, Bool, true, false, cond, ◌⊎◌, List, ◌++◌, length, drop, sym, refl, ap, ◌∙◌, subst, inl, inr, arith, length-append, Ok, Err, Option, Some, None}
use Rattle.record_lines.specs.declared.Listed.{Listed}
use Rattle.xdr.specs.Writes.{stored, Afterwards, afterwards}
use Rattle.record_lines.specs.Records.{list_record}
use Rattle.listing.specs.Captures.{frame_of, datagram_in, more, on_frame, on_listing, go_on, list_step, is_over, list_from, list_all, begins}
use Rattle.record_lines.specs.declared.Listed.TheVariants.{Accepted, Refused}
use Rattle.listing.specs.Captures.{Frame}
use Rattle.listing.specs.declared.FrameFault.TheVariants.{Short, Wrong}
use Rattle.listing.specs.declared.State.{State}
use Rattle.listing.specs.declared.Place.{Place}
use Rattle.listing.proofs.Captures.{whole_at}
use Rattle.listing.proofs.Texts.{Told, list_all_told}

abbrev Inside : List ℕ → Afterwards Place → Type 0
Inside s (afterwards q e) = q.at ≤ length s

step_inside : (d s : List ℕ) (p : Place) → p.at ≤ length s → Inside s (list_step d s p)
unfolding list_step
step_inside d s p h = on_frame_is (frame_of (drop p.at s)) refl
  where
    on_listing_is : (n : ℕ) → p.at + (4 + n) ≤ length s → (l : Afterwards (Option Listed)) → Inside s (on_listing p (4 + n) l)
    on_listing_is n k (afterwards None e) = h
    on_listing_is n k (afterwards (Some (Refused out)) e) = k
    on_listing_is n k (afterwards (Some (Accepted out count)) e) = k

    on_frame_is : (f : Frame) → frame_of (drop p.at s) ≡ f → Inside s (on_frame d (drop p.at s) p f)
    on_frame_is (Err Short) e = h
    on_frame_is (Err Wrong) e = h
    on_frame_is (Ok n) e =
        let w = whole_at s p.at n e in
        on_listing_is n (omega arith) (list_record d p.out (more p.state.records 1) (datagram_in (drop p.at s) n))

from_inside : (n : ℕ) (d s : List ℕ) (p : Place) → p.at ≤ length s → Inside s (list_from n d s p)
unfolding list_from
from_inside zero d s p h = h
from_inside (suc n) d s p h = go (list_step d s p) (step_inside d s p h) λ e q k. from_inside n e s q k
  where
    on : (q : Place) (e : List ℕ) (b : Bool) → q.at ≤ length s → Inside s (list_from n e s q) → Inside s (cond b (afterwards q e) (list_from n e s q))
    on q e true k r = k
    on q e false k r = r

    go : (w : Afterwards Place) → Inside s w → ((e : List ℕ) (q : Place) → q.at ≤ length s → Inside s (list_from n e s q))
        → Inside s (go_on w λ e q. list_from n e s q)
    go (afterwards q e) k r = on q e (is_over q.stop) k (r e q k)

-- no more octets are listed than the buffer has
pub listed_inside : (d s : List ℕ) (t : State) (q : Place) (e : List ℕ) → afterwards q e ≡ list_all d s t → q.at ≤ length s
unfolding list_all
listed_inside d s t q e h = subst (Inside s) (sym h) (from_inside (length s) d s (begins t) (omega arith))

-- what is stored at the front of a buffer that stays as long fits into it
pub stored_inside : (d e xs : List ℕ) → e ≡ stored d 0 xs → length e ≡ length d → length xs ≤ length d
unfolding stored
stored_inside d e xs h k =
    let l : length e ≡ length (xs ++ drop (0 + length xs) d) = ap length h in
    let m : length (xs ++ drop (0 + length xs) d) ≡ length xs + length (drop (0 + length xs) d) = length-append xs (drop (0 + length xs) d) in
    omega arith

-- no more octets are written than the output has
pub written_inside : (d s : List ℕ) (t : State) (q : Place) (e : List ℕ) → afterwards q e ≡ list_all d s t → length e ≡ length d → q.out ≤ length d
written_inside d s t q e h k =
    let a = subst (Told d s (begins t)) (sym h) (list_all_told d s t) in
    let i = a.out_is in
    let j = stored_inside d e a.text a.octets_are k in
    omega arith

-- ---- from one place on

-- behind a place of the buffer, or at the same place of buffer and output
abbrev Onward : Place → Afterwards Place → Type 0
Onward p (afterwards q e) = (p.at < q.at) ⊎ ((q.at ≡ p.at) × (q.out ≡ p.out))

step_onward : (d s : List ℕ) (p : Place) → Onward p (list_step d s p)
unfolding list_step
step_onward d s p = on_frame_is (frame_of (drop p.at s))
  where
    on_listing_is : (n : ℕ) (l : Afterwards (Option Listed)) → Onward p (on_listing p (4 + n) l)
    on_listing_is n (afterwards None e) = inr (refl, refl)
    on_listing_is n (afterwards (Some (Refused out)) e) = inl (omega arith)
    on_listing_is n (afterwards (Some (Accepted out count)) e) = inl (omega arith)

    on_frame_is : (f : Frame) → Onward p (on_frame d (drop p.at s) p f)
    on_frame_is (Err Short) = inr (refl, refl)
    on_frame_is (Err Wrong) = inr (refl, refl)
    on_frame_is (Ok n) = on_listing_is n (list_record d p.out (more p.state.records 1) (datagram_in (drop p.at s) n))

from_onward : (n : ℕ) (d s : List ℕ) (p : Place) → Onward p (list_from n d s p)
unfolding list_from
from_onward zero d s p = inr (refl, refl)
from_onward (suc n) d s p = go (list_step d s p) (step_onward d s p) λ e q. from_onward n e s q
  where
    chain : (q : Place) (e : List ℕ) (w : Afterwards Place) → Onward p (afterwards q e) → Onward q w → Onward p w
    chain q e (afterwards r g) (inl a) (inl b) = inl (omega (arith, a, b))
    chain q e (afterwards r g) (inl a) (inr b) = inl (omega (arith, a, b.0))
    chain q e (afterwards r g) (inr a) (inl b) = inl (omega (arith, a.0, b))
    chain q e (afterwards r g) (inr a) (inr b) = inr (b.0 ∙ a.0, b.1 ∙ a.1)

    on : (q : Place) (e : List ℕ) (b : Bool) → Onward p (afterwards q e) → Onward q (list_from n e s q) → Onward p (cond b (afterwards q e) (list_from n e s q))
    on q e true k r = k
    on q e false k r = chain q e (list_from n e s q) k r

    go : (w : Afterwards Place) → Onward p w → ((e : List ℕ) (q : Place) → Onward q (list_from n e s q)) → Onward p (go_on w λ e q. list_from n e s q)
    go (afterwards q e) k r = on q e (is_over q.stop) k (r e q)

-- some octets are listed, or none and nothing is written
pub some_or_nothing : (d s : List ℕ) (t : State) (q : Place) (e : List ℕ) → afterwards q e ≡ list_all d s t → (0 < q.at) ⊎ ((q.at ≡ 0) × (q.out ≡ 0))
unfolding list_all
some_or_nothing d s t q e h = subst (Onward (begins t)) (sym h) (from_onward (length s) d s (begins t))
