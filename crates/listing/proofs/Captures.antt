-- Laws of a capture's records and their listing. Assumes nothing.
use Rattle.std.proofs.Common.{◌≡◌, ℕ, zero, suc, ◌+◌, ◌-◌, ◌*◌, ◌<◌, ◌≤◌, Bool, true, false, cond, eqb, ltb, leb, List, length, get_or, take, drop, sym, refl, ap, ◌∙◌, not-suc-le-zero, arith, length-drop, get_or-drop, drop-drop, le-ltb, lt-ltb, eq-eqb, ne_eqb, le-leb, leb-true, Ok, Err, Option}
use borrow.Author.Tests.{lt-leb}
use Rattle.xdr.specs.Writes.{afterwards}
use Rattle.record_lines.specs.Records.{list_record}
use Rattle.listing.specs.Captures.{length_in, frame_of, datagram_in, more, behind, stopped_as, list_step, is_over, list_from}
use Rattle.record_lines.specs.declared.Listed.{Listed}
use Rattle.listing.specs.declared.FrameFault.TheVariants.{Short, Wrong}
use Rattle.listing.specs.declared.Stop.TheVariants.{NoRecord, BadRecord}
use Rattle.listing.specs.declared.Place.{Place}

-- ---- the record at an offset

-- fewer than four octets
pub frame_short : (s : List ℕ) (at : ℕ) → length s < at + 4 → Err Short ≡ frame_of (drop at s)
unfolding frame_of
frame_short s at h = let l : length (drop at s) < 4 = rw length-drop (omega arith) in rw (lt-leb _ _ l)

module _ (s : List ℕ) (at : ℕ) (room : at + 4 ≤ length s) where
  enough : 4 ≤ length (drop at s)
  enough = rw length-drop (omega arith)

  first : get_or (drop at s) 0 0 ≡ get_or s at 0
  first = get_or-drop at s 0 0 ∙ ap (λ (k : ℕ). get_or s k 0) (omega arith)

  -- a wrong first octet of the mark
  pub frame_first : (get_or s at 0 ≡ 115 → ⊥) → Err Wrong ≡ frame_of (drop at s)
  unfolding frame_of
  frame_first q = rw (le-leb _ _ enough, first, ne_eqb _ _ q)

  -- a wrong second one
  pub frame_second : get_or s at 0 ≡ 115 → (get_or s (at + 1) 0 ≡ 70 → ⊥) → Err Wrong ≡ frame_of (drop at s)
  unfolding frame_of
  frame_second p q = rw (le-leb _ _ enough, first, eq-eqb _ _ p, get_or-drop at s 1 0, ne_eqb _ _ q)

  module _ (n : ℕ) (p : get_or s at 0 ≡ 115) (q : get_or s (at + 1) 0 ≡ 70) (h : n ≡ get_or s (at + 2) 0 * 256 + get_or s (at + 3) 0) where
    given : length_in (drop at s) ≡ n
    given = rw (get_or-drop at s 2 0, get_or-drop at s 3 0, h)

    -- a length over the limit
    pub frame_long : 65507 < n → Err Wrong ≡ frame_of (drop at s)
    unfolding frame_of
    frame_long over = rw (given, le-leb _ _ enough, first, eq-eqb _ _ p, get_or-drop at s 1 0, eq-eqb _ _ q, lt-ltb _ _ over)

    -- fewer octets than the length says
    pub frame_cut : n ≤ 65507 → length s < at + 4 + n → Err Short ≡ frame_of (drop at s)
    unfolding frame_of
    frame_cut under g =
        let l : length (drop at s) < 4 + n = rw length-drop (omega arith) in
        rw (given, le-leb _ _ enough, first, eq-eqb _ _ p, get_or-drop at s 1 0, eq-eqb _ _ q, le-ltb _ _ under, lt-leb _ _ l)

    pub frame_whole : n ≤ 65507 → at + 4 + n ≤ length s → Ok n ≡ frame_of (drop at s)
    unfolding frame_of
    frame_whole under g =
        let l : 4 + n ≤ length (drop at s) = rw length-drop (omega arith) in
        rw (given, le-leb _ _ enough, first, eq-eqb _ _ p, get_or-drop at s 1 0, eq-eqb _ _ q, le-ltb _ _ under, le-leb _ _ l)

-- a whole record lies inside
pub whole_inside : (s : List ℕ) (n : ℕ) → frame_of s ≡ Ok n → 4 + n ≤ length s
unfolding frame_of
whole_inside s n e =
    go (leb 4 (length s)) (eqb (get_or s 0 0) 115) (eqb (get_or s 1 0) 70) (ltb 65507 (length_in s)) (leb (4 + length_in s) (length s)) refl e
  where
    go : (p q r u v : Bool) → leb (4 + length_in s) (length s) ≡ v
        → cond p (cond q (cond r (cond u (Err Wrong) (cond v (Ok (length_in s)) (Err Short))) (Err Wrong)) (Err Wrong)) (Err Short) ≡ Ok n → 4 + n ≤ length s
    go false q r u v h x = let z : ◌≡◌ {A = ℕ} 0 1 = cc in absurd (omega arith)
    go true false r u v h x = let z : ◌≡◌ {A = ℕ} 0 1 = cc in absurd (omega arith)
    go true true false u v h x = let z : ◌≡◌ {A = ℕ} 0 1 = cc in absurd (omega arith)
    go true true true true v h x = let z : ◌≡◌ {A = ℕ} 0 1 = cc in absurd (omega arith)
    go true true true false false h x = let z : ◌≡◌ {A = ℕ} 0 1 = cc in absurd (omega arith)
    go true true true false true h x =
        let i : length_in s ≡ n = cc in
        let k : 4 + length_in s ≤ length s = leb-true _ _ h in
        omega arith

pub whole_at : (s : List ℕ) (at n : ℕ) → frame_of (drop at s) ≡ Ok n → at + 4 + n ≤ length s
whole_at s at n e = let h = whole_inside (drop at s) n e in let l = length-drop at s in omega arith

-- ---- one step

pub step_short : (d s : List ℕ) (p q : Place) → q ≡ stopped_as p NoRecord → frame_of (drop p.at s) ≡ Err Short → afterwards q d ≡ list_step d s p
unfolding list_step
step_short d s p q v e = rw (v, e)

pub step_wrong : (d s : List ℕ) (p q : Place) → q ≡ stopped_as p BadRecord → frame_of (drop p.at s) ≡ Err Wrong → afterwards q d ≡ list_step d s p
unfolding list_step
step_wrong d s p q v e = rw (v, e)

pub step_whole : (d e s : List ℕ) (p q : Place) (n start index : ℕ) (l k : Option Listed) → q ≡ behind p (4 + n) k
    → frame_of (drop p.at s) ≡ Ok n → start ≡ p.at + 4 → index ≡ more p.state.records 1
    → afterwards l e ≡ list_record d p.out index (take n (drop start s)) → l ≡ k → afterwards q e ≡ list_step d s p
unfolding list_step
step_whole d e s p q n start index l k v f a m x z =
    let h : afterwards k e ≡ list_record d p.out (more p.state.records 1) (datagram_in (drop p.at s) n) =
    rw (sym z, sym m, drop-drop, sym a) x in
    rw (v, f, sym h)

-- ---- all of a buffer's records

pub list_end : (n : ℕ) (d s : List ℕ) (p q : Place) → n ≤ 0 → q ≡ stopped_as p NoRecord → list_from n d s p ≡ afterwards q d
unfolding list_from
list_end zero d s p q h v = rw v
list_end (suc n) d s p q h v = absurd (not-suc-le-zero h)

pub list_more : (n : ℕ) (d s : List ℕ) (p q : Place) (e : List ℕ) → 0 < n → afterwards q e ≡ list_step d s p → is_over q.stop ≡ false
    → list_from n d s p ≡ list_from (n - 1) e s q
unfolding list_from
list_more zero d s p q e h x y = absurd (not-suc-le-zero h)
list_more (suc n) d s p q e h x y = let f : suc n - 1 ≡ n = omega arith in rw (sym x, y, f)

pub list_stop : (n : ℕ) (d s : List ℕ) (p q : Place) (e : List ℕ) → 0 < n → afterwards q e ≡ list_step d s p → is_over q.stop ≡ true
    → list_from n d s p ≡ afterwards q e
unfolding list_from
list_stop zero d s p q e h x y = absurd (not-suc-le-zero h)
list_stop (suc n) d s p q e h x y = rw (sym x, y)
