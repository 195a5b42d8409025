-- Octets stored and written into a buffer: what is left there, and what each answer says. Assumes nothing.
use Prim.Native.Nat.{ℕ, ◌+◌, ◌-◌, ◌/◌, ◌%◌, ◌≤◌, ◌<◌}
use native.Mathlib.Nat.{add_assoc}
use native.Mathlib.Numerals.{add-one, add-two, add-three}
use native.Mathlib.Omega.{arith}
use mathlib.Core.Path.{◌≡◌, refl, sym, ap, ◌∙◌}
use mathlib.Core.Logic.{⊎_elim}
use mathlib.Core.List.{List, [], ◌∷◌, ◌++◌, append_assoc}
use lib.ListN.{length, set, take, drop, length-append, length-take, length-drop, replicate, length-replicate, take-append-drop}
use lib.Seq.{sets-eq, paste, take_at, take-add, take-take, take-length, drop-append-add, drop-append-le, drop-drop}
use borrow.Rule.Slice.PartMut.{put_mid, mid_of}
use borrow.Author.Tests.{le-leb, lt-leb}
use Rattle.xdr.specs.Numbers.{octets_of}
use Rattle.xdr.specs.Items.{padded}
use Rattle.xdr.specs.Writes.{stored, write_at, afterwards, padded_octets}
use Rattle.std.specs.Prelude.{Option, Some, None}
use Rattle.xdr.proofs.Octets.{octets_length, octets_join, octets_low, word_octets}
use Rattle.xdr.proofs.Reading.{never, tested, tested_yes, tested_no}

-- Four octets stored one behind the other.
pub stored4 : (d : List ℕ) (at a b c e : ℕ) → at + 4 ≤ length d
    → set (set (set (set d at a) (at + 1) b) (at + 2) c) (at + 3) e ≡ stored d at (a ∷ b ∷ c ∷ e ∷ [])
unfolding stored
stored4 d at a b c e h =
    rw (add-one, add-two, add-three)
    (sets-eq (a ∷ b ∷ c ∷ e ∷ []) d at h ∙ append_assoc (take at d) (a ∷ b ∷ c ∷ e ∷ []) (drop (at + 4) d))

-- The octets of a word stored one behind the other.
pub stored_word : (d : List ℕ) (at v : ℕ) → v < 4294967296 → at + 4 ≤ length d
    → set (set (set (set d at (v / 16777216)) (at + 1) (v / 65536 % 256)) (at + 2) (v / 256 % 256)) (at + 3) (v % 256)
    ≡ stored d at (octets_of 4 v)
stored_word d at v b h = stored4 d at _ _ _ _ h ∙ rw (word_octets v b)

-- Octets copied up to their last are stored.
pub stored_pasted : (d : List ℕ) (at : ℕ) (xs : List ℕ) (n : ℕ) → n ≡ length xs → paste d at xs n ≡ stored d at xs
unfolding stored
stored_pasted d at xs n e = rw (e, take-length) (append_assoc (take at d) xs (drop (at + length xs) d))

-- A part of a buffer that becomes octets, as many as it has, is a store of them.
pub stored_mid : (d : List ℕ) (at : ℕ) (xs : List ℕ) → put_mid at (at + length xs - at) d xs ≡ stored d at xs
unfolding stored
stored_mid d at xs = let k : at + length xs - at ≡ length xs = omega arith in rw (k, drop-drop)

-- A store keeps the length.
pub stored_length : (d : List ℕ) (at : ℕ) (xs : List ℕ) → at + length xs ≤ length d → length (stored d at xs) ≡ length d
unfolding stored
stored_length d at xs h = simp (length-append, length-take, length-drop) (omega arith)

-- Up to the end of what was stored there is what stood before it, and then it.
pub stored_front : (d : List ℕ) (at : ℕ) (xs : List ℕ) → at ≤ length d → take (at + length xs) (stored d at xs) ≡ take at d ++ xs
unfolding stored
stored_front d at xs h =
    let long : length (take at d ++ xs) ≡ at + length xs = rw (length-append, length-take) (omega arith) in
    rw (← append_assoc (take at d) xs (drop (at + length xs) d))
    (take_at (take at d ++ xs) (drop (at + length xs) d) (at + length xs) long)

-- Behind what was stored, from n octets on, stands what stood there.
pub stored_back : (d : List ℕ) (at : ℕ) (xs : List ℕ) (n : ℕ) → at ≤ length d
    → drop (at + length xs + n) (stored d at xs) ≡ drop (at + length xs + n) d
unfolding stored
stored_back d at xs n h =
    let long : at + length xs ≡ length (take at d ++ xs) = rw (length-append, length-take) (omega arith) in
    rw (← append_assoc (take at d) xs (drop (at + length xs) d))
    (ap (λ (k : ℕ). drop (k + n) ((take at d ++ xs) ++ drop (at + length xs) d)) long
    ∙ drop-append-add (take at d ++ xs) (drop (at + length xs) d) n ∙ drop-drop n (at + length xs) d)

-- A store right behind a store is one store.
pub stored_next : (d : List ℕ) (at next : ℕ) (xs ys : List ℕ) → next ≡ at + length xs → next + length ys ≤ length d
    → stored (stored d at xs) next ys ≡ stored d at (xs ++ ys)
unfolding stored
stored_next d at next xs ys e h =
    let inside : at ≤ length d = omega arith in
    let rest : List ℕ = drop (at + length xs + length ys) d in
    rw (e, stored_front d at xs inside, stored_back d at xs (length ys) inside, append_assoc (take at d) xs (ys ++ rest))
    (rw (append_assoc xs ys, length-append, ← add_assoc))

-- A store into a lent part, k octets from an offset on, as the whole then has it.
-- Of &mut d[at..] k is length d - at, and of &mut d[at..end] it is end - at.
pub stored_part : (d : List ℕ) (at k off place : ℕ) (xs : List ℕ) → place ≡ at + off → off + length xs ≤ k → at + k ≤ length d
    → put_mid at k d (stored (mid_of at k d) off xs) ≡ stored d place xs
unfolding stored
stored_part d at k off place xs e h r =
    let inside : off + length xs ≤ length (mid_of at k d) = rw (length-take, length-drop) (omega arith) in
    let small : off ≤ k = omega arith in
    let joined = sym (drop-append-le (off + length xs) (mid_of at k d) (drop k (drop at d)) inside) in
    let back : drop (off + length xs) (mid_of at k d) ++ drop k (drop at d) ≡ drop (at + off + length xs) d =
    joined ∙ rw (take-append-drop, drop-drop, ← add_assoc) in
    rw (e, take-add at off d, take-take off k (drop at d) small) (simp append_assoc (rw back))

-- Octets that fit are stored, and the answer is the offset behind them.
pub write_fits : (d : List ℕ) (at : ℕ) (xs : List ℕ) → at + length xs ≤ length d
    → write_at d at xs ≡ afterwards (Some (at + length xs)) (stored d at xs)
unfolding write_at
write_fits d at xs h = rw (le-leb _ _ h)

-- Octets that do not fit change nothing.
pub write_full : (d : List ℕ) (at : ℕ) (xs : List ℕ) → length d < at + length xs → write_at d at xs ≡ afterwards None d
unfolding write_at
write_full d at xs h = rw (lt-leb _ _ h)

-- The same where the number of the octets is known as n.
pub write_fits_of : (d : List ℕ) (at n : ℕ) (xs : List ℕ) → length xs ≡ n → at + n ≤ length d
    → write_at d at xs ≡ afterwards (Some (at + n)) (stored d at xs)
write_fits_of d at n xs e h = let r : at + length xs ≤ length d = omega arith in write_fits d at xs r ∙ rw e

pub write_full_of : (d : List ℕ) (at n : ℕ) (xs : List ℕ) → length xs ≡ n → length d < at + n → write_at d at xs ≡ afterwards None d
write_full_of d at n xs e h = write_full d at xs (omega arith)

-- A string with its padding has so many octets as its length up to a multiple of four.
pub padded_length : (xs : List ℕ) → length (padded_octets xs) ≡ padded (length xs)
unfolding padded_octets
padded_length xs = rw (length-append, length-replicate) (omega arith)

-- A string's octets and then zero octets, stored one behind the other, are the string with its padding.
pub stored_padded : (d : List ℕ) (at : ℕ) (xs : List ℕ) → at + padded (length xs) ≤ length d
    → stored (stored d at xs) (at + length xs) (replicate (padded (length xs) - length xs) 0) ≡ stored d at (padded_octets xs)
unfolding padded_octets
stored_padded d at xs h =
    stored_next d at (at + length xs) xs (replicate (padded (length xs) - length xs) 0) refl (rw length-replicate (omega arith))

-- The same where the part behind the string, up to the padding's end, is filled with zeros.
pub filled_padded : (d : List ℕ) (at : ℕ) (xs : List ℕ) → at + padded (length xs) ≤ length d
    → let k = at + padded (length xs) - (at + length xs) in
    put_mid (at + length xs) k (stored d at xs) (replicate (length (mid_of (at + length xs) k (stored d at xs))) 0)
    ≡ stored d at (padded_octets xs)
filled_padded d at xs h =
    let e : List ℕ = stored d at xs in
    let first : at + length xs ≤ length d = omega arith in
    let long : length e ≡ length d = stored_length d at xs first in
    let n : ℕ = padded (length xs) - length xs in
    let k : at + padded (length xs) - (at + length xs) ≡ n = omega arith in
    let part : length (mid_of (at + length xs) n e) ≡ n = rw (length-take, length-drop, long) (omega arith) in
    let same : at + length xs + n - (at + length xs) ≡ n = omega arith in
    rw (k, part) (rw (length-replicate, same) at (stored_mid e (at + length xs) (replicate n 0))) ∙ stored_padded d at xs h

-- What a write of octets that fit leaves: its answer, and the buffer.
pub record Fitted (d : List ℕ) (at : ℕ) (xs : List ℕ) (r : Option ℕ) (e : List ℕ) : Type 0 where
  pub answer_is : r ≡ Some (at + length xs)
  pub octets_are : e ≡ stored d at xs

pub wrote_fits : (d : List ℕ) (at : ℕ) (xs : List ℕ) (r : Option ℕ) (e : List ℕ)
    → afterwards r e ≡ write_at d at xs → at + length xs ≤ length d
    → Fitted d at xs r e
wrote_fits d at xs r e q h = let f = write_fits d at xs h in record { answer_is = cc; octets_are = cc }

-- What the answer of an offset says: the octets fit, the offset is behind them, and they are stored.
pub record WriteDone (d : List ℕ) (at : ℕ) (xs : List ℕ) (next : ℕ) (e : List ℕ) : Type 0 where
  pub room : at + length xs ≤ length d
  pub next_is : next ≡ at + length xs
  pub octets_are : e ≡ stored d at xs

pub write_done : (d : List ℕ) (at : ℕ) (xs : List ℕ) (r : Option ℕ) (e : List ℕ) (next : ℕ)
    → afterwards r e ≡ write_at d at xs → r ≡ Some next
    → WriteDone d at xs next e
unfolding write_at
write_done d at xs r e next q a =
    let h = tested_yes (at + length xs) (length d) _ _ _ (λ f. never (cc)) (sym q) in
    record { room = h.0; next_is = cc; octets_are = cc }

-- What the answer that there is no room says: the octets do not fit, and nothing has changed.
pub record NoRoom (d : List ℕ) (at : ℕ) (xs : List ℕ) (e : List ℕ) : Type 0 where
  pub short : length d < at + length xs
  pub octets_are : e ≡ d

pub write_no_room : (d : List ℕ) (at : ℕ) (xs : List ℕ) (r : Option ℕ) (e : List ℕ)
    → afterwards r e ≡ write_at d at xs → r ≡ None → NoRoom d at xs e
unfolding write_at
write_no_room d at xs r e q a =
    let h = tested_no (at + length xs) (length d) _ _ _ (λ f. never (cc)) (sym q) in
    record { short = h.0; octets_are = cc }

-- A write keeps the length, whatever it answers.
pub wrote_length : (d : List ℕ) (at : ℕ) (xs : List ℕ) (r : Option ℕ) (e : List ℕ)
    → afterwards r e ≡ write_at d at xs → length e ≡ length d
unfolding write_at
wrote_length d at xs r e q =
    ⊎_elim
    (λ h. let f = h.1 in let o : e ≡ stored d at xs = cc in rw o (stored_length d at xs h.0))
    (λ h. let f = h.1 in let o : e ≡ d = cc in rw o)
    (tested (at + length xs) (length d) _ _ _ (sym q))

-- A write right behind a write is one write.
pub write_next : (d : List ℕ) (at next : ℕ) (xs ys : List ℕ) → next ≡ at + length xs → next + length ys ≤ length d
    → write_at (stored d at xs) next ys ≡ write_at d at (xs ++ ys)
write_next d at next xs ys e h =
    let first : at + length xs ≤ length d = omega arith in
    let inside : next + length ys ≤ length (stored d at xs) = rw (stored_length d at xs first) h in
    let same : next + length ys ≡ at + length (xs ++ ys) = rw length-append (omega arith) in
    let all : at + length (xs ++ ys) ≤ length d = omega arith in
    write_fits (stored d at xs) next ys inside
    ∙ rw (same, stored_next d at next xs ys e h) (sym (write_fits d at (xs ++ ys) all))

-- The octets of a hyper are written as those of two words, the high one first.
pub write_hyper_words : (d : List ℕ) (at v : ℕ) (r r' : Option ℕ) (e e' : List ℕ) → at + 8 ≤ length d
    → afterwards r e ≡ write_at d at (octets_of 4 (v / 4294967296)) → afterwards r' e' ≡ write_at e (at + 4) (octets_of 4 (v % 4294967296))
    → afterwards r' e' ≡ write_at d at (octets_of 8 v)
write_hyper_words d at v r r' e e' h p q =
    let high : List ℕ = octets_of 4 (v / 4294967296) in
    let f = write_fits_of d at 4 high (octets_length 4 (v / 4294967296)) (omega arith) in
    let o : e ≡ stored d at high = cc in
    let next : at + 4 ≡ at + length high = rw octets_length in
    let room : at + 4 + length (octets_of 4 v) ≤ length d = rw octets_length (omega arith) in
    q ∙ rw (o, octets_low 4 v, write_next d at (at + 4) high (octets_of 4 v) next room) (rw (octets_join 4 4 v))
