-- Words, hypers and sixteen octets: what a read answers, and what each answer says of the octets. Assumes nothing.
use Prim.Native.Nat.{ℕ, ◌+◌, ◌≤◌, ◌<◌}
use native.Mathlib.Omega.{arith}
use mathlib.Core.Path.{◌≡◌, refl, sym, ap}
use mathlib.Core.Logic.{◌⊎◌, inl, inr, ⊎_elim}
use mathlib.Core.Bool.{Bool, true, false, cond}
use mathlib.Core.List.{List}
use lib.ListN.{length}
use lib.Dec.{leb}
use borrow.Author.Tests.{le-leb, lt-leb, leb-true, leb-false}
use Rattle.xdr.specs.Numbers.{number_at}
use Rattle.std.specs.Prelude.{Result, Ok}
use Rattle.xdr.specs.declared.Cut.{Cut}
use Rattle.xdr.specs.declared.Quad.{Quad}
use Rattle.xdr.specs.Items.{cut, word_at, hyper_at, quad_in, quad_at}

-- Zero is not one. Two answers that differ, taken for one, make them equal.
pub never : ◌≡◌ {A = ℕ} 0 1 → ⊥
never e = omega arith

-- An answer that goes by whether a number is at most another: which of the two it is, and the order that it tells.
pub tested : {A : Type 0} (n m : ℕ) (x y z : A) → cond (leb n m) x y ≡ z → ((n ≤ m) × (x ≡ z)) ⊎ ((m < n) × (y ≡ z))
tested {A} n m x y z e = go (leb n m) refl e
  where
    go : (b : Bool) → leb n m ≡ b → cond b x y ≡ z → ((n ≤ m) × (x ≡ z)) ⊎ ((m < n) × (y ≡ z))
    go true h q = inl (leb-true n m h, q)
    go false h q = inr (leb-false n m h, q)

-- The same where the answer is not the second one, and where it is not the first.
pub tested_yes : {A : Type 0} (n m : ℕ) (x y z : A) → (y ≡ z → ⊥) → cond (leb n m) x y ≡ z → (n ≤ m) × (x ≡ z)
tested_yes n m x y z f e = ⊎_elim (λ h. h) (λ h. absurd (f h.1)) (tested n m x y z e)

pub tested_no : {A : Type 0} (n m : ℕ) (x y z : A) → (x ≡ z → ⊥) → cond (leb n m) x y ≡ z → (m < n) × (y ≡ z)
tested_no n m x y z f e = ⊎_elim (λ h. absurd (f h.1)) (λ h. h) (tested n m x y z e)

-- A word, a hyper and sixteen octets are read where their octets are there.
pub word_whole : (s : List ℕ) (at : ℕ) → at + 4 ≤ length s → word_at s at ≡ Ok (number_at s at 4, at + 4)
unfolding word_at
word_whole s at h = rw (le-leb _ _ h)

pub hyper_whole : (s : List ℕ) (at : ℕ) → at + 8 ≤ length s → hyper_at s at ≡ Ok (number_at s at 8, at + 8)
unfolding hyper_at
hyper_whole s at h = rw (le-leb _ _ h)

pub quad_whole : (s : List ℕ) (at : ℕ) → at + 16 ≤ length s → quad_at s at ≡ Ok (quad_in s at, at + 16)
unfolding quad_at
quad_whole s at h = rw (le-leb _ _ h)

-- Where some of their octets are missing they are cut, at their own offset.
pub word_missing : (s : List ℕ) (at : ℕ) → length s < at + 4 → word_at s at ≡ cut at
unfolding word_at
word_missing s at h = rw (lt-leb _ _ h)

pub hyper_missing : (s : List ℕ) (at : ℕ) → length s < at + 8 → hyper_at s at ≡ cut at
unfolding hyper_at
hyper_missing s at h = rw (lt-leb _ _ h)

pub quad_missing : (s : List ℕ) (at : ℕ) → length s < at + 16 → quad_at s at ≡ cut at
unfolding quad_at
quad_missing s at h = rw (lt-leb _ _ h)

-- Two answers of a value and an offset that are the same have the same value and the same offset.
pub same_read : {A B E : Type 0} {v w : A} {n m : B} → ◌≡◌ {A = Result (A × B) E} (Ok (v, n)) (Ok (w, m)) → (v ≡ w) × (n ≡ m)
same_read {A} {B} {E} {v} {w} {n} {m} e = let q : ◌≡◌ {A = A × B} (v, n) (w, m) = cc in (ap (λ p. p.0) q, ap (λ p. p.1) q)

-- Two cuts that are the same are at the same offset.
pub same_cut : {A : Type 0} {p q : ℕ} → ◌≡◌ {A = Result A Cut} (cut p) (cut q) → p ≡ q
same_cut {A} {p} {q} e = let c : ◌≡◌ {A = Cut} (record { at = p }) (record { at = q }) = cc in ap (λ c. c.at) c

-- A number that was read: its octets are there, it is their number, and the next offset is behind them.
pub record NumberRead (s : List ℕ) (at w v next : ℕ) : Type 0 where
  pub room : at + w ≤ length s
  pub next_is : next ≡ at + w
  pub value_is : v ≡ number_at s at w

-- Sixteen octets that were read: they are there, the value is their four words, and the next offset is behind them.
pub record WordsRead (s : List ℕ) (at : ℕ) (q : Quad) (next : ℕ) : Type 0 where
  pub room : at + 16 ≤ length s
  pub next_is : next ≡ at + 16
  pub value_is : q ≡ quad_in s at

-- What the answer of a value says.
pub word_read : (s : List ℕ) (at v next : ℕ) → word_at s at ≡ Ok (v, next) → NumberRead s at 4 v next
unfolding word_at
word_read s at v next e =
    let h = tested_yes (at + 4) (length s) _ _ _ (λ q. never (cc)) e in
    let r = same_read h.1 in
    record { room = h.0; next_is = sym r.1; value_is = sym r.0 }

pub hyper_read : (s : List ℕ) (at v next : ℕ) → hyper_at s at ≡ Ok (v, next) → NumberRead s at 8 v next
unfolding hyper_at
hyper_read s at v next e =
    let h = tested_yes (at + 8) (length s) _ _ _ (λ q. never (cc)) e in
    let r = same_read h.1 in
    record { room = h.0; next_is = sym r.1; value_is = sym r.0 }

pub quad_read : (s : List ℕ) (at : ℕ) (q : Quad) (next : ℕ) → quad_at s at ≡ Ok (q, next) → WordsRead s at q next
unfolding quad_at
quad_read s at q next e =
    let h = tested_yes (at + 16) (length s) _ _ _ (λ q. never (cc)) e in
    let r = same_read h.1 in
    record { room = h.0; next_is = sym r.1; value_is = sym r.0 }

-- What the answer of a cut says: its offset is that of the read.
pub word_cut : (s : List ℕ) (at p : ℕ) → word_at s at ≡ cut p → p ≡ at
unfolding word_at
word_cut s at p e = sym (same_cut (tested_no (at + 4) (length s) _ _ _ (λ q. never (cc)) e).1)

pub quad_cut : (s : List ℕ) (at p : ℕ) → quad_at s at ≡ cut p → p ≡ at
unfolding quad_at
quad_cut s at p e = sym (same_cut (tested_no (at + 16) (length s) _ _ _ (λ q. never (cc)) e).1)

-- And that octets are missing.
pub word_short : (s : List ℕ) (at p : ℕ) → word_at s at ≡ cut p → length s < at + 4
unfolding word_at
word_short s at p e = (tested_no (at + 4) (length s) _ _ _ (λ q. never (cc)) e).0

pub hyper_short : (s : List ℕ) (at p : ℕ) → hyper_at s at ≡ cut p → length s < at + 8
unfolding hyper_at
hyper_short s at p e = (tested_no (at + 8) (length s) _ _ _ (λ q. never (cc)) e).0

pub quad_short : (s : List ℕ) (at p : ℕ) → quad_at s at ≡ cut p → length s < at + 16
unfolding quad_at
quad_short s at p e = (tested_no (at + 16) (length s) _ _ _ (λ q. never (cc)) e).0
