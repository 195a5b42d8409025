-- Laws of a number's digits. Assumes nothing.
use Prim.Native.Nat.{ℕ, zero, suc, ◌+◌, ◌-◌, ◌/◌, ◌%◌, ◌^◌, ◌≤◌, ◌<◌}
use native.Mathlib.Nat.{not-suc-le-zero, pow-suc}
use native.Mathlib.Omega.{arith}
use mathlib.Core.Path.{◌≡◌, refl, sym, ap, ◌∙◌}
use mathlib.Core.List.{List, [], ◌∷◌, ◌++◌, append_assoc}
use lib.ListN.{length, take, drop, set, length-append, length-set, take-append-drop}
use lib.Seq.{take-set-le, drop-cons, drop-set-lt, get_or-set_same}
use borrow.Author.Tests.{lt-ltb, le-ltb}
use Rattle.xdr.specs.Writes.{stored}
use Rattle.record_lines.specs.Lines.{Puts}
use Rattle.record_lines.specs.Digits.{digit, last_digits, shown}

last_length : (b k n : ℕ) → length (last_digits b k n) ≡ k
unfolding last_digits
last_length b zero n = refl
last_length b (suc k) n = length-append (last_digits b k (n / b)) (digit (n % b) ∷ []) ∙ rw (last_length b k (n / b)) (omega arith)

last_more : (b k n : ℕ) → 0 < k → last_digits b k n ≡ last_digits b (k - 1) (n / b) ++ (digit (n % b) ∷ [])
unfolding last_digits
last_more b zero n h = absurd (not-suc-le-zero h)
last_more b (suc k) n h = let e : suc k - 1 ≡ k = omega arith in rw e

-- ---- how many decimal digits a number has

-- a number below ten
pub narrow : (f n : ℕ) → 0 < f → n < 10 → last_digits 10 1 n ≡ shown f n
unfolding last_digits shown
narrow zero n p h = absurd (not-suc-le-zero p)
narrow (suc f) n p h = let e : n % 10 ≡ n = omega arith in rw (e, lt-ltb _ _ h)

-- one digit more than a number's tenth has
one_more : (k f n : ℕ) → 10 ≤ n → last_digits 10 k (n / 10) ≡ shown f (n / 10) → last_digits 10 (suc k) n ≡ shown (suc f) n
unfolding last_digits shown
one_more k f n h e = ap (λ (xs : List ℕ). xs ++ (digit (n % 10) ∷ [])) e ∙ rw (le-ltb n 10 h)

one_at_least : (k : ℕ) → 1 ≤ 10 ^ k
one_at_least zero = omega arith
one_at_least (suc k) = let r = one_at_least k in let e = pow-suc 10 k in omega arith

-- a number from 10^j up to 10^(j + 1) has j + 1 digits
pub broad : (j f n : ℕ) → j < f → 10 ^ j ≤ n → n < 10 ^ suc j → last_digits 10 (suc j) n ≡ shown f n
broad j zero n h l m = absurd (not-suc-le-zero h)
broad zero (suc f) n h l m = narrow (suc f) n (omega arith) m
broad (suc i) (suc f) n h l m =
    let e = pow-suc 10 i in
    let e' = pow-suc 10 (suc i) in
    let o = one_at_least i in
    one_more (suc i) f n (omega arith) (broad i f (n / 10) (omega arith) (omega arith) (omega arith))

-- ---- digits stored, the last one first

-- a store in front of what was stored last
stored_front : (d : List ℕ) (at i x : ℕ) (xs : List ℕ) → length xs ≡ i → at + i < length d
    → stored (set d (at + i) x) at xs ≡ stored d at (xs ++ (x ∷ []))
unfolding stored
stored_front d at i x xs e h =
    let front : take at (set d (at + i) x) ≡ take at d = take-set-le at d (at + i) x (omega arith) in
    let long : at + i < length (set d (at + i) x) = rw length-set h in
    let back : drop (at + i) (set d (at + i) x) ≡ x ∷ drop (suc (at + i)) d =
    drop-cons (set d (at + i) x) (at + i) 0 long ∙ rw (get_or-set_same d (at + i) x 0 h, drop-set-lt (suc (at + i)) d (at + i) x (omega arith)) in
    let more : at + length (xs ++ (x ∷ [])) ≡ suc (at + i) = rw (length-append, e) (omega arith) in
    rw (e, front, back, more) (simp append_assoc)

pub stored_none : (d : List ℕ) (at : ℕ) → stored d at [] ≡ d
unfolding stored
stored_none d at = let e : at + 0 ≡ at = omega arith in rw (e, take-append-drop at d)

last_none : (b n : ℕ) → last_digits b 0 n ≡ []
unfolding last_digits
last_none b n = refl

-- so many digits at an offset of a buffer
pub spelled : (b : ℕ) (d e : List ℕ) (at k n : ℕ) → e ≡ stored d at (last_digits b k n) → Puts d at (last_digits b k n) (at + k) e
spelled b d e at k n h = record { next_is = rw (last_length b k n); octets_are = h }

pub spell_next : (b : ℕ) (d : List ℕ) (at i r g : ℕ) → 0 < i → at + i ≤ length d → g ≡ digit (r % b)
    → stored (set d (at + (i - 1)) g) at (last_digits b (i - 1) (r / b)) ≡ stored d at (last_digits b i r)
spell_next b d at i r g h m e =
    let room : at + (i - 1) < length d = omega arith in
    rw (e, last_more b i r h) (stored_front d at (i - 1) (digit (r % b)) (last_digits b (i - 1) (r / b)) (last_length b (i - 1) (r / b)) room)

pub spell_end : (b : ℕ) (d : List ℕ) (at i r : ℕ) → i ≤ 0 → d ≡ stored d at (last_digits b i r)
spell_end b d at zero r h = sym (ap (stored d at) (last_none b r) ∙ stored_none d at)
spell_end b d at (suc i) r h = absurd (not-suc-le-zero h)
