-- Laws of parts of octets. Assumes nothing.
use Prim.Native.Nat.{ℕ, zero, suc, ◌+◌, ◌-◌, ◌≤◌, ◌<◌}
use native.Mathlib.Numerals.{add-one}
use native.Mathlib.Omega.{arith}
use mathlib.Core.Path.{◌≡◌, refl, sym, ap, ◌∙◌}
use mathlib.Core.List.{List, [], ◌∷◌, ◌++◌, append_assoc}
use lib.ListN.{length, get_or, take, drop, length-append, length-drop, length-take, take-append-drop}
use lib.Seq.{drop-cons, get_or-drop, drop-drop, drop-append-add}
use Rattle.xdr.specs.Numbers.{Octets}
use Rattle.sflow.specs.Slices.{Slice}

pub empty : (s : List ℕ) (at : ℕ) → at ≤ length s → Slice s at at []
empty s at h = record { low = h; high = h; split = refl }

-- two parts that meet are one
pub join : {s : List ℕ} {a b c : ℕ} {xs ys : List ℕ} → Slice s a b xs → Slice s b c ys → Slice s a c (xs ++ ys)
join {xs = xs} p q = record { low = p.low; high = q.high; split = rw append_assoc (p.split ∙ ap (λ (l : List ℕ). xs ++ l) q.split) }

-- a part ends behind its octets
pub ends : {s : List ℕ} {a b : ℕ} {xs : List ℕ} → Slice s a b xs → b ≡ a + length xs
ends {s} {a} {b} {xs} p =
    let e : length s - a ≡ length xs + (length s - b) = rw (← length-drop a s, ← length-drop b s, ← length-append) (ap length p.split) in
    let l = p.low in
    let h = p.high in
    omega arith

pub second : {s : List ℕ} {a c : ℕ} (xs ys : List ℕ) → Slice s a c (xs ++ ys) → Slice s (a + length xs) c ys
second {s} {a} {c} xs ys p =
    let e : c ≡ a + length (xs ++ ys) = ends p in
    let f : length (xs ++ ys) ≡ length xs + length ys = length-append xs ys in
    let h = p.high in
    record {
      low = omega arith;
      high = p.high;
      split = sym (drop-drop (length xs) a s) ∙ rw (p.split, append_assoc) (ap (λ (n : ℕ). drop n (xs ++ (ys ++ drop c s))) (z (length xs)) ∙ drop-append-add xs (ys ++ drop c s) 0);
    }
  where
    z : (n : ℕ) → n ≡ n + 0
    z n = omega arith

pub first : {s : List ℕ} {a c : ℕ} (xs ys : List ℕ) → Slice s a c (xs ++ ys) → Slice s a (a + length xs) xs
first {s} {a} {c} xs ys p =
    let q = second xs ys p in
    record { low = p.low; high = q.low; split = p.split ∙ append_assoc xs ys (drop c s) ∙ ap (λ (l : List ℕ). xs ++ l) (sym q.split) }

-- the octet that a part begins with
pub octet : {s : List ℕ} {a c x : ℕ} {xs : List ℕ} → Slice s a c (x ∷ xs) → get_or s a 0 ≡ x
octet {s} {a} {c} {x} {xs} p =
    let z : a ≡ a + 0 = omega arith in
    ap (λ (i : ℕ). get_or s i 0) z ∙ sym (get_or-drop a s 0 0) ∙ ap (λ (l : List ℕ). get_or l 0 0) p.split

-- one octet that is there
pub single : (s : List ℕ) (at : ℕ) → at < length s → Slice s at (at + 1) (get_or s at 0 ∷ [])
single s at h = record { low = omega arith; high = omega arith; split = rw (add-one, drop-cons s at 0 h) }

-- any octets that are there
pub window : (s : List ℕ) (at n : ℕ) → at + n ≤ length s → Slice s at (at + n) (take n (drop at s))
window s at n h =
    record { low = omega arith; high = h; split = rw (← drop-drop) (sym (take-append-drop n (drop at s))) }

pub window_length : (s : List ℕ) (at n : ℕ) → at + n ≤ length s → length (take n (drop at s)) ≡ n
window_length s at n h = rw (length-take, length-drop) (omega arith)

pub octets_drop : (n : ℕ) (s : List ℕ) → Octets s → Octets (drop n s)
octets_drop n s o i = rw (get_or-drop n s i 0) (o (n + i))

pub octets_take : (n : ℕ) (s : List ℕ) → Octets s → Octets (take n s)
octets_take zero s o i = omega arith
octets_take (suc n) [] o i = omega arith
octets_take (suc n) (x ∷ s) o zero = o 0
octets_take (suc n) (x ∷ s) o (suc i) = octets_take n s (λ j. o (suc j)) i
