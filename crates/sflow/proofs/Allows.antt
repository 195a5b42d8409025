-- A form allows a value, as a test, exactly where the value is one of its values. Assumes nothing.
use Prim.Native.Nat.{ℕ, zero, suc, ◌^◌, ◌<◌}
use native.Mathlib.Omega.{arith}
use mathlib.Core.Path.{◌≡◌, refl, sym, subst}
use mathlib.Core.Logic.{◌↔◌}
use mathlib.Core.Bool.{Bool, true, false, true≢false, ◌&&◌}
use mathlib.Core.List.{List, [], ◌∷◌}
use lib.ListN.{length}
use lib.Dec.{T, ltb}
use borrow.Author.Tests.{ltb-true, lt-ltb, leb-true, le-leb}
use Rattle.xdr.specs.Numbers.{Octets}
use Rattle.xdr.proofs.Tests.{is_true, and_parts}
use Rattle.sflow.specs.Grammar.{Limit, unlimited, at_most, Form, fixed, discriminated, opaque, list, ◌then◌, Value, Fits, Within, Each, Valid, each_fits, within, every, octet, allows}

-- ---- tests that hold together

-- a test and what it stands for
abbrev Decides : Bool → Type 0 → Type 0
Decides b P = (b ≡ true) ↔ P

pub and_holds : (a b : Bool) → a ≡ true → b ≡ true → (a && b) ≡ true
and_holds a b e f = rw (e, f)

both : {a b : Bool} {P Q : Type 0} → Decides a P → Decides b Q → Decides (a && b) (P × Q)
both {a} {b} p q =
    (λ e. let t = and_parts a b e in (p.0 t.0, q.0 t.1), λ h. and_holds a b (p.1 h.0) (q.1 h.1))

three : {a b c : Bool} {P Q R : Type 0} → Decides a P → Decides b Q → Decides c R → Decides (a && (b && c)) (P × Q × R)
three {a} {b} {c} p q r = (
  λ e. let t = and_parts a (b && c) e in let u = and_parts b c t.1 in (p.0 t.0, q.0 u.0, r.0 u.1),
  λ h. and_holds a (b && c) (p.1 h.0) (and_holds b c (q.1 h.1) (r.1 h.2)),
)

below : (m n : ℕ) → Decides (ltb m n) (m < n)
below m n = (ltb-true m n, lt-ltb m n)

passes : (b : Bool) → Decides b (T b)
passes b = (λ e. subst T (sym e) tt, is_true b)

-- ---- the parts of a form

pub fits_exactly : (ws vs : List ℕ) → (each_fits ws vs ≡ true) ↔ Fits ws vs
fits_exactly [] [] = (λ e. tt, λ h. refl)
fits_exactly [] (v ∷ vs) = (λ e. absurd (true≢false (sym e)), λ h. absurd h)
fits_exactly (w ∷ ws) [] = (λ e. absurd (true≢false (sym e)), λ h. absurd h)
fits_exactly (w ∷ ws) (v ∷ vs) = both (below v (256 ^ w)) (fits_exactly ws vs)

within_exactly : (limit : Limit) (n : ℕ) → (within limit n ≡ true) ↔ Within limit n
within_exactly unlimited n = (λ e. tt, λ h. refl)
within_exactly (at_most most why) n = (leb-true n most, le-leb n most)

every_exactly : {A : Type 0} (test : A → Bool) (P : A → Type 0) → ((x : A) → (test x ≡ true) ↔ P x) → (xs : List A)
    → (every test xs ≡ true) ↔ Each P xs
every_exactly test P one [] = (λ e. tt, λ h. refl)
every_exactly test P one (x ∷ xs) = both (one x) (every_exactly test P one xs)

pub octets_exactly : (xs : List ℕ) → (every octet xs ≡ true) ↔ Octets xs
octets_exactly xs = (told xs, tested xs)
  where
    told : (xs : List ℕ) → every octet xs ≡ true → Octets xs
    told [] e i = omega arith
    told (x ∷ xs) e zero = ltb-true x 256 (and_parts (octet x) (every octet xs) e).0
    told (x ∷ xs) e (suc i) = told xs (and_parts (octet x) (every octet xs) e).1 i

    tested : (xs : List ℕ) → Octets xs → every octet xs ≡ true
    tested [] o = refl
    tested (x ∷ xs) o = and_holds (octet x) (every octet xs) (lt-ltb x 256 (o 0)) (tested xs (λ i. o (suc i)))

-- ---- every form

pub allows_exactly : (g : Form) (v : Value g) → (allows g v ≡ true) ↔ Valid g v
unfolding allows
allows_exactly (fixed ws) vs = fits_exactly ws vs
allows_exactly (discriminated why test arms) v = three (below v.0 (2 ^ 32)) (passes (test v.0)) (allows_exactly (arms v.0) v.1)
allows_exactly (opaque limit) xs = three (below (length xs) (2 ^ 32)) (within_exactly limit (length xs)) (octets_exactly xs)
allows_exactly (list entry) vs = both (below (length vs) (2 ^ 32)) (every_exactly (allows entry) (Valid entry) (allows_exactly entry) vs)
allows_exactly (f then g) v = both (allows_exactly f v.0) (allows_exactly g v.1)

-- a value that the form allows passes its test
pub valid_allowed : (g : Form) (v : Value g) → Valid g v → allows g v ≡ true
valid_allowed g v h = (allows_exactly g v).1 h

-- and one that it does not allow fails it
pub invalid_refused : (g : Form) (v : Value g) → (Valid g v → ⊥) → allows g v ≡ false
invalid_refused g v n = go (allows g v) (allows_exactly g v).0
  where
    go : (b : Bool) → (b ≡ true → Valid g v) → b ≡ false
    go true f = absurd (n (f refl))
    go false f = refl
