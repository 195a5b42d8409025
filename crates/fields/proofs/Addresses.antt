-- What reading an address finds, by what the reads of its items answer. Assumes nothing.
use Prim.Native.Nat.{ℕ, ◌+◌, ◌*◌, ◌/◌, ◌%◌, ◌^◌, ◌<◌}
use native.Mathlib.Omega.{arith}
use mathlib.Core.Path.{◌≡◌, refl, ap, ◌∙◌}
use mathlib.Core.List.{List, []}
use mathlib.Core.Bool.{false, ◌||◌}
use lib.Dec.{eqb}
use borrow.Author.Tests.{ne_eqb}
use Rattle.xdr.specs.Numbers.{quad_number}
use Rattle.xdr.specs.Items.{word_at, quad_at}
use Rattle.sflow.specs.declared.Refusal.TheVariants.{CutItem, AddressType}
use Rattle.sflow.specs.Decode.{found, refused, mapped, decode}
use Rattle.sflow.specs.Datagram.{address}
use Rattle.sflow.proofs.Steps.{union_arm, union_bad, union_cut, fixed_word, fixed_word_cut, fixed_quad, fixed_quad_cut, fixed_end}
use Rattle.xdr.specs.declared.Quad.{Quad}
use Rattle.fields.specs.Addresses.{quad_of, first_word, address_of}
use Rattle.std.specs.Prelude.{Ok}
use Rattle.xdr.specs.Items.{cut}

-- a word behind a number, taken off again
above : (m d : ℕ) → d < 2 ^ 32 → (m * 2 ^ 32 + d) / 2 ^ 32 ≡ m
above m d h = omega arith

below : (m d : ℕ) → d < 2 ^ 32 → (m * 2 ^ 32 + d) % 2 ^ 32 ≡ d
below m d h = omega arith

-- the four words of the number that four words are
pub quad_words : (a b c d : ℕ) → a < 2 ^ 32 → b < 2 ^ 32 → c < 2 ^ 32 → d < 2 ^ 32 → quad_of (quad_number a b c d) ≡ record { a = a; b = b; c = c; d = d }
quad_words a b c d ha hb hc hd =
    rw
    (above ((a * 2 ^ 32 + b) * 2 ^ 32 + c) d hd, above (a * 2 ^ 32 + b) c hc, above a b hb, below (a * 2 ^ 32 + b) c hc, below a b hb, below ((a * 2 ^ 32 + b) * 2 ^ 32 + c) d hd)

-- an IPv4 address, whole and cut short
pub address_v4 : (s : List ℕ) (at k place a next : ℕ) → word_at s at ≡ Ok (k, place) → k ≡ 1 → word_at s place ≡ Ok (a, next)
    → mapped address_of (decode address s at) ≡ found (record { kind = k; octets = first_word a }) next
address_v4 s at k place a next e f g =
    union_arm _ _ _ s at address_of k place e (rw f refl)
    ∙ rw f (rw (fixed_word s place a next [] g, fixed_end) refl)

pub address_v4_cut : (s : List ℕ) (at k place p : ℕ) → word_at s at ≡ Ok (k, place) → k ≡ 1 → word_at s place ≡ cut p
    → mapped address_of (decode address s at) ≡ refused CutItem p
address_v4_cut s at k place p e f g =
    union_arm _ _ _ s at address_of k place e (rw f refl)
    ∙ rw f (rw (fixed_word_cut s place p [] g) refl)

-- an IPv6 address, whole and cut short
pub address_v6 : (s : List ℕ) (at k place : ℕ) (q : Quad) (next : ℕ) → q.a < 2 ^ 32 → q.b < 2 ^ 32 → q.c < 2 ^ 32 → q.d < 2 ^ 32
    → word_at s at ≡ Ok (k, place) → k ≡ 2 → quad_at s place ≡ Ok (q, next)
    → mapped address_of (decode address s at) ≡ found (record { kind = k; octets = q }) next
address_v6 s at k place q next ha hb hc hd e f g =
    union_arm _ _ _ s at address_of k place e (rw f refl)
    ∙ rw f (rw (fixed_quad s place q next [] g, fixed_end)
    (ap (λ (q : Quad). found (record { kind = 2; octets = q }) next) (quad_words q.a q.b q.c q.d ha hb hc hd)))

pub address_v6_cut : (s : List ℕ) (at k place p : ℕ) → word_at s at ≡ Ok (k, place) → k ≡ 2 → quad_at s place ≡ cut p
    → mapped address_of (decode address s at) ≡ refused CutItem p
address_v6_cut s at k place p e f g =
    union_arm _ _ _ s at address_of k place e (rw f refl)
    ∙ rw f (rw (fixed_quad_cut s place p [] g) refl)

-- any other type
pub address_other : (s : List ℕ) (at k place : ℕ) → word_at s at ≡ Ok (k, place) → (k ≡ 1 → ⊥) → (k ≡ 2 → ⊥)
    → mapped address_of (decode address s at) ≡ refused AddressType at
address_other s at k place e f g =
    let t : (eqb k 1 || (eqb k 2 || false)) ≡ false = rw (ne_eqb k 1 f, ne_eqb k 2 g) in
    union_bad _ _ _ s at address_of k place e t

pub address_cut : (s : List ℕ) (at p : ℕ) → word_at s at ≡ cut p → mapped address_of (decode address s at) ≡ refused CutItem p
address_cut s at p e = union_cut _ _ _ s at address_of p e
