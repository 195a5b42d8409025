-- Items, both ways: what is read are the octets of the value, and the octets of a value are read as it. Assumes nothing.
use Prim.Native.Nat.{ℕ, zero, suc, ◌+◌, ◌-◌, ◌*◌, ◌/◌, ◌%◌, ◌^◌, ◌≤◌, ◌<◌}
use native.Mathlib.Nat.{pow-suc}
use native.Mathlib.Omega.{arith}
use mathlib.Core.Path.{◌≡◌, refl, ap}
use mathlib.Core.List.{List, [], ◌∷◌, ◌++◌, append_assoc}
use mathlib.Core.Bool.{Bool, true, false, cond}
use lib.ListN.{length, get_or, take, drop, replicate, length-append, length-replicate}
use lib.Seq.{take_at}
use lib.Dec.{leb, eqb}
use borrow.Author.Tests.{le-leb, leb-true, eqb-true, eq-eqb}
use Rattle.xdr.specs.Numbers.{Octets, number_at, octets_of}
use Rattle.xdr.specs.Items.{word_at, items_at, numbers_at, total_width, nonzero_at, padded, with_padding, padded_at}
use Rattle.xdr.specs.Writes.{padded_octets}
use Rattle.xdr.proofs.Octets.{octets_length}
use Rattle.sflow.specs.Slices.{Slice}
use Rattle.sflow.specs.Grammar.{Fits, octets_of_each}
use Rattle.sflow.proofs.Slices.{empty, join, ends, first, second, octet, single, window, window_length}
use Rattle.std.specs.Prelude.{Result, Ok, Err, Option, Some, None}
use Rattle.xdr.specs.Items.{cut}
use Rattle.xdr.specs.declared.Cut.{Cut}
use Rattle.xdr.specs.declared.Unpadded.{Unpadded}
use Rattle.xdr.specs.declared.Unpadded.TheVariants.{CutShort, NonzeroPadding}

-- ---- numbers, over the width

-- the octets of the number that was read
pub number_slice : (s : List ℕ) → Octets s → (at w : ℕ) → at + w ≤ length s → Slice s at (at + w) (octets_of w (number_at s at w))
unfolding octets_of number_at
number_slice s o at zero h = let z : at + 0 ≡ at = omega arith in rw z (empty s at (omega arith))
number_slice s o at (suc w) h =
    let small = o (at + w) in
    let q : (number_at s at w * 256 + get_or s (at + w) 0) / 256 ≡ number_at s at w = omega arith in
    let r : (number_at s at w * 256 + get_or s (at + w) 0) % 256 ≡ get_or s (at + w) 0 = omega arith in
    let e : at + suc w ≡ at + w + 1 = omega arith in
    rw (q, r, e) (join (number_slice s o at w (omega arith)) (single s (at + w) (omega arith)))

pub number_small : (s : List ℕ) → Octets s → (at w : ℕ) → number_at s at w < 256 ^ w
unfolding number_at
number_small s o at zero = omega arith
number_small s o at (suc w) =
    let small = o (at + w) in
    let before = number_small s o at w in
    rw (pow-suc 256 w) (omega arith)

-- the number whose octets stand there
pub number_read : (s : List ℕ) (at w v next : ℕ) → v < 256 ^ w → Slice s at next (octets_of w v) → number_at s at w ≡ v
unfolding octets_of number_at
number_read s at zero v next h p = let h' : v < 1 = h in omega arith
number_read s at (suc w) v next h p =
    let bound : v < 256 ^ w * 256 = rw (← pow-suc 256 w) h in
    let most : v / 256 < 256 ^ w = omega arith in
    let front = number_read s at w (v / 256) _ most (first (octets_of w (v / 256)) (v % 256 ∷ []) p) in
    let back : Slice s (at + w) next (v % 256 ∷ []) =
    rw (octets_length w (v / 256)) at (second (octets_of w (v / 256)) (v % 256 ∷ []) p) in
    let last = octet back in
    rw (front, last) (omega arith)

-- ---- words

pub record WordSlice (s : List ℕ) (at v next : ℕ) : Type 0 where
  pub slice : Slice s at next (octets_of 4 v)
  pub small : v < 2 ^ 32

pub word_slice : (s : List ℕ) → Octets s → (at : ℕ) → at + 4 ≤ length s → WordSlice s at (number_at s at 4) (at + 4)
word_slice s o at h = record { slice = number_slice s o at 4 h; small = number_small s o at 4 }

pub word_read : (s : List ℕ) (at v next : ℕ) (ys : List ℕ) → v < 2 ^ 32 → Slice s at next (octets_of 4 v ++ ys) → word_at s at ≡ Ok (v, (at + 4))
unfolding word_at
word_read s at v next ys h p =
    let q : Slice s at (at + 4) (octets_of 4 v) = rw (octets_length 4 v) at (first (octets_of 4 v) ys p) in
    simp (le-leb _ _ q.high, number_read s at 4 v (at + 4) h q)

-- what follows a word
pub word_rest : (s : List ℕ) (at v next : ℕ) (ys : List ℕ) → Slice s at next (octets_of 4 v ++ ys) → Slice s (at + 4) next ys
word_rest s at v next ys p = rw (octets_length 4 v) at (second (octets_of 4 v) ys p)

-- ---- runs of items

abbrev pub RunGood : List ℕ → ℕ → List ℕ → Result ℕ Cut → Type 0
RunGood s at ws (Ok next) = Fits ws (numbers_at s at ws) × Slice s at next (octets_of_each ws (numbers_at s at ws))
RunGood s at ws (Err p) = Unit {0}

pub items_good : (s : List ℕ) → Octets s → (ws : List ℕ) (at : ℕ) → at ≤ length s → RunGood s at ws (items_at s at ws)
unfolding items_at numbers_at octets_of_each
items_good s o [] at h = (tt, empty s at h)
items_good s o (w ∷ ws) at h = go (leb (at + w) (length s)) refl (items_good s o ws (at + w))
  where
    more : at + w ≤ length s → (r : Result ℕ Cut) → RunGood s (at + w) ws r → RunGood s at (w ∷ ws) r
    more room (Ok next) q = ((number_small s o at w, q.0), join (number_slice s o at w room) q.1)
    more room (Err p) q = tt

    go : (b : Bool) → leb (at + w) (length s) ≡ b → (at + w ≤ length s → RunGood s (at + w) ws (items_at s (at + w) ws))
        → RunGood s at (w ∷ ws) (cond b (items_at s (at + w) ws) (cut at))
    go true e rest = let room : at + w ≤ length s = leb-true _ _ e in more room (items_at s (at + w) ws) (rest room)
    go false e rest = tt

pub each_length : (ws vs : List ℕ) → Fits ws vs → length (octets_of_each ws vs) ≡ total_width ws
unfolding octets_of_each
each_length [] [] f = refl
each_length [] (v ∷ vs) f = absurd f
each_length (w ∷ ws) [] f = absurd f
each_length (w ∷ ws) (v ∷ vs) f = rw (length-append, octets_length w v, each_length ws vs f.1)

pub record ItemsRead (s : List ℕ) (at next : ℕ) (ws vs : List ℕ) : Type 0 where
  pub items : items_at s at ws ≡ Ok next
  pub numbers : numbers_at s at ws ≡ vs

pub items_read : (s : List ℕ) (ws vs : List ℕ) (at next : ℕ) → Fits ws vs → Slice s at next (octets_of_each ws vs) → ItemsRead s at next ws vs
unfolding items_at numbers_at octets_of_each
items_read s [] [] at next f p = let e : next ≡ at + 0 = ends p in let e' : at ≡ next = omega arith in record { items = ap Ok e'; numbers = refl }
items_read s [] (v ∷ vs) at next f p = absurd f
items_read s (w ∷ ws) [] at next f p = absurd f
items_read s (w ∷ ws) (v ∷ vs) at next f p =
    let q : Slice s at (at + w) (octets_of w v) = rw (octets_length w v) at (first (octets_of w v) (octets_of_each ws vs) p) in
    let rest : Slice s (at + w) next (octets_of_each ws vs) = rw (octets_length w v) at (second (octets_of w v) (octets_of_each ws vs) p) in
    let r = items_read s ws vs (at + w) next f.1 rest in
    record {
      items = simp (le-leb _ _ q.high) r.items;
      numbers = rw (number_read s at w v (at + w) f.0 q, r.numbers);
    }

-- ---- strings

abbrev pub ZerosGood : List ℕ → ℕ → ℕ → Option ℕ → Type 0
ZerosGood s at n None = Slice s at (at + n) (replicate n 0)
ZerosGood s at n (Some p) = Unit {0}

pub zeros_good : (s : List ℕ) (n at : ℕ) → at + n ≤ length s → ZerosGood s at n (nonzero_at s at n)
unfolding nonzero_at
zeros_good s zero at h = let z : at + 0 ≡ at = omega arith in rw z (empty s at (omega arith))
zeros_good s (suc n) at h = go (eqb (get_or s at 0) 0) refl (zeros_good s n (at + 1) (omega arith))
  where
    more : get_or s at 0 ≡ 0 → (z : Option ℕ) → ZerosGood s (at + 1) n z → ZerosGood s at (suc n) z
    more e None q =
        let f : at + suc n ≡ at + 1 + n = omega arith in
        let one : Slice s at (at + 1) (0 ∷ []) = rw e at (single s at (omega arith)) in
        rw f (join one q)
    more e (Some p) q = tt

    go : (b : Bool) → eqb (get_or s at 0) 0 ≡ b → ZerosGood s (at + 1) n (nonzero_at s (at + 1) n)
        → ZerosGood s at (suc n) (cond b (nonzero_at s (at + 1) n) (Some at))
    go true e rest = more (eqb-true _ _ e) (nonzero_at s (at + 1) n) rest
    go false e rest = tt

pub zeros_read : (s : List ℕ) (n at next : ℕ) → Slice s at next (replicate n 0) → nonzero_at s at n ≡ None
unfolding nonzero_at
zeros_read s zero at next p = refl
zeros_read s (suc n) at next p =
    simp (eq-eqb _ _ (octet p)) (zeros_read s n (at + 1) next (second (0 ∷ []) (replicate n 0) p))

pub record StringSlice (s : List ℕ) (at next n : ℕ) : Type 0 where
  pub long : length (take n (drop at s)) ≡ n
  pub slice : Slice s at next (padded_octets (take n (drop at s)))

abbrev pub StringGood : List ℕ → ℕ → ℕ → Result ℕ Unpadded → Type 0
StringGood s at n (Ok next) = StringSlice s at next n
StringGood s at n (Err (CutShort p)) = Unit {0}
StringGood s at n (Err (NonzeroPadding p)) = Unit {0}

pub string_good : (s : List ℕ) (at n : ℕ) → StringGood s at n (padded_at s at n)
unfolding padded_at padded_octets
string_good s at n = go (leb (at + padded n) (length s)) refl
  where
    zeros : at + padded n ≤ length s → (z : Option ℕ) → ZerosGood s (at + n) (padded n - n) z → StringGood s at n (with_padding (at + padded n) z)
    zeros room None q =
        let there : at + n ≤ length s = omega arith in
        let long = window_length s at n there in
        let e : at + n + (padded n - n) ≡ at + padded n = omega arith in
        let whole : Slice s at (at + padded n) (take n (drop at s) ++ replicate (padded n - n) 0) = rw e at (join (window s at n there) q) in
        record { long = long; slice = rw long whole }
    zeros room (Some p) q = tt

    go : (b : Bool) → leb (at + padded n) (length s) ≡ b
        → StringGood s at n (cond b (with_padding (at + padded n) (nonzero_at s (at + n) (padded n - n))) (Err (CutShort at)))
    go true e =
        let room : at + padded n ≤ length s = leb-true _ _ e in
        zeros room (nonzero_at s (at + n) (padded n - n)) (zeros_good s (padded n - n) (at + n) (omega arith))
    go false e = tt

pub record StringRead (s : List ℕ) (at next : ℕ) (xs : List ℕ) : Type 0 where
  pub padding : padded_at s at (length xs) ≡ Ok next
  pub octets : take (length xs) (drop at s) ≡ xs

pub string_read : (s : List ℕ) (at next : ℕ) (xs : List ℕ) → Slice s at next (padded_octets xs) → StringRead s at next xs
unfolding padded_at padded_octets
string_read s at next xs p =
    let n = length xs in
    let zs : List ℕ = replicate (padded n - n) 0 in
    let rest : Slice s (at + n) next zs = second xs zs p in
    let e : next ≡ at + n + length zs = ends rest in
    let long : length zs ≡ padded n - n = length-replicate (padded n - n) 0 in
    let e' : at + padded n ≡ next = omega arith in
    let room : at + padded n ≤ length s = let h = rest.high in omega arith in
    record {
      padding = rw (le-leb (at + padded n) (length s) room, zeros_read s (padded n - n) (at + n) next rest, e');
      octets = rw (p.split, append_assoc) (take_at xs (zs ++ drop next s) n refl);
    }
