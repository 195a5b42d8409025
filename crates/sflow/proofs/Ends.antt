-- The offset behind what was read is the offset where it began and the length of its encoding. Assumes nothing.
use Prim.Native.Nat.{ℕ, zero, suc, ◌+◌, ◌-◌, ◌≤◌}
use native.Mathlib.Omega.{arith}
use mathlib.Core.Path.{◌≡◌, refl}
use mathlib.Core.List.{List, [], ◌∷◌, flat_map}
use mathlib.Core.Bool.{Bool, true, false, cond}
use lib.ListN.{length, take, drop, length-append, length-take, length-drop}
use lib.Dec.{leb}
use borrow.Author.Tests.{leb-true}
use Rattle.xdr.specs.Numbers.{number_at}
use Rattle.xdr.specs.Items.{word_at, items_at, numbers_at, nonzero_at, padded, with_padding, padded_at}
use Rattle.xdr.proofs.Octets.{octets_length}
use Rattle.xdr.proofs.Writing.{padded_length}
use Rattle.sflow.specs.declared.Refusal.{Refusal}
use Rattle.sflow.specs.declared.Refusal.TheVariants.{CutItem}
use Rattle.sflow.specs.Grammar.{Limit, unlimited, at_most, Form, fixed, discriminated, opaque, list, ◌then◌, Value, octets_of_each, encode}
use Rattle.sflow.specs.Decode.{Decoded, found, refused, and_then, word_item, fixed_items, string_item, limited, entries, decode}
use Rattle.std.specs.Prelude.{Result, Ok, Err, Option, Some, None}
use Rattle.xdr.specs.Items.{cut}
use Rattle.xdr.specs.declared.Cut.{Cut}
use Rattle.xdr.specs.declared.Unpadded.{Unpadded}
use Rattle.xdr.specs.declared.Unpadded.TheVariants.{CutShort, NonzeroPadding}

-- the value that is found has a length, and ends so far behind an offset
abbrev EndsAfter : {A : Type 0} → (A → ℕ) → ℕ → Decoded A → Type 0
EndsAfter size at (found v next) = next ≡ at + size v
EndsAfter size at (refused why p) = Unit {0}

abbrev size : (g : Form) → Value g → ℕ
size g v = length (encode g v)

on_word : {B : Type 0} (P : Decoded B → Type 0) (f : ℕ → ℕ → Decoded B) (s : List ℕ) (at : ℕ)
    → P (refused CutItem at) → ((v : ℕ) → P (f v (at + 4))) → P (and_then (word_item (word_at s at)) f)
unfolding word_at
on_word P f s at short whole = go (leb (at + 4) (length s))
  where
    go : (b : Bool) → P (and_then (word_item (cond b (Ok (number_at s at 4, at + 4)) (cut at))) f)
    go true = whole (number_at s at 4)
    go false = short

-- two values, one behind the other
both_end : {A B C : Type 0} (sizeA : A → ℕ) (sizeB : B → ℕ) (sizeC : C → ℕ) (pair : A → B → C) (at : ℕ)
    → ((a : A) (b : B) → sizeC (pair a b) ≡ sizeA a + sizeB b) → (d : Decoded A) → EndsAfter sizeA at d
    → (f : ℕ → Decoded B) → ((next : ℕ) → EndsAfter sizeB next (f next))
    → EndsAfter sizeC at (and_then d λ a next. and_then (f next) λ b end. found (pair a b) end)
both_end sizeA sizeB sizeC pair at e (refused why p) h f more = tt
both_end sizeA sizeB sizeC pair at e (found a next) h f more = go (f next) (more next)
  where
    go : (d : Decoded _) → EndsAfter sizeB next d → EndsAfter sizeC at (and_then d λ b end. found (pair a b) end)
    go (found b end) q = let w = e a b in omega arith
    go (refused why p) q = tt

-- ---- items

abbrev RunEnds : List ℕ → ℕ → List ℕ → Result ℕ Cut → Type 0
RunEnds s at ws (Ok next) = next ≡ at + length (octets_of_each ws (numbers_at s at ws))
RunEnds s at ws (Err p) = Unit {0}

items_end : (s ws : List ℕ) (at : ℕ) → RunEnds s at ws (items_at s at ws)
unfolding items_at numbers_at octets_of_each
items_end s [] at = omega arith
items_end s (w ∷ ws) at = go (leb (at + w) (length s)) (items_end s ws (at + w))
  where
    more : (r : Result ℕ Cut) → RunEnds s (at + w) ws r → RunEnds s at (w ∷ ws) r
    more (Ok next) h = rw (length-append, octets_length) (omega arith)
    more (Err p) h = tt

    go : (b : Bool) → RunEnds s (at + w) ws (items_at s (at + w) ws) → RunEnds s at (w ∷ ws) (cond b (items_at s (at + w) ws) (cut at))
    go true rest = more (items_at s (at + w) ws) rest
    go false rest = tt

fixed_end : (s ws : List ℕ) (at : ℕ) → EndsAfter (size (fixed ws)) at (fixed_items (numbers_at s at ws) (items_at s at ws))
unfolding encode
fixed_end s ws at = go (items_at s at ws) (items_end s ws at)
  where
    go : (r : Result ℕ Cut) → RunEnds s at ws r → EndsAfter (size (fixed ws)) at (fixed_items (numbers_at s at ws) r)
    go (Ok next) h = h
    go (Err p) h = tt

string_end : (limit : Limit) (s : List ℕ) (at n : ℕ) → EndsAfter (size (opaque limit)) at (string_item (take n (drop (at + 4) s)) (padded_at s (at + 4) n))
unfolding encode padded_at
string_end limit s at n = go (leb (at + 4 + padded n) (length s)) refl
  where
    zeros : at + 4 + padded n ≤ length s → (z : Option ℕ) → EndsAfter (size (opaque limit)) at (string_item (take n (drop (at + 4) s)) (with_padding (at + 4 + padded n) z))
    zeros room None =
        let long : length (take n (drop (at + 4) s)) ≡ n = rw (length-take, length-drop) (omega arith) in
        rw (length-append, octets_length, padded_length, long) (omega arith)
    zeros room (Some p) = tt

    go : (b : Bool) → leb (at + 4 + padded n) (length s) ≡ b
        → EndsAfter (size (opaque limit)) at (string_item (take n (drop (at + 4) s))
        (cond b (with_padding (at + 4 + padded n) (nonzero_at s (at + 4 + n) (padded n - n))) (Err (CutShort (at + 4)))))
    go true e = zeros (leb-true _ _ e) (nonzero_at s (at + 4 + n) (padded n - n))
    go false e = tt

limited_end : (limit : Limit) (n at : ℕ) (size' : List ℕ → ℕ) (d : Decoded (List ℕ)) → EndsAfter size' at d → EndsAfter size' at (limited limit n at d)
limited_end unlimited n at size' d h = h
limited_end (at_most most why) n at size' d h = go (leb n most)
  where
    go : (b : Bool) → EndsAfter size' at (cond b d (refused why at))
    go true = h
    go false = tt

-- ---- forms

entries_end : (g : Form) (s : List ℕ) → ((at : ℕ) → EndsAfter (size g) at (decode g s at))
    → (n at : ℕ) → EndsAfter (λ vs. length (flat_map (encode g) vs)) at (entries (decode g s) n at)
unfolding entries flat_map
entries_end g s one zero at = omega arith
entries_end g s one (suc n) at =
    both_end (size g) (λ vs. length (flat_map (encode g) vs)) (λ vs. length (flat_map (encode g) vs)) (λ v vs. v ∷ vs) at
    (λ v vs. length-append (encode g v) (flat_map (encode g) vs)) (decode g s at) (one at) (entries (decode g s) n) (entries_end g s one n)

list_end : (g : Form) (n at : ℕ) (d : Decoded (List (Value g))) → EndsAfter (λ vs. length (flat_map (encode g) vs)) (at + 4) d → EndsAfter (size (list g)) at d
unfolding encode
list_end g n at (found vs end) h = rw (length-append, octets_length) (omega arith)
list_end g n at (refused why p) h = tt

union_end : (why : Refusal) (test : ℕ → Bool) (arms : ℕ → Form) (at v : ℕ) (d : Decoded (Value (arms v))) → EndsAfter (size (arms v)) (at + 4) d
    → EndsAfter (size (discriminated why test arms)) at (cond (test v) (and_then d λ w end. found (v, w) end) (refused why at))
unfolding encode
union_end why test arms at v d h = go (test v) d h
  where
    go : (b : Bool) (e : Decoded (Value (arms v))) → EndsAfter (size (arms v)) (at + 4) e
        → EndsAfter (size (discriminated why test arms)) at (cond b (and_then e λ w end. found (v, w) end) (refused why at))
    go true (found w end) q = rw (length-append, octets_length) (omega arith)
    go true (refused y p) q = tt
    go false e q = tt

form_end : (g : Form) (s : List ℕ) (at : ℕ) → EndsAfter (size g) at (decode g s at)
unfolding decode encode
form_end (fixed ws) s at = fixed_end s ws at
form_end (discriminated why test arms) s at =
    on_word (EndsAfter (size (discriminated why test arms)) at) _ s at tt
    (λ v. union_end why test arms at v (decode (arms v) s (at + 4)) (form_end (arms v) s (at + 4)))
form_end (opaque limit) s at =
    on_word (EndsAfter (size (opaque limit)) at) _ s at tt
    (λ n. limited_end limit n at (size (opaque limit)) _ (string_end limit s at n))
form_end (list g) s at =
    on_word (EndsAfter (size (list g)) at) _ s at tt
    (λ n. list_end g n at (entries (decode g s) n (at + 4)) (entries_end g s (form_end g s) n (at + 4)))
form_end (f then g) s at =
    both_end (size f) (size g) (size (f then g)) (λ v w. (v, w)) at (λ v w. length-append (encode f v) (encode g w))
    (decode f s at) (form_end f s at) (decode g s) (form_end g s)

-- the offset behind a form that was read
pub end_is : (g : Form) (s : List ℕ) (at : ℕ) (v : Value g) (next : ℕ) → decode g s at ≡ found v next → next ≡ at + length (encode g v)
end_is g s at v next e = rw e at (form_end g s at)

-- the offset behind entries that were read
pub entries_end_is : (g : Form) (s : List ℕ) (n at : ℕ) (vs : List (Value g)) (next : ℕ) → entries (decode g s) n at ≡ found vs next
    → next ≡ at + length (flat_map (encode g) vs)
entries_end_is g s n at vs next e = rw e at (entries_end g s (form_end g s) n at)
