-- What reading a form finds is a value that the form allows, and the octets up to the offset behind it are the value's. Assumes nothing.
use Prim.Native.Nat.{ℕ, zero, suc, ◌+◌, ◌≤◌}
use mathlib.Core.Path.{◌≡◌, refl, ap}
use mathlib.Core.List.{List, ◌∷◌, flat_map}
use mathlib.Core.Bool.{Bool, true, false, cond}
use lib.ListN.{length, take, drop}
use lib.Dec.{T, leb}
use borrow.Author.Tests.{leb-true}
use Rattle.xdr.specs.Numbers.{Octets, number_at}
use Rattle.xdr.specs.Items.{word_at, items_at, numbers_at, padded_at}
use Rattle.sflow.specs.declared.Refusal.{Refusal}
use Rattle.sflow.specs.declared.Refusal.TheVariants.{CutItem}
use Rattle.sflow.specs.Slices.{Slice}
use Rattle.sflow.specs.Grammar.{Limit, unlimited, at_most, Form, fixed, discriminated, opaque, list, ◌then◌, Value, Within, Each, Valid, encode}
use Rattle.sflow.specs.Decode.{Decoded, found, refused, and_then, word_item, fixed_items, string_item, limited, entries, decode}
use Rattle.sflow.proofs.Slices.{empty, join, octets_drop, octets_take}
use Rattle.sflow.proofs.Items.{WordSlice, word_slice, RunGood, items_good, StringGood, string_good}
use Rattle.std.specs.Prelude.{Result, Ok, Err, Option, Some, None}
use Rattle.xdr.specs.Items.{cut}
use Rattle.xdr.specs.declared.Cut.{Cut}
use Rattle.xdr.specs.declared.Unpadded.{Unpadded}
use Rattle.xdr.specs.declared.Unpadded.TheVariants.{CutShort, NonzeroPadding}

-- a value that the form allows, whose octets stand from an offset up to another
pub record Read (g : Form) (s : List ℕ) (at : ℕ) (v : Value g) (next : ℕ) : Type 0 where
  pub valid : Valid g v
  pub slice : Slice s at next (encode g v)

-- what is found is such a value; of a refusal nothing is said here
abbrev pub Good : (g : Form) → List ℕ → ℕ → Decoded (Value g) → Type 0
Good g s at (found v next) = Read g s at v next
Good g s at (refused why p) = Unit {0}

-- what holds of a cut word, and of what follows a word that is there, holds of both
on_word : {B : Type 0} (P : Decoded B → Type 0) (f : ℕ → ℕ → Decoded B) (s : List ℕ) → Octets s → (at : ℕ)
    → P (refused CutItem at) → ((v next : ℕ) → WordSlice s at v next → P (f v next)) → P (and_then (word_item (word_at s at)) f)
unfolding word_at
on_word P f s o at short whole = go (leb (at + 4) (length s)) refl
  where
    go : (b : Bool) → leb (at + 4) (length s) ≡ b → P (and_then (word_item (cond b (Ok (number_at s at 4, at + 4)) (cut at))) f)
    go true e = whole (number_at s at 4) (at + 4) (word_slice s o at (leb-true _ _ e))
    go false e = short

fixed_good : (s : List ℕ) → Octets s → (ws : List ℕ) (at : ℕ) → at ≤ length s → Good (fixed ws) s at (fixed_items (numbers_at s at ws) (items_at s at ws))
unfolding encode
fixed_good s o ws at h = go (items_at s at ws) (items_good s o ws at h)
  where
    go : (r : Result ℕ Cut) → RunGood s at ws r → Good (fixed ws) s at (fixed_items (numbers_at s at ws) r)
    go (Ok next) q = record { valid = q.0; slice = q.1 }
    go (Err p) q = tt

string_sound : (limit : Limit) (s : List ℕ) → Octets s → (at n next : ℕ) → WordSlice s at n next → Within limit n
    → Good (opaque limit) s at (string_item (take n (drop next s)) (padded_at s next n))
unfolding encode
string_sound limit s o at n next w fits = go (padded_at s next n) (string_good s next n)
  where
    go : (r : Result ℕ Unpadded) → StringGood s next n r → Good (opaque limit) s at (string_item (take n (drop next s)) r)
    go (Ok end) q =
        record {
          valid = (rw q.long w.small, rw q.long fits, octets_take n (drop next s) (octets_drop next s o));
          slice = rw q.long (join w.slice q.slice);
        }
    go (Err (CutShort p)) q = tt
    go (Err (NonzeroPadding p)) q = tt

opaque_good : (limit : Limit) (s : List ℕ) → Octets s → (at n next : ℕ) → WordSlice s at n next
    → Good (opaque limit) s at (limited limit n at (string_item (take n (drop next s)) (padded_at s next n)))
opaque_good unlimited s o at n next w = string_sound unlimited s o at n next w tt
opaque_good (at_most most why) s o at n next w = go (leb n most) refl
  where
    go : (b : Bool) → leb n most ≡ b
        → Good (opaque (at_most most why)) s at (cond b (string_item (take n (drop next s)) (padded_at s next n)) (refused why at))
    go true e = string_sound (at_most most why) s o at n next w (leb-true _ _ e)
    go false e = tt

-- ---- entries of a list

-- so many entries that were read: the form allows each, and their octets stand there
pub record EntriesRead (g : Form) (s : List ℕ) (n at : ℕ) (vs : List (Value g)) (next : ℕ) : Type 0 where
  pub many : length vs ≡ n
  pub valid : Each (Valid g) vs
  pub slice : Slice s at next (flat_map (encode g) vs)

-- the same of what reading finds; of a refusal nothing is said
abbrev pub EntriesGood : (g : Form) → List ℕ → ℕ → ℕ → Decoded (List (Value g)) → Type 0
EntriesGood g s n at (found vs next) = EntriesRead g s n at vs next
EntriesGood g s n at (refused why p) = Unit {0}

entries_good : (g : Form) (s : List ℕ) → ((at : ℕ) → at ≤ length s → Good g s at (decode g s at))
    → (n at : ℕ) → at ≤ length s → EntriesGood g s n at (entries (decode g s) n at)
unfolding entries flat_map
entries_good g s one zero at h = record { many = refl; valid = tt; slice = empty s at h }
entries_good g s one (suc n) at h = go (decode g s at) (one at h) (entries_good g s one n)
  where
    rest : (v : Value g) (next : ℕ) → Read g s at v next → (d : Decoded (List (Value g))) → EntriesGood g s n next d
        → EntriesGood g s (suc n) at (and_then d λ vs end. found (v ∷ vs) end)
    rest v next r (found vs end) q =
        record { many = ap suc q.many; valid = (r.valid, q.valid); slice = join r.slice q.slice }
    rest v next r (refused why p) q = tt

    go : (d : Decoded (Value g)) → Good g s at d → ((next : ℕ) → next ≤ length s → EntriesGood g s n next (entries (decode g s) n next))
        → EntriesGood g s (suc n) at (and_then d λ v next. and_then (entries (decode g s) n next) λ vs end. found (v ∷ vs) end)
    go (found v next) r more = rest v next r (entries (decode g s) n next) (more next r.slice.high)
    go (refused why p) r more = tt

list_good : (g : Form) (s : List ℕ) (at n next : ℕ) → WordSlice s at n next → (d : Decoded (List (Value g))) → EntriesGood g s n next d
    → Good (list g) s at d
unfolding encode
list_good g s at n next w (found vs end) q =
    record { valid = (rw q.many w.small, q.valid); slice = rw q.many (join w.slice q.slice) }
list_good g s at n next w (refused why p) q = tt

-- ---- forms

arm_good : (why : Refusal) (test : ℕ → Bool) (arms : ℕ → Form) (s : List ℕ) (at v next : ℕ) → WordSlice s at v next → T (test v)
    → (d : Decoded (Value (arms v))) → Good (arms v) s next d → Good (discriminated why test arms) s at (and_then d λ w end. found (v, w) end)
unfolding encode
arm_good why test arms s at v next w passes (found x end) q =
    record { valid = (w.small, passes, q.valid); slice = join w.slice q.slice }
arm_good why test arms s at v next w passes (refused y p) q = tt

union_good : (why : Refusal) (test : ℕ → Bool) (arms : ℕ → Form) (s : List ℕ) (at v next : ℕ) → WordSlice s at v next
    → Good (arms v) s next (decode (arms v) s next)
    → Good (discriminated why test arms) s at (cond (test v) (and_then (decode (arms v) s next) λ w end. found (v, w) end) (refused why at))
union_good why test arms s at v next w more = go (test v) refl
  where
    go : (b : Bool) → test v ≡ b → Good (discriminated why test arms) s at (cond b (and_then (decode (arms v) s next) λ x end. found (v, x) end) (refused why at))
    go true e = arm_good why test arms s at v next w (rw e tt) (decode (arms v) s next) more
    go false e = tt

then_good : (f g : Form) (s : List ℕ) (at : ℕ) (d : Decoded (Value f)) → Good f s at d
    → ((next : ℕ) → next ≤ length s → Good g s next (decode g s next))
    → Good (f then g) s at (and_then d λ v next. and_then (decode g s next) λ w end. found (v, w) end)
unfolding encode
then_good f g s at (refused why p) r more = tt
then_good f g s at (found v next) r more = go (decode g s next) (more next r.slice.high)
  where
    go : (d : Decoded (Value g)) → Good g s next d → Good (f then g) s at (and_then d λ w end. found (v, w) end)
    go (found w end) q = record { valid = (r.valid, q.valid); slice = join r.slice q.slice }
    go (refused why p) q = tt

pub good : (g : Form) (s : List ℕ) → Octets s → (at : ℕ) → at ≤ length s → Good g s at (decode g s at)
unfolding decode
good (fixed ws) s o at h = fixed_good s o ws at h
good (discriminated why test arms) s o at h =
    on_word (Good (discriminated why test arms) s at) _ s o at tt
    (λ v next w. union_good why test arms s at v next w (good (arms v) s o next w.slice.high))
good (opaque limit) s o at h = on_word (Good (opaque limit) s at) _ s o at tt (λ n next w. opaque_good limit s o at n next w)
good (list g) s o at h =
    on_word (Good (list g) s at) _ s o at tt
    (λ n next w. list_good g s at n next w (entries (decode g s) n next) (entries_good g s (good g s o) n next w.slice.high))
good (f then g) s o at h = then_good f g s at (decode f s at) (good f s o at h) (good g s o)

pub entries_sound : (g : Form) (s : List ℕ) → Octets s → (n at : ℕ) → at ≤ length s → (vs : List (Value g)) (next : ℕ)
    → entries (decode g s) n at ≡ found vs next → EntriesRead g s n at vs next
entries_sound g s o n at h vs next e = rw e at (entries_good g s (good g s o) n at h)

pub sound : (g : Form) (s : List ℕ) → Octets s → (at : ℕ) (v : Value g) (next : ℕ) → at ≤ length s → decode g s at ≡ found v next → Read g s at v next
sound g s o at v next h e = rw e at (good g s o at h)
