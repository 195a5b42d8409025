-- Octets are exactly a value, or exactly so many entries, where they are the octets of one that the form allows. Assumes nothing.
use Prim.Native.Nat.{ℕ}
use native.Mathlib.Omega.{arith}
use mathlib.Core.Path.{◌≡◌, refl, ap, ◌∙◌}
use mathlib.Core.Logic.{◌↔◌}
use mathlib.Core.Bool.{Bool, true, false, cond}
use mathlib.Core.List.{List, flat_map, append-nil}
use mathlib.Core.Option.{Option, none, some, some-injective, none-ne-some}
use lib.ListN.{length}
use lib.Seq.{drop-length}
use lib.Dec.{eqb}
use borrow.Author.Tests.{eqb-true, eq-eqb}
use Rattle.xdr.specs.Numbers.{Octets}
use Rattle.sflow.specs.Slices.{Slice}
use Rattle.sflow.specs.Grammar.{Form, Value, Each, Valid, encode, allows_given}
use Rattle.sflow.specs.Decode.{Decoded, found, refused, entries, decode, ending_at, value_in, entries_in}
use Rattle.sflow.proofs.Sound.{sound, entries_sound}
use Rattle.sflow.proofs.Complete.{complete, entries_read}
use Rattle.sflow.proofs.Allows.{allows_exactly}

-- a part that is the whole
pub whole_slice : (s xs : List ℕ) → s ≡ xs → Slice s 0 (length s) xs
whole_slice s xs e = record { low = omega arith; high = omega arith; split = rw (drop-length s, append-nil) e }

-- what is split off up to the end is all
all_of : (s xs : List ℕ) → Slice s 0 (length s) xs → s ≡ xs
all_of s xs p = p.split ∙ rw (drop-length s, append-nil)

-- what is found ends there
pub ends_exactly : {A : Type 0} (end : ℕ) (d : Decoded A) (v : A) → (ending_at end d ≡ some v) ↔ (d ≡ found v end)
ends_exactly {A} end (found w next) v = (told (eqb next end) refl, λ e. let s : next ≡ end = cc in let t : w ≡ v = cc in rw (eq-eqb next end s, t))
  where
    told : (b : Bool) → eqb next end ≡ b → cond b (some w) none ≡ some v → found w next ≡ found v end
    told true t e =
        ap (λ (x : A). found x next) (some-injective w v e) ∙ ap (λ (n : ℕ). found v n) (eqb-true next end t)
    told false t e = absurd (none-ne-some v e)
ends_exactly end (refused why p) v = (λ e. absurd (none-ne-some v e), λ e. let z : ◌≡◌ {A = ℕ} 0 1 = cc in absurd (omega arith))

-- the octets of a value are exactly it, and those of entries exactly they
pub value_encoded : (g : Form) (v : Value g) → Valid g v → value_in g (encode g v) ≡ some v
unfolding value_in
value_encoded g v h =
    let xs : List ℕ = encode g v in
    (ends_exactly (length xs) (decode g xs 0) v).1 (complete g v h xs 0 (length xs) (whole_slice xs xs refl))

pub entries_encoded : (g : Form) (vs : List (Value g)) → Each (Valid g) vs → entries_in g (length vs) (flat_map (encode g) vs) ≡ some vs
unfolding entries_in
entries_encoded g vs h =
    let xs : List ℕ = flat_map (encode g) vs in
    (ends_exactly (length xs) (entries (decode g xs) (length vs) 0) vs).1 (entries_read g xs vs h 0 (length xs) (whole_slice xs xs refl))

pub value_in_exactly : (g : Form) (xs : List ℕ) → Octets xs → (v : Value g) → (value_in g xs ≡ some v) ↔ (Valid g v × (xs ≡ encode g v))
unfolding value_in
value_in_exactly g xs o v = (told, given)
  where
    told : value_in g xs ≡ some v → Valid g v × (xs ≡ encode g v)
    told e =
        let r = sound g xs o 0 v (length xs) (omega arith) ((ends_exactly (length xs) (decode g xs 0) v).0 e) in
        (r.valid, all_of xs (encode g v) r.slice)

    given : Valid g v × (xs ≡ encode g v) → value_in g xs ≡ some v
    given h = rw h.1 (value_encoded g v h.0)

pub entries_in_exactly : (g : Form) (count : ℕ) (xs : List ℕ) → Octets xs → (vs : List (Value g))
    → (entries_in g count xs ≡ some vs) ↔ ((length vs ≡ count) × Each (Valid g) vs × (xs ≡ flat_map (encode g) vs))
unfolding entries_in
entries_in_exactly g count xs o vs = (told, given)
  where
    told : entries_in g count xs ≡ some vs → (length vs ≡ count) × Each (Valid g) vs × (xs ≡ flat_map (encode g) vs)
    told e =
        let r = entries_sound g xs o count 0 (omega arith) vs (length xs) ((ends_exactly (length xs) (entries (decode g xs) count 0) vs).0 e) in
        (r.many, r.valid, all_of xs (flat_map (encode g) vs) r.slice)

    given : (length vs ≡ count) × Each (Valid g) vs × (xs ≡ flat_map (encode g) vs) → entries_in g count xs ≡ some vs
    given h = rw (h.2, ← h.0) (entries_encoded g vs h.1)

-- a value is given that the form allows: exactly where there is one
pub given_exactly : (g : Form) (x : Option (Value g)) → (allows_given g x ≡ true) ↔ ((v : Value g) × (x ≡ some v) × Valid g v)
given_exactly g none = (λ e. let z : ◌≡◌ {A = ℕ} 0 1 = cc in absurd (omega arith), λ h. absurd (none-ne-some h.0 h.1))
given_exactly g (some v) = (
  λ e. (v, refl, (allows_exactly g v).0 e),
  λ h. rw (some-injective v h.0 h.1) ((allows_exactly g h.0).1 h.2),
)
