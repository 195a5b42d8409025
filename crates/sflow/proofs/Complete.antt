-- The octets of a value that the form allows are read as that value, wherever they stand and whatever follows them. Assumes nothing.
use Prim.Native.Nat.{ℕ, ◌+◌}
use native.Mathlib.Omega.{arith}
use mathlib.Core.Path.{◌≡◌, refl, ap}
use mathlib.Core.List.{List, [], ◌∷◌, flat_map}
use lib.ListN.{length}
use borrow.Author.Tests.{le-leb}
use Rattle.xdr.specs.Writes.{padded_octets}
use Rattle.xdr.proofs.Tests.{is_true}
use Rattle.sflow.specs.Slices.{Slice}
use Rattle.sflow.specs.Grammar.{Limit, unlimited, at_most, Form, fixed, discriminated, opaque, list, ◌then◌, Value, Within, Each, Valid, encode}
use Rattle.sflow.specs.Decode.{Decoded, found, limited, entries, decode}
use Rattle.sflow.proofs.Slices.{ends, first, second}
use Rattle.sflow.proofs.Items.{word_read, word_rest, items_read, string_read}

within : {A : Type 0} (limit : Limit) (n at : ℕ) (d : Decoded A) → Within limit n → limited limit n at d ≡ d
within unlimited n at d h = refl
within (at_most most why) n at d h = rw (le-leb n most h)

entries_complete : (g : Form) (s : List ℕ) → ((v : Value g) → Valid g v → (at next : ℕ) → Slice s at next (encode g v) → decode g s at ≡ found v next)
    → (vs : List (Value g)) → Each (Valid g) vs → (at next : ℕ) → Slice s at next (flat_map (encode g) vs) → entries (decode g s) (length vs) at ≡ found vs next
unfolding entries flat_map
entries_complete g s one [] h at next p = let e : next ≡ at + 0 = ends p in let f : at ≡ next = omega arith in ap (found []) f
entries_complete g s one (v ∷ vs) h at next p =
    let mid = at + length (encode g v) in
    rw (one v h.0 at mid (first (encode g v) (flat_map (encode g) vs) p), entries_complete g s one vs h.1 mid next (second (encode g v) (flat_map (encode g) vs) p))

pub complete : (g : Form) (v : Value g) → Valid g v → (s : List ℕ) (at next : ℕ) → Slice s at next (encode g v) → decode g s at ≡ found v next
unfolding decode encode
complete (fixed ws) vs h s at next p = let r = items_read s ws vs at next h p in rw (r.items, r.numbers)
complete (discriminated why test arms) v h s at next p =
    rw (
      word_read s at v.0 next (encode (arms v.0) v.1) h.0 p,
      is_true (test v.0) h.1,
      complete (arms v.0) v.1 h.2 s (at + 4) next (word_rest s at v.0 next (encode (arms v.0) v.1) p),
    )
complete (opaque limit) xs h s at next p =
    let r = string_read s (at + 4) next xs (word_rest s at (length xs) next (padded_octets xs) p) in
    rw (word_read s at (length xs) next (padded_octets xs) h.0 p, within limit (length xs) at _ h.1, r.padding, r.octets)
complete (list g) vs h s at next p =
    rw (word_read s at (length vs) next (flat_map (encode g) vs) h.0 p)
    (entries_complete g s (λ v f a b q. complete g v f s a b q) vs h.1 (at + 4) next (word_rest s at (length vs) next (flat_map (encode g) vs) p))
complete (f then g) v h s at next p =
    let mid = at + length (encode f v.0) in
    rw (
      complete f v.0 h.0 s at mid (first (encode f v.0) (encode g v.1) p),
      complete g v.1 h.1 s mid next (second (encode f v.0) (encode g v.1) p),
    )

-- and so are entries, one behind the other
pub entries_read : (g : Form) (s : List ℕ) (vs : List (Value g)) → Each (Valid g) vs → (at next : ℕ) → Slice s at next (flat_map (encode g) vs)
    → entries (decode g s) (length vs) at ≡ found vs next
entries_read g s vs h at next p = entries_complete g s (λ v f a b q. complete g v f s a b q) vs h at next p
