-- Entries written again one by one are the entries' octets. Assumes nothing.
use Prim.Native.Nat.{ℕ, ◌+◌}
use mathlib.Core.Path.{◌≡◌, refl}
use mathlib.Core.List.{List, [], ◌∷◌, flat_map}
use mathlib.Core.Option.{Option, some}
use lib.ListN.{length}
use Rattle.sflow.specs.Slices.{Slice}
use Rattle.sflow.specs.Grammar.{Form, Value, Each, Valid, encode}
use Rattle.sflow.specs.Decode.{mapped, decode}
use Rattle.sflow.proofs.Slices.{first, second}
use Rattle.sflow.proofs.Complete.{complete}
use Rattle.sflow.proofs.Allows.{valid_allowed}
use Rattle.rewriting.specs.Forms.{octets_written, each_again}

-- a value that is given and allowed is written as its octets
written_again : (g : Form) (x : Option (Value g)) (v : Value g) → x ≡ some v → Valid g v → octets_written g x ≡ encode g v
written_again g x v e h = rw e (rw (valid_allowed g v h))

-- where each entry is given as its value, the octets of all are written
pub each_again_is : (g : Form) {A : Type 0} (s : List ℕ) (view : ℕ → Value g → A) (give : A → Option (Value g))
    → ((v : Value g) → Valid g v → (at next : ℕ) → Slice s at next (encode g v) → give (view at v) ≡ some v)
    → (vs : List (Value g)) → Each (Valid g) vs → (at next : ℕ) → Slice s at next (flat_map (encode g) vs)
    → each_again (λ p. mapped (view p) (decode g s p)) (λ x. octets_written g (give x)) (length vs) at ≡ flat_map (encode g) vs
unfolding each_again flat_map
each_again_is g s view give one [] h at next p = refl
each_again_is g s view give one (v ∷ vs) h at next p =
    let mid = at + length (encode g v) in
    let here = first (encode g v) (flat_map (encode g) vs) p in
    let rest = second (encode g v) (flat_map (encode g) vs) p in
    rw (
      complete g v h.0 s at mid here,
      written_again g (give (view at v)) v (one v h.0 at mid here) h.0,
      each_again_is g s view give one vs h.1 mid next rest,
    )
