-- Packet data and path segments are multiples of four octets long, for every item of theirs is. Assumes nothing.
use Prim.Native.Nat.{ℕ, ◌%◌}
use native.Mathlib.Omega.{arith}
use Prim.{tt}
use mathlib.Core.Path.{◌≡◌, refl}
use mathlib.Core.Bool.{Bool, true, false, cond}
use mathlib.Core.List.{List, [], ◌∷◌, ◌++◌, flat_map}
use lib.ListN.{length, length-append}
use lib.Dec.{eqb}
use Rattle.xdr.specs.Numbers.{octets_of}
use Rattle.xdr.specs.Writes.{padded_octets}
use Rattle.xdr.proofs.Octets.{octets_length}
use Rattle.xdr.proofs.Writing.{padded_length}
use Rattle.sflow.specs.Grammar.{Form, fixed, discriminated, opaque, list, ◌then◌, Value, Each, octets_of_each, encode, Arm, case, chosen}
use Rattle.sflow.specs.Datagram.{sampled_header, sampled_ipv4, sampled_ipv6, packet_data_type, as_path_type}

-- a multiple of four
abbrev Four : ℕ → Type 0
Four w = w % 4 ≡ 0

-- every fixed item of a form is
abbrev InFours : Form → Type 0
InFours (fixed ws) = Each Four ws
InFours (discriminated why test arms) = (v : ℕ) → InFours (arms v)
InFours (opaque limit) = Unit {0}
InFours (list entry) = InFours entry
InFours (f then g) = InFours f × InFours g

both_four : (xs ys : List ℕ) → Four (length xs) → Four (length ys) → Four (length (xs ++ ys))
both_four xs ys a b = rw length-append (omega arith)

word_four : (v : ℕ) → Four (length (octets_of 4 v))
word_four v = rw (octets_length 4 v)

each_four : (ws vs : List ℕ) → Each Four ws → Four (length (octets_of_each ws vs))
unfolding octets_of_each
each_four [] vs h = refl
each_four (w ∷ ws) [] h = refl
each_four (w ∷ ws) (v ∷ vs) h = both_four (octets_of w v) (octets_of_each ws vs) (rw (octets_length w v) h.0) (each_four ws vs h.1)

string_four : (xs : List ℕ) → Four (length (padded_octets xs))
string_four xs = rw (padded_length xs) (omega arith)

entries_four : {A : Type 0} (f : A → List ℕ) → ((v : A) → Four (length (f v))) → (vs : List A) → Four (length (flat_map f vs))
unfolding flat_map
entries_four f one [] = refl
entries_four f one (v ∷ vs) = both_four (f v) (flat_map f vs) (one v) (entries_four f one vs)

in_fours : (g : Form) → InFours g → (v : Value g) → Four (length (encode g v))
unfolding encode
in_fours (fixed ws) h vs = each_four ws vs h
in_fours (discriminated why test arms) h v =
    both_four (octets_of 4 v.0) (encode (arms v.0) v.1) (word_four v.0) (in_fours (arms v.0) (h v.0) v.1)
in_fours (opaque limit) h xs = both_four (octets_of 4 (length xs)) (padded_octets xs) (word_four (length xs)) (string_four xs)
in_fours (list entry) h vs =
    both_four (octets_of 4 (length vs)) (flat_map (encode entry) vs) (word_four (length vs)) (entries_four (encode entry) (in_fours entry h) vs)
in_fours (f then g) h v = both_four (encode f v.0) (encode g v.1) (in_fours f h.0 v.0) (in_fours g h.1 v.1)

-- ---- the forms of sFlow

abbrev Arms : {A : Type 0} → (A → Type 0) → List (Arm A) → Type 0
Arms P [] = Unit {0}
Arms P (case n x ∷ arms) = P x × Arms P arms

chosen_has : {A : Type 0} (P : A → Type 0) (default : A) → P default → (arms : List (Arm A)) → Arms P arms → (v : ℕ) → P (chosen default arms v)
chosen_has P default d [] h v = d
chosen_has P default d (case n x ∷ arms) h v = go (eqb v n) (chosen_has P default d arms h.1 v)
  where
    go : (b : Bool) → P (chosen default arms v) → P (cond b x (chosen default arms v))
    go true other = h.0
    go false other = other

packet_fours : InFours packet_data_type
packet_fours v =
    chosen_has InFours (fixed []) tt (case 1 sampled_header ∷ case 2 sampled_ipv4 ∷ case 3 sampled_ipv6 ∷ []) (
      (λ p. ((refl, tt), tt)),
      (
        (refl, (refl, (refl, (refl, (refl, (refl, (refl, (refl, tt)))))))),
        ((refl, (refl, (refl, (refl, (refl, (refl, (refl, (refl, tt)))))))), tt),
      ),
    ) v

path_fours : InFours as_path_type
path_fours v = (refl, tt)

-- packet data and path segments are multiples of four octets long
pub packet_four : (v : Value packet_data_type) → length (encode packet_data_type v) % 4 ≡ 0
packet_four v = in_fours packet_data_type packet_fours v

pub path_four : (vs : List (Value as_path_type)) → length (flat_map (encode as_path_type) vs) % 4 ≡ 0
path_four vs = entries_four (encode as_path_type) (in_fours as_path_type path_fours) vs
