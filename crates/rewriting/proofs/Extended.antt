-- Extended data are given again from what the reader gives of them. Assumes nothing.
use Prim.Native.Nat.{ℕ, zero, suc, ◌+◌}
use native.Mathlib.Omega.{arith}
use Prim.{tt}
use mathlib.Core.Path.{◌≡◌, ap, ◌∙◌}
use mathlib.Core.List.{List, [], ◌∷◌, ◌++◌, flat_map}
use mathlib.Core.Option.{some}
use lib.ListN.{length}
use Rattle.sflow.specs.Slices.{Slice}
use Rattle.sflow.specs.Grammar.{unlimited, Form, fixed, opaque, list, Arm, case, Value, Valid, encode}
use Rattle.sflow.specs.Decode.{entries_in}
use Rattle.sflow.specs.Datagram.{int, word, address, extended_switch, extended_router, as_path_type, extended_gateway, extended_user, extended_url, extended_data_type}
use Rattle.sflow.proofs.Slices.{first, second}
use Rattle.sflow.proofs.Items.{word_rest, each_length}
use Rattle.sflow.proofs.Exact.{entries_encoded}
use Rattle.fields.specs.Parts.{item, size, entries_at}
use Rattle.fields.specs.Strings.{text_in}
use Rattle.extended_data.specs.ExtendedData.{switch_of, router_of, segment_of, gateway_of, user_of, url_of, extended_of}
use Rattle.form_writer.specs.Values.{words_value}
use Rattle.rewriting.specs.Forms.{words_in, segment_given, path_again, extended_given}
use Rattle.rewriting.proofs.Fields.{items_are, address_again, text_again, words_again, past_all}
use Rattle.rewriting.proofs.Entries.{each_again_is}

switch_again : (s : List ℕ) (v : Value extended_switch) → Valid extended_switch v → extended_given s (switch_of v) ≡ some (1, v)
switch_again s v h = ap (λ (l : List ℕ). some (1, l)) (items_are (int ∷ int ∷ int ∷ int ∷ []) v h)

router_again : (s : List ℕ) (v : Value extended_router) → Valid extended_router v → extended_given s (router_of v) ≡ some (2, v)
router_again s v h =
    let masks : List ℕ = item v.1 0 ∷ item v.1 1 ∷ [] in
    ap (λ (a : Value address). some (2, (a, masks))) (address_again v.0 h.0)
    ∙ ap (λ (l : List ℕ). some (2, (v.0, l))) (items_are (int ∷ int ∷ []) v.1 h.1)

-- the numbers of a list of words that stands at its count word
list_words : (s : List ℕ) (vs : List (Value word)) (at next : ℕ) → Valid (list word) vs → Slice s at next (encode (list word) vs)
    → words_value (words_in s (entries_at (at + 4) vs)) ≡ vs
unfolding encode
list_words s vs at next h p = words_again s vs (at + 4) next h.1 (word_rest s at (length vs) next (flat_map (encode word) vs) p)

-- a path segment: type, numbers
segment_again : (s : List ℕ) (v : Value as_path_type) → Valid as_path_type v → (at next : ℕ) → Slice s at next (encode as_path_type v)
    → segment_given s (segment_of at v) ≡ some v
unfolding encode
segment_again s v h at next p =
    let q : Slice s (at + 4) next (encode (list word) v.1) = word_rest s at v.0 next _ p in
    let z : at + 8 ≡ at + 4 + 4 = omega arith in
    rw z (ap (λ (ws : List (Value word)). some (v.0, ws)) (list_words s v.1 (at + 4) next h.2 q))

-- the segments of a path, which stands at its count word
path_again_is : (s : List ℕ) (vs : List (Value as_path_type)) (at next : ℕ) → Valid (list as_path_type) vs → Slice s at next (encode (list as_path_type) vs)
    → path_again s (entries_at (at + 4) vs) ≡ flat_map (encode as_path_type) vs
unfolding encode
path_again_is s vs at next h p =
    each_again_is as_path_type s segment_of (segment_given s) (segment_again s) vs h.1 (at + 4) next (word_rest s at (length vs) next (flat_map (encode as_path_type) vs) p)

gateway_again : (s : List ℕ) (at next : ℕ) (v : Value extended_gateway) → Valid extended_gateway v → Slice s at next (encode extended_gateway v)
    → extended_given s (gateway_of at v) ≡ some (3, v)
unfolding encode
gateway_again s at next v h p =
    let ws : List ℕ = v.0 in
    let path : List (Value as_path_type) = v.1.0 in
    let comms : List (Value word) = v.1.1.0 in
    let pref : Value word = v.1.1.1 in
    let long : length (encode (fixed (int ∷ int ∷ int ∷ [])) ws) ≡ 12 = each_length (int ∷ int ∷ int ∷ []) ws h.0 in
    let behind : Slice s (at + 12) next (encode (list as_path_type) path ++ (encode (list word) comms ++ encode word pref)) =
    rw long at (second (encode (fixed (int ∷ int ∷ int ∷ [])) ws) _ p) in
    let a : path_again s (entries_at (at + 12 + 4) path) ≡ flat_map (encode as_path_type) path =
    path_again_is s path (at + 12) _ h.1.0 (first (encode (list as_path_type) path) _ behind) in
    let c : words_value (words_in s (entries_at (at + 12 + size (list as_path_type) path + 4) comms)) ≡ comms =
    list_words s comms (at + 12 + size (list as_path_type) path) _ h.1.1.0
    (first (encode (list word) comms) (encode word pref) (second (encode (list as_path_type) path) _ behind)) in
    let z : at + 16 ≡ at + 12 + 4 = omega arith in
    let e : entries_in as_path_type (length path) (flat_map (encode as_path_type) path) ≡ some path = entries_encoded as_path_type path h.1.0.1 in
    rw (z, a, e)
    (ap (λ (l : List (Value word)). some (3, (item ws 0 ∷ item ws 1 ∷ item ws 2 ∷ [], (path, (l, (item pref 0 ∷ [])))))) c
    ∙ ap (λ (l : List ℕ). some (3, (item ws 0 ∷ item ws 1 ∷ item ws 2 ∷ [], (path, (comms, l))))) (items_are (int ∷ []) pref h.1.1.1)
    ∙ ap (λ (l : List ℕ). some (3, (l, (path, (comms, pref))))) (items_are (int ∷ int ∷ int ∷ []) ws h.0))

user_again : (s : List ℕ) (at next : ℕ) (v : Value extended_user) → Valid extended_user v → Slice s at next (encode extended_user v)
    → extended_given s (user_of at v) ≡ some (4, v)
unfolding encode
user_again s at next v h p =
    let src : List ℕ = v.0 in
    let dst : List ℕ = v.1 in
    let a : text_in s (record { at = at + 4; length = length src }) ≡ src =
    text_again s at _ unlimited src (first (encode (opaque unlimited) src) (encode (opaque unlimited) dst) p) in
    let b : text_in s (record { at = at + size (opaque unlimited) src + 4; length = length dst }) ≡ dst =
    text_again s (at + size (opaque unlimited) src) next unlimited dst (second (encode (opaque unlimited) src) (encode (opaque unlimited) dst) p) in
    rw (a, b)

url_again : (s : List ℕ) (at next : ℕ) (v : Value extended_url) → Valid extended_url v → Slice s at next (encode extended_url v)
    → extended_given s (url_of at v) ≡ some (5, v)
unfolding encode
url_again s at next v h p =
    let a : text_in s (record { at = at + 4 + 4; length = length v.1 }) ≡ v.1 =
    text_again s (at + 4) next unlimited v.1 (word_rest s at v.0 next (encode (opaque unlimited) v.1) p) in
    rw a

-- the arms of extended data
abbrev extended_types : List (Arm Form)
extended_types = case 1 extended_switch ∷ case 2 extended_router ∷ case 3 extended_gateway ∷ case 4 extended_user ∷ case 5 extended_url ∷ []

-- an extended entry of any type
pub extended_again : (s : List ℕ) (v : Value extended_data_type) → Valid extended_data_type v → (at next : ℕ) → Slice s at next (encode extended_data_type v)
    → extended_given s (extended_of at v) ≡ some v
unfolding encode
extended_again s (zero, w) h at next p = absurd h.1
extended_again s (suc zero, w) h at next p = switch_again s w h.2
extended_again s (suc (suc zero), w) h at next p = router_again s w h.2
extended_again s (suc (suc (suc zero)), w) h at next p = gateway_again s (at + 4) next w h.2 (word_rest s at 3 next _ p)
extended_again s (suc (suc (suc (suc zero))), w) h at next p = user_again s (at + 4) next w h.2 (word_rest s at 4 next _ p)
extended_again s (suc (suc (suc (suc (suc zero)))), w) h at next p = url_again s (at + 4) next w h.2 (word_rest s at 5 next _ p)
extended_again s (suc (suc (suc (suc (suc (suc n))))), w) h at next p =
    absurd (past_all extended_types (suc (suc (suc (suc (suc (suc n)))))) (omega arith, (omega arith, (omega arith, (omega arith, (omega arith, tt))))) h.1)
