-- What the reader gives of addresses, strings, lists of words and runs of words is the whole value again. Assumes nothing.
use Prim.Native.Nat.{ℕ, zero, suc, ◌+◌, ◌/◌, ◌^◌, ◌<◌}
use native.Mathlib.Omega.{arith}
use native.Mathlib.Nat.{div-add-mod'}
use mathlib.Core.Path.{◌≡◌, refl, ap}
use mathlib.Core.Bool.{Bool, true, false, cond, ◌||◌}
use mathlib.Core.List.{List, [], ◌∷◌, flat_map}
use lib.ListN.{length}
use lib.Dec.{T, eqb}
use borrow.Author.Tests.{eqb-true}
use Rattle.xdr.specs.Numbers.{number_at}
use Rattle.xdr.specs.Items.{numbers_at}
use Rattle.xdr.specs.Writes.{padded_octets}
use Rattle.sflow.specs.Slices.{Slice}
use Rattle.sflow.specs.Grammar.{Limit, opaque, Arm, case, listed, Value, Fits, Each, Valid, encode}
use Rattle.sflow.specs.Datagram.{ip_v4, ip_v6, word, address}
use Rattle.sflow.proofs.Slices.{first, second}
use Rattle.sflow.proofs.Items.{each_length, items_read, word_rest, string_read}
use Rattle.fields.specs.Parts.{item, entries_at}
use Rattle.fields.specs.Addresses.{quad_of, first_word, address_of}
use Rattle.fields.specs.Strings.{text_of, text_in}
use Rattle.form_writer.specs.Values.{words_value, quad_value, address_value}
use Rattle.rewriting.specs.Forms.{words_in}

-- ---- runs of numbers

-- the first n values of a function
abbrev pub first_values : ℕ → (ℕ → ℕ) → List ℕ
first_values zero f = []
first_values (suc n) f = f 0 ∷ first_values n (λ i. f (suc i))

-- numbers that fit widths are their items, one by one
pub items_are : (ws vs : List ℕ) → Fits ws vs → first_values (length ws) (item vs) ≡ vs
items_are [] [] h = refl
items_are [] (v ∷ vs) h = absurd h
items_are (w ∷ ws) [] h = absurd h
items_are (w ∷ ws) (v ∷ vs) h = ap (λ (l : List ℕ). v ∷ l) (items_are ws vs h.1)

-- ---- addresses

-- the number of sixteen octets from its four words
pub quad_again : (n : ℕ) → quad_value (quad_of n) ≡ n
quad_again n =
    rw (div-add-mod' (n / 2 ^ 32 / 2 ^ 32) (2 ^ 32), div-add-mod' (n / 2 ^ 32) (2 ^ 32)) (div-add-mod' n (2 ^ 32))

-- an address as type and four words is the address
pub address_again : (a : Value address) → Valid address a → address_value (address_of a) ≡ a
address_again (kind, vs) h = go (eqb kind 1) (eqb kind 2) vs h.1 h.2
  where
    go : (b c : Bool) (vs : List ℕ) → T (b || (c || false)) → Fits (cond b (ip_v4 ∷ []) (cond c (ip_v6 ∷ []) [])) vs
        → ◌≡◌ {A = Value address} (kind, (cond b (cond b (first_word (item vs 0)) (quad_of (item vs 0))).a (quad_value (cond b (first_word (item vs 0)) (quad_of (item vs 0)))) ∷ [])) (kind, vs)
    go true c vs t f = ap (λ (l : List ℕ). (kind, l)) (items_are (4 ∷ []) vs f)
    go false true vs t f = rw (quad_again (item vs 0)) (ap (λ (l : List ℕ). (kind, l)) (items_are (16 ∷ []) vs f))
    go false false vs t f = absurd t

-- ---- strings and lists of words, by their places

module _ (s : List ℕ) (at next : ℕ) where
  pub text_again : (limit : Limit) (xs : List ℕ) → Slice s at next (encode (opaque limit) xs) → text_in s (text_of at xs) ≡ xs
  unfolding encode
  text_again limit xs p = (string_read s (at + 4) next xs (word_rest s at (length xs) next (padded_octets xs) p)).octets

-- the numbers of words that stand there are the words
pub words_again : (s : List ℕ) (vs : List (Value word)) (at next : ℕ) → Each (Valid word) vs → Slice s at next (flat_map (encode word) vs)
    → words_value (words_in s (entries_at at vs)) ≡ vs
unfolding flat_map numbers_at encode
words_again s [] at next h p = refl
words_again s (v ∷ vs) at next h p =
    let more : List ℕ = flat_map (encode word) vs in
    let long : length (encode word v) ≡ 4 = each_length (4 ∷ []) v h.0 in
    let here : number_at s at 4 ∷ [] ≡ v = (items_read s (4 ∷ []) v at (at + length (encode word v)) h.0 (first (encode word v) more p)).numbers in
    let rest : Slice s (at + 4) next more = rw long at (second (encode word v) more p) in
    rw (here, words_again s vs (at + 4) next h.1 rest)

-- ---- unions

-- every arm's number lies below a number
abbrev Below : {A : Type 0} → List (Arm A) → ℕ → Type 0
Below [] v = Unit {0}
Below (case n x ∷ arms) v = (n < v) × Below arms v

-- a number past all arms is none of theirs
pub past_all : {A : Type 0} (arms : List (Arm A)) (v : ℕ) → Below arms v → T (listed arms v) → ⊥
past_all [] v b t = t
past_all (case n x ∷ arms) v b t = go (eqb v n) refl t (past_all arms v b.1)
  where
    go : (c : Bool) → eqb v n ≡ c → T (c || listed arms v) → (T (listed arms v) → ⊥) → ⊥
    go true e u rest = let s : v ≡ n = eqb-true v n e in let l = b.0 in omega arith
    go false e u rest = rest u
