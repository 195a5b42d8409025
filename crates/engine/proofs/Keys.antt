-- The flow key of queued items, item by item. Assumes nothing.
use Rattle.std.proofs.Common.{arith, suc, zero, [], ◌∷◌, replicate, ap, ◌∙◌}
use Prim.Native.Nat.{ℕ, ◌+◌, ◌<◌}
use native.Mathlib.Numerals.{add-one}
use mathlib.Core.Path.{◌≡◌, refl}
use mathlib.Core.List.{List, map, reverse}
use lib.ListN.{length, get_or, take}
use Rattle.std.proofs.Math.Seq.{take-suc}
use Rattle.std.proofs.lemmas.List.{reverse-append}
use Rattle.rules.specs.declared.Item.{Item}
use Rattle.engine.specs.declared.FlowKey.{FlowKey}
use Rattle.engine.specs.Results.{put, key_of, zero_key}

pub key_more : (f : ℕ → Item) (l : List ℕ) (i : ℕ) → i < length l
    → key_of (map f (reverse (take (i + 1) l))) ≡ put (key_of (map f (reverse (take i l)))) (f (get_or l i 0))
unfolding key_of
key_more f l i h = rw (add-one, take-suc l i 0 h, reverse-append) refl

-- zeros alone are the list of so many zeros
pub zeros : (n : ℕ) (xs : List ℕ) → length xs ≡ n → ((i : ℕ) → i < n → get_or xs i 0 ≡ 0) → xs ≡ replicate n 0
zeros zero [] h each = refl
zeros zero (x ∷ xs) h each = absurd (omega arith)
zeros (suc n) [] h each = absurd (omega arith)
zeros (suc n) (x ∷ xs) h each =
    let first : x ≡ 0 = each 0 (omega arith) in
    let rest : length xs ≡ n = omega arith in
    rw (first, zeros n xs rest (λ i l. each (suc i) (omega arith))) refl

pub zero_key_is : (k : FlowKey) → k.masks ≡ replicate 23 0 → k.values ≡ replicate 23 0 → k ≡ zero_key
zero_key_is k m v =
    ap (λ (l : List ℕ). record { masks = l; values = k.values }) m ∙ ap (λ (l : List ℕ). record { masks = replicate 23 0; values = l }) v
