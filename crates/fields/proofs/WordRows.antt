-- Words in a row that a loop reads into an array, step by step. Assumes nothing.
use Prim.Native.Nat.{ℕ, zero, suc, ◌+◌, ◌-◌, ◌≤◌, ◌<◌}
use native.Mathlib.Nat.{not-suc-le-zero}
use native.Mathlib.Omega.{arith}
use mathlib.Core.Path.{◌≡◌, refl, sym, ap, ◌∙◌}
use mathlib.Core.List.{List, [], ◌∷◌, ◌++◌, append_assoc, append-nil}
use lib.ListN.{length, take, set}
use lib.Seq.{take-length}
use Rattle.std.specs.Prelude.{Err}
use mathlib.Core.Bool.{true, false}
use mathlib.Core.Logic.{⊎_elim}
use Prim.Native.Nat.{◌*◌, ◌/◌}
use lib.ListN.{replicate}
use Rattle.xdr.specs.Numbers.{number_at}
use Rattle.xdr.proofs.Reading.{tested}
use Rattle.sflow.specs.Decode.{refused_at}
use Rattle.fields.proofs.Passing.{passed_refused, words_cut, words_missing}
use Rattle.fields.proofs.Forms.{passed_words}
use Rattle.std.proofs.lemmas.List.{take_more_set}
use Rattle.sflow.specs.declared.Refusal.TheVariants.{CutItem}
use Rattle.sflow.specs.Decode.{Decoded, found, refused, mapped, decode}
use Rattle.sflow.proofs.Steps.{fixed_step, fixed_end}
use Rattle.fields.specs.Words.{words}

-- what is found, behind the first i values of an array
abbrev pub rest_behind : List ℕ → ℕ → Decoded (List ℕ) → Decoded (List ℕ)
rest_behind xs i d = mapped (λ rest. take i xs ++ rest) d

-- before the first step
pub rows_start : (xs : List ℕ) (d : Decoded (List ℕ)) → rest_behind xs 0 d ≡ d
rows_start xs (found vs next) = refl
rows_start xs (refused why p) = refl

-- a word that is there goes to the place of the next value
pub rows_step : (xs : List ℕ) (i k : ℕ) (s : List ℕ) (at : ℕ) → i < length xs → 0 < k → at + 4 ≤ length s
    → rest_behind xs i (decode (words k) s at) ≡ rest_behind (set xs i (number_at s at 4)) (i + 1) (decode (words (k - 1)) s (at + 4))
rows_step xs i zero s at h l r = absurd (not-suc-le-zero l)
rows_step xs i (suc k) s at h l r =
    let less : suc k - 1 ≡ k = omega arith in
    rw (fixed_step s at 4 (replicate k 4) r, less, take_more_set xs i (number_at s at 4) h) (go (decode (words k) s (at + 4)))
  where
    go : (d : Decoded (List ℕ))
        → mapped (λ rest. take i xs ++ rest) (mapped (λ vs. number_at s at 4 ∷ vs) d) ≡ mapped (λ rest. (take i xs ++ number_at s at 4 ∷ []) ++ rest) d
    go (found vs end) = ap (λ (ys : List ℕ). found ys end) (sym (append_assoc (take i xs) (number_at s at 4 ∷ []) vs))
    go (refused why p) = refl

-- no word is left
pub rows_end : (xs : List ℕ) (i k : ℕ) (s : List ℕ) (at : ℕ) → k ≤ 0 → length xs ≡ i → rest_behind xs i (decode (words k) s at) ≡ found xs at
rows_end xs i zero s at l e = rw (fixed_end s at, ← e, take-length, append-nil)
rows_end xs i (suc k) s at l e = absurd (not-suc-le-zero l)

-- words some of which are not there are refused at the first of these
pub rows_cut : (s : List ℕ) (n at : ℕ) → (length s - at) / 4 < n → decode (words n) s at ≡ refused CutItem (at + (length s - at) / 4 * 4)
rows_cut s n at h =
    passed_refused (decode (words n) s at) CutItem (at + (length s - at) / 4 * 4)
    (passed_words s n at _ (⊎_elim
    (λ inside. words_cut s n at inside.0 (let i = inside.0 in omega arith))
    (λ past.
    let q = past.0 in
    let none : at + (length s - at) / 4 * 4 ≡ at = omega arith in
    words_missing s n at (omega arith) q ∙ ap (λ (p : ℕ). Err (refused_at CutItem p)) (sym none))
    (tested at (length s) true false _ refl)))
