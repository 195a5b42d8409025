-- Laws of filling an array.
use Prim.Native.Nat.{ℕ, zero, suc, ◌+◌, ◌-◌, ◌≤◌, ◌<◌}
use native.Mathlib.Nat.{not-suc-le-zero, le_of_suc-le-suc, zero-add, suc-add, le_refl}
use native.Mathlib.Omega.{arith}
use mathlib.Core.Logic.{⊎_elim}
use mathlib.Core.Bool.{true, false}
use Prim.Native.Nat.{min}
use Rattle.xdr.proofs.Reading.{tested}
use mathlib.Core.Path.{◌≡◌, refl, ap, sym, ◌∙◌}
use mathlib.Core.List.{List, [], ◌∷◌, ◌++◌, append-nil}
use lib.ListN.{length, take, drop, set, get_or, length-drop}
use lib.Seq.{take_all, take-length, take-nil, drop-length, drop-nil}
use Rattle.xdr.specs.Writes.{afterwards}
use Rattle.numbers.specs.Reports.{filled, filled_behind}

-- a store extends the numbers put so far
pub copy_step : (xs d : List ℕ) (i : ℕ) → i < length xs → i < length d → set (take i xs ++ drop i d) i (get_or xs i 0) ≡ take (suc i) xs ++ drop (suc i) d
copy_step [] d i h k = absurd (not-suc-le-zero h)
copy_step (x ∷ xs) [] i h k = absurd (not-suc-le-zero k)
copy_step (x ∷ xs) (y ∷ d) zero h k = refl
copy_step (x ∷ xs) (y ∷ d) (suc i) h k = ap (λ (r : List ℕ). x ∷ r) (copy_step xs d i (le_of_suc-le-suc h) (le_of_suc-le-suc k))

drop_beyond : (n : ℕ) (d : List ℕ) → length d ≤ n → drop n d ≡ []
drop_beyond n [] h = drop-nil n
drop_beyond zero (y ∷ d) h = absurd (not-suc-le-zero h)
drop_beyond (suc n) (y ∷ d) h = drop_beyond n d (le_of_suc-le-suc h)

-- numbers that fit are put whole
pub filled_whole : (xs d : List ℕ) → length xs ≤ length d → filled xs d ≡ take (length xs) xs ++ drop (length xs) d
unfolding filled
filled_whole xs d h = rw (take_all (length d) xs h, take-length xs) refl

-- of more numbers, as many as the array is long
pub filled_part : (xs d : List ℕ) → length d ≤ length xs → filled xs d ≡ take (length d) xs ++ drop (length d) d
unfolding filled
filled_part xs d h = rw (drop_beyond (length xs) d h, drop-length d) refl

-- a number and an array, each known
pub telling : {a b : ℕ} {x y : List ℕ} → a ≡ b → x ≡ y → afterwards a x ≡ afterwards b y
telling e f = rw (e, f) refl

-- nothing is put into an empty array
filled_empty : (xs : List ℕ) → filled xs [] ≡ []
unfolding filled
filled_empty xs = drop-nil (length xs)

-- an array with no room behind its first n stays
pub behind_none : (n : ℕ) (xs d : List ℕ) → length d ≤ n → filled_behind n xs d ≡ d
unfolding filled_behind
behind_none n xs d h = rw (drop_beyond n d h, filled_empty xs, append-nil (take n d)) (take_all n d h)

-- no numbers leave the array as it was
pub filled_none : (d : List ℕ) → filled [] d ≡ d
unfolding filled
filled_none d = rw (take-nil (length d)) refl

-- numbers put to the front, and then further numbers behind them
pub filled_both : (xs ys d : List ℕ) → filled_behind (length xs) ys (filled xs d) ≡ filled (xs ++ ys) d
unfolding filled filled_behind
filled_both [] ys d = ap (filled ys) (filled_none d)
filled_both (x ∷ xs) ys [] = drop-nil (length ys)
filled_both (x ∷ xs) ys (y ∷ d) = ap (λ (r : List ℕ). x ∷ r) (filled_both xs ys d)

-- what a lent part behind the first n holds afterwards, in the whole array
pub part_behind : (n : ℕ) (xs d e : List ℕ) → e ≡ filled xs (take (length d - n) (drop n d))
    → take n d ++ (e ++ drop (length d - n) (drop n d)) ≡ filled_behind n xs d
unfolding filled_behind
part_behind n xs d e h =
    rw (h, sym (length-drop n d), take-length (drop n d), drop-length (drop n d), append-nil (filled xs (drop n d))) refl

-- numbers put behind the first n, and then further numbers behind them
pub behind_both : (n : ℕ) (xs ys d : List ℕ) → filled_behind (n + length xs) ys (filled_behind n xs d) ≡ filled_behind n (xs ++ ys) d
unfolding filled_behind
behind_both zero xs ys d = rw (zero-add (length xs)) (filled_both xs ys d)
behind_both (suc n) xs ys [] = rw (suc-add n (length xs), filled_empty xs, filled_empty (xs ++ ys)) (filled_empty ys)
behind_both (suc n) xs ys (y ∷ d) = rw (suc-add n (length xs)) (ap (λ (r : List ℕ). y ∷ r) (behind_both n xs ys d))

-- the same two laws over what an array holds before, between and after
pub then_behind : (xs ys d m e : List ℕ) (n : ℕ) → n ≡ length xs → m ≡ filled xs d → e ≡ filled_behind n ys m → e ≡ filled (xs ++ ys) d
then_behind xs ys d m e n k f g = g ∙ rw (f, k) (filled_both xs ys d)

pub behind_behind : (xs ys d m e : List ℕ) (n p : ℕ) → p ≡ n + length xs → m ≡ filled_behind n xs d → e ≡ filled_behind p ys m → e ≡ filled_behind n (xs ++ ys) d
behind_behind xs ys d m e n p k f g = g ∙ rw (f, k) (behind_both n xs ys d)

-- all n numbers copied over n others
pub copied_whole : (xs d : List ℕ) (n : ℕ) → length xs ≡ n → length d ≡ n → take n xs ++ drop n d ≡ xs
copied_whole xs d n h k =
    let p : length xs ≤ n = rw h (le_refl n) in
    let q : length d ≤ n = rw k (le_refl n) in
    rw (take_all n xs p, drop_beyond n d q) (append-nil xs)

-- a part to the end of a list
pub part_is : (at : ℕ) (ns : List ℕ) → take (length ns - at) (drop at ns) ≡ drop at ns
part_is at ns = take_all (length ns - at) (drop at ns) (rw (length-drop at ns) (omega arith))

-- as many numbers as there are and as have room, copied to the front
pub filled_least : (xs d : List ℕ) → take (min (length xs) (length d)) xs ++ drop (min (length xs) (length d)) d ≡ filled xs d
filled_least xs d =
    ⊎_elim
    (λ h. let l = h.0 in let e : min (length xs) (length d) ≡ length xs = omega arith in rw e (sym (filled_whole xs d l)))
    (λ h. let l = h.0 in let e : min (length xs) (length d) ≡ length d = omega arith in rw e (sym (filled_part xs d (omega arith))))
    (tested (length xs) (length d) true false _ refl)
