-- Counters put into an array one behind the other. Assumes nothing.
use Prim.Native.Nat.{ℕ, zero, suc, ◌+◌, ◌-◌, ◌*◌, ◌≤◌, ◌<◌}
use native.Mathlib.Nat.{not-suc-le-zero, le_of_suc-le-suc, add-zero, sub-zero, add_assoc}
use native.Mathlib.Omega.{arith}
use mathlib.Core.Path.{◌≡◌, refl, ap, sym, subst, ◌∙◌}
use mathlib.Core.List.{List, [], ◌∷◌, ◌++◌}
use lib.ListN.{length, set, take, drop, replicate}
use lib.Seq.{get_or-take, get_or-drop}
use Rattle.xdr.specs.Numbers.{number_at}
use Rattle.xdr.specs.Items.{total_width, numbers_at}
use Rattle.xdr.proofs.Reading.{NumberRead}
use Rattle.counter_data.proofs.Bodies.{widths_of}
use Rattle.numbers.specs.Reports.{filled, filled_behind}
use Rattle.numbers.proofs.Reports.{filled_none, behind_both, behind_behind}

-- ---- one number more

-- a store puts one number behind the first n
pub stored : (d : List ℕ) (n v : ℕ) → n < length d → set d n v ≡ filled_behind n (v ∷ []) d
unfolding filled filled_behind
stored [] n v h = absurd (not-suc-le-zero h)
stored (x ∷ d) zero v h = ap (λ (r : List ℕ). v ∷ r) (sym (filled_none d))
stored (x ∷ d) (suc n) v h = ap (λ (r : List ℕ). x ∷ r) (stored d n v (le_of_suc-le-suc h))

-- no numbers behind the first n leave the array as it was
pub behind_nothing : (n : ℕ) (d : List ℕ) → filled_behind n [] d ≡ d
unfolding filled_behind
behind_nothing zero d = filled_none d
behind_nothing (suc n) [] = filled_none []
behind_nothing (suc n) (x ∷ d) = ap (λ (r : List ℕ). x ∷ r) (behind_nothing n d)

-- words that are left to put: all, none, and after one of them
pub words_start : (s d : List ℕ) (first count n : ℕ)
    → filled_behind (n + 0) (numbers_at s first (replicate (count - 0) 4)) d ≡ filled_behind n (numbers_at s first (replicate count 4)) d
words_start s d first count n = rw (add-zero n, sub-zero count) refl

pub words_end : (s d : List ℕ) (at count n i : ℕ) → count ≤ i → filled_behind (n + i) (numbers_at s at (replicate (count - i) 4)) d ≡ d
unfolding numbers_at
words_end s d at count n i h = let none : count - i ≡ 0 = omega arith in rw none (behind_nothing (n + i) d)

pub words_step : (s d e : List ℕ) (at count n i v next : ℕ) → i < count → NumberRead s at 4 v next → e ≡ filled_behind (n + i) (v ∷ []) d
    → filled_behind (n + (i + 1)) (numbers_at s next (replicate (count - (i + 1)) 4)) e
    ≡ filled_behind (n + i) (numbers_at s at (replicate (count - i) 4)) d
unfolding numbers_at
words_step s d e at count n i v next h r p =
    let k : count - i ≡ suc (count - (i + 1)) = omega arith in
    let rest : List ℕ = numbers_at s (at + 4) (replicate (count - (i + 1)) 4) in
    rw (p, k, r.value_is, r.next_is, ← add_assoc n i 1) (behind_both (n + i) (number_at s at 4 ∷ []) rest d)

-- ---- runs

-- so many words take four octets each
pub words_width : (n : ℕ) → total_width (replicate n 4) ≡ 4 * n
words_width zero = refl
words_width (suc n) = let rest = words_width n in omega arith

-- as many numbers as widths
pub numbers_count : (s : List ℕ) (at : ℕ) (ws : List ℕ) → length (numbers_at s at ws) ≡ length ws
unfolding numbers_at
numbers_count s at [] = refl
numbers_count s at (w ∷ ws) = ap suc (numbers_count s (at + w) ws)

-- the numbers of items, and of those behind them
numbers_both : (s : List ℕ) (at : ℕ) (ws vs : List ℕ) → numbers_at s at (ws ++ vs) ≡ numbers_at s at ws ++ numbers_at s (at + total_width ws) vs
unfolding numbers_at
numbers_both s at [] vs = rw (add-zero at) refl
numbers_both s at (w ∷ ws) vs = rw (← add_assoc at w (total_width ws)) (ap (λ (r : List ℕ). number_at s at w ∷ r) (numbers_both s (at + w) ws vs))

-- items put behind the first n, and then those behind them
pub then_put : (s d m e ws vs : List ℕ) (at p n k : ℕ) → m ≡ filled_behind n (numbers_at s at ws) d → e ≡ filled_behind k (numbers_at s p vs) m
    → p ≡ at + total_width ws → k ≡ n + length ws → e ≡ filled_behind n (numbers_at s at (ws ++ vs)) d
then_put s d m e ws vs at p n k before behind place there =
    rw (numbers_both s at ws vs, ← place)
    (behind_behind (numbers_at s at ws) (numbers_at s p vs) d m e n k (rw (numbers_count s at ws) there) before behind)

-- a hyper put behind the first n
pub hyper_put : (s d e : List ℕ) (at n v next : ℕ) → NumberRead s at 8 v next → e ≡ filled_behind n (v ∷ []) d
    → e ≡ filled_behind n (numbers_at s at (8 ∷ [])) d
unfolding numbers_at
hyper_put s d e at n v next r p = p ∙ rw r.value_is refl

-- a number, and the numbers of items, that stand in a part
number_part : (s : List ℕ) (from size at w : ℕ) → at + w ≤ size → number_at (take size (drop from s)) at w ≡ number_at s (from + at) w
unfolding number_at
number_part s from size at zero h = refl
number_part s from size at (suc w) h =
    let within : at + w < size = omega arith in
    let before : at + w ≤ size = omega arith in
    rw (number_part s from size at w before, get_or-take size (drop from s) (at + w) 0 within, get_or-drop from s (at + w) 0, add_assoc from at w) refl

numbers_part : (s : List ℕ) (from size at : ℕ) (ws : List ℕ) → at + total_width ws ≤ size
    → numbers_at (take size (drop from s)) at ws ≡ numbers_at s (from + at) ws
unfolding numbers_at
numbers_part s from size at [] h = refl
numbers_part s from size at (w ∷ ws) h =
    let here : at + w ≤ size = omega arith in
    let rest : at + w + total_width ws ≤ size = omega arith in
    rw (number_part s from size at w here, numbers_part s from size (at + w) ws rest, add_assoc from at w) refl

-- items put from a part are put from the whole
pub part_put : (s d e : List ℕ) (from to n : ℕ) (ws : List ℕ) → from + total_width ws ≤ to
    → e ≡ filled_behind n (numbers_at (take (to - from) (drop from s)) 0 ws) d → e ≡ filled_behind n (numbers_at s from ws) d
part_put s d e from to n ws h p =
    let within : 0 + total_width ws ≤ to - from = omega arith in
    p ∙ rw (numbers_part s from (to - from) 0 ws within, add-zero from) refl

-- ---- versions

-- the version n has as many counters as the version v, which is n
pub count_of : (v n : ℕ) → v ≡ n → length (widths_of n) ≡ length (widths_of v)
count_of v n e = ap (λ (m : ℕ). length (widths_of m)) (sym e)

-- the counters of the version v, which is n, are there and are put as those of the version n
pub version_room : (v n at size : ℕ) → v ≡ n → at + total_width (widths_of v) ≤ size → at + total_width (widths_of n) ≤ size
version_room v n at size same h = subst (λ (m : ℕ). at + total_width (widths_of m) ≤ size) same h

pub version_put : (s d e : List ℕ) (at v n : ℕ) → v ≡ n → e ≡ filled_behind 1 (numbers_at s at (widths_of n)) d
    → e ≡ filled_behind 1 (numbers_at s at (widths_of v)) d
version_put s d e at v n same put = put ∙ ap (λ (m : ℕ). filled_behind 1 (numbers_at s at (widths_of m)) d) (sym same)

-- no version has no counters
pub no_version_put : (s d : List ℕ) (at : ℕ) (ws : List ℕ) → ws ≡ [] → d ≡ filled_behind 1 (numbers_at s at ws) d
unfolding numbers_at
no_version_put s d at ws none = rw none (sym (behind_nothing 1 d))
