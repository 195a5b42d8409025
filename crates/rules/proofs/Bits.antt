-- The AND by bits is the language's `&`. Assumes nothing.
use Prim.Native.Nat.{ℕ, zero, suc, ◌/◌, ◌%◌, ◌^◌, ◌<◌, min}
use native.Mathlib.Nat.{pow-suc, mul-add-mod_self_right, mod-eq_of_lt}
use native.Mathlib.Omega.{arith}
use mathlib.Core.Path.{◌≡◌, refl, ap, sym, ◌∙◌}
use lib.Bits.{bit_and, and_step, and_shr}
use Rattle.rules.specs.Bits.{masked}

-- bit k of a number
abbrev pub bit : ℕ → ℕ → ℕ
bit x k = x / 2 ^ k % 2

-- on words of w bits it is `&`
pub masked_is : (w a m : ℕ) → a < 2 ^ w → masked w a m ≡ bit_and a m
unfolding masked
masked_is zero a m h = let z : a ≡ 0 = omega arith in rw z refl
masked_is (suc w) a m h =
    let l : a / 2 < 2 ^ w = omega (arith, pow-suc 2 w) in
    rw (masked_is w (a / 2) (m / 2) l) (sym (and_step a m))

-- under a mask of 0 nothing is left
pub masked_zero : (w a : ℕ) → masked w a 0 ≡ 0
unfolding masked
masked_zero zero a = refl
masked_zero (suc w) a = rw (masked_zero w (a / 2)) (omega arith)

-- each bit of `a & m` is the smaller of the two bits
pub bit_and_is : (a m k : ℕ) → bit (bit_and a m) k ≡ min (bit a k) (bit m k)
bit_and_is a m k =
    let x : ℕ = a / 2 ^ k in
    let y : ℕ = m / 2 ^ k in
    ap (λ (z : ℕ). z % 2) (and_shr a m k) ∙ ap (λ (z : ℕ). z % 2) (and_step x y)
    ∙ mul-add-mod_self_right (bit_and (x / 2) (y / 2)) 2 (min (x % 2) (y % 2)) ∙ mod-eq_of_lt (omega arith)
