-- The AND of two numbers by their bits.
use Rattle.std.specs.Prelude.{ℕ, zero, suc, ◌+◌, ◌*◌, ◌/◌, ◌%◌, min}

-- of the lowest w bits of a number each is kept where the mask's is 1: the smaller of the two bits
unfoldable pub masked : ℕ → ℕ → ℕ → ℕ
masked zero a m = 0
masked (suc w) a m = masked w (a / 2) (m / 2) * 2 + min (a % 2) (m % 2)
