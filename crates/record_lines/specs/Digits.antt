-- Numbers in digits, as octets (ASCII).
use Rattle.std.specs.Prelude.{ℕ, zero, suc, ◌+◌, ◌/◌, ◌%◌, cond, List, [], ◌∷◌, ◌++◌, ltb}

-- the character of a digit: 0 to 9, a to f
abbrev pub digit : ℕ → ℕ
digit n = cond (ltb n 10) (48 + n) (87 + n)

-- the last so many digits of a number in a base, the most significant first
unfoldable pub last_digits : (base count n : ℕ) → List ℕ
last_digits b zero n = []
last_digits b (suc k) n = last_digits b k (n / b) ++ (digit (n % b) ∷ [])

-- the decimal digits of a number with no zero in front, at most so many
unfoldable pub shown : ℕ → ℕ → List ℕ
shown zero n = []
shown (suc k) n = cond (ltb n 10) (digit n ∷ []) (shown k (n / 10) ++ (digit (n % 10) ∷ []))

-- a number below 10^20 in decimal digits
unfoldable pub decimal : ℕ → List ℕ
decimal n = shown 20 n

-- a word in eight hexadecimal digits
abbrev pub hexadecimal : ℕ → List ℕ
hexadecimal n = last_digits 16 8 n
