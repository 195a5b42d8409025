-- Unsigned numbers of a fixed width in octets, the most significant octet first (RFC 1832, sections 3.2 and 3.4).
-- A word is 4 octets wide, a hyper 8, an IPv4 address 4 and an IPv6 address 16.
use Rattle.std.specs.Prelude.{ℕ, zero, suc, ◌+◌, ◌*◌, ◌/◌, ◌%◌, ◌^◌, ◌<◌, List, [], ◌∷◌, ◌++◌, get_or}

-- every element of a list is an octet
abbrev pub Octets : List ℕ → Type 0
Octets s = (i : ℕ) → get_or s i 0 < 256

-- the number that stands in the w octets from an offset on
unfoldable pub number_at : List ℕ → ℕ → ℕ → ℕ
number_at s at zero = 0
number_at s at (suc w) = number_at s at w * 256 + get_or s (at + w) 0

-- the w octets of a number
unfoldable pub octets_of : ℕ → ℕ → List ℕ
octets_of zero v = []
octets_of (suc w) v = octets_of w (v / 256) ++ (v % 256 ∷ [])

-- the number of sixteen octets that are four words
abbrev pub quad_number : ℕ → ℕ → ℕ → ℕ → ℕ
quad_number a b c d = ((a * 2 ^ 32 + b) * 2 ^ 32 + c) * 2 ^ 32 + d
