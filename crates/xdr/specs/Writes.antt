-- What writing octets at an offset of a buffer leaves.
use Rattle.std.specs.Prelude.{ℕ, ◌+◌, ◌-◌, Bool, cond, List, ◌++◌, length, take, drop, replicate, leb, Option, Some, None}
use Rattle.xdr.specs.Items.{padded}

-- a buffer with the octets from an offset on replaced by others
unfoldable pub stored : List ℕ → ℕ → List ℕ → List ℕ
stored d at xs = take at d ++ (xs ++ drop (at + length xs) d)

-- what a call answers, and the lent buffer or array afterwards
pub data Afterwards (A : Type 0) : Type 0 where
  afterwards : A → List ℕ → Afterwards A

-- where they fit, octets are stored at an offset, with one answer; else nothing is changed, with the other
abbrev pub store_if : {A : Type 0} → Bool → A → A → List ℕ → ℕ → List ℕ → Afterwards A
store_if fits done full d at xs = cond fits (afterwards done (stored d at xs)) (afterwards full d)

-- octets written at an offset: stored there, with the offset behind them, or nothing changed where they do not fit
unfoldable pub write_at : List ℕ → ℕ → List ℕ → Afterwards (Option ℕ)
write_at d at xs = store_if (leb (at + length xs) (length d)) (Some (at + length xs)) None d at xs

-- a string's octets, then zero octets up to a multiple of four (RFC 1832, section 3.9)
unfoldable pub padded_octets : List ℕ → List ℕ
padded_octets xs = xs ++ replicate (padded (length xs) - length xs) 0
