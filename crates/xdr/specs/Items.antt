-- What reading an item at an offset finds: its value and the offset behind it, or the offset where octets are missing.
-- An item is there where the offset and its width together are at most the number of octets.
use Rattle.std.specs.Prelude.{ℕ, zero, suc, ◌+◌, ◌-◌, ◌*◌, ◌/◌, cond, List, [], ◌∷◌, length, get_or, leb, eqb, Result, Ok, Err, Option, Some, None}
use Rattle.xdr.specs.Numbers.{number_at}
use Rattle.xdr.specs.declared.Cut.{Cut}
use Rattle.xdr.specs.declared.Quad.{Quad}
use Rattle.xdr.specs.declared.Unpadded.{Unpadded}
use Rattle.xdr.specs.declared.Unpadded.TheVariants.{CutShort, NonzeroPadding}

-- an item is cut short at an offset
abbrev pub cut : {A : Type 0} → ℕ → Result A Cut
cut at = Err (record { at = at })

-- a word (RFC 1832, section 3.2)
unfoldable pub word_at : List ℕ → ℕ → Result (ℕ × ℕ) Cut
word_at s at = cond (leb (at + 4) (length s)) (Ok (number_at s at 4, at + 4)) (cut at)

-- a hyper (RFC 1832, section 3.4)
unfoldable pub hyper_at : List ℕ → ℕ → Result (ℕ × ℕ) Cut
hyper_at s at = cond (leb (at + 8) (length s)) (Ok (number_at s at 8, at + 8)) (cut at)

-- the four words that begin at an offset
abbrev pub quad_in : List ℕ → ℕ → Quad
quad_in s at = record { a = number_at s at 4; b = number_at s (at + 4) 4; c = number_at s (at + 8) 4; d = number_at s (at + 12) 4 }

-- sixteen octets (RFC 1832, section 3.8) as four words
unfoldable pub quad_at : List ℕ → ℕ → Result (Quad × ℕ) Cut
quad_at s at = cond (leb (at + 16) (length s)) (Ok (quad_in s at, at + 16)) (cut at)

-- items of these widths, one behind the other
unfoldable pub items_at : List ℕ → ℕ → List ℕ → Result ℕ Cut
items_at s at [] = Ok at
items_at s at (w ∷ ws) = cond (leb (at + w) (length s)) (items_at s (at + w) ws) (cut at)

-- the octets that items of these widths take
abbrev pub total_width : List ℕ → ℕ
total_width [] = 0
total_width (w ∷ ws) = w + total_width ws

-- the numbers that stand in items of these widths
unfoldable pub numbers_at : List ℕ → ℕ → List ℕ → List ℕ
numbers_at s at [] = []
numbers_at s at (w ∷ ws) = number_at s at w ∷ numbers_at s (at + w) ws

-- of so many octets from an offset on, the offset of the first that is not zero
unfoldable pub nonzero_at : List ℕ → ℕ → ℕ → Option ℕ
nonzero_at s at zero = None
nonzero_at s at (suc n) = cond (eqb (get_or s at 0) 0) (nonzero_at s (at + 1) n) (Some at)

-- a length with its padding: the next multiple of four (RFC 1832, section 3.9)
abbrev pub padded : ℕ → ℕ
padded n = (n + 3) / 4 * 4

-- an item that ends at an offset if its padding is zero
abbrev pub with_padding : ℕ → Option ℕ → Result ℕ Unpadded
with_padding next None = Ok next
with_padding next (Some p) = Err (NonzeroPadding p)

-- the octets of a string of a length, with their padding (RFC 1832, section 3.9): first that all are there, then that the padding is zero
unfoldable pub padded_at : List ℕ → ℕ → ℕ → Result ℕ Unpadded
padded_at s at n =
    cond (leb (at + padded n) (length s))
    (with_padding (at + padded n) (nonzero_at s (at + n) (padded n - n)))
    (Err (CutShort at))
