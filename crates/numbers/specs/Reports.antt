-- What an exported function answers: one number, and further numbers into a lent array.
use Rattle.std.specs.Prelude.{ℕ, List, [], ◌∷◌, ◌++◌, length, take, drop}
use Rattle.xdr.specs.Writes.{Afterwards, afterwards}
use Rattle.sflow.specs.declared.Refusal.{Refusal}
use Rattle.sflow.specs.Refusals.{refusal_number}
use Rattle.sflow.specs.Decode.{Decoded, found, refused}

-- the number that is returned, and the numbers that go into the lent array
pub record Report : Type 0 where
  pub number : ℕ
  pub numbers : List ℕ

abbrev pub report : ℕ → List ℕ → Report
report n xs = record { number = n; numbers = xs }

-- an array with numbers put to its front, as many as it has room for
unfoldable pub filled : List ℕ → List ℕ → List ℕ
filled xs d = take (length d) xs ++ drop (length xs) d

-- the number returned, and the lent array afterwards
abbrev pub tell : Report → List ℕ → Afterwards ℕ
tell x d = afterwards x.number (filled x.numbers d)

-- an array with numbers put behind its first n, as many as it has room for
unfoldable pub filled_behind : ℕ → List ℕ → List ℕ → List ℕ
filled_behind n xs d = take n d ++ filled xs (drop n d)

-- a refusal's number, and its offset
abbrev pub refusal_report : Refusal → ℕ → Report
refusal_report why p = report (refusal_number why) (p ∷ [])

-- what reading finds: 0, and the numbers of the value and of the offset behind it; or the refusal's number, and its offset
abbrev pub decoded_report : {A : Type 0} → (A → ℕ → List ℕ) → Decoded A → Report
decoded_report f (found v next) = report 0 (f v next)
decoded_report f (refused why p) = refusal_report why p

-- the number returned, the lent buffer afterwards, and the lent array afterwards
pub data Handed : Type 0 where
  handed : ℕ → List ℕ → List ℕ → Handed

-- a number and an array afterwards, with a buffer
abbrev pub with_buffer : List ℕ → Afterwards ℕ → Handed
with_buffer d (afterwards n xs) = handed n d xs
