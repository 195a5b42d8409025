-- What the programs that run vectors write: texts and numbers.
use Rattle.std.specs.Prelude.{ℕ, List, [], ◌∷◌, ◌++◌}
use Rattle.std.specs.List.{flat_map}
use Rattle.std.specs.Fmt.{decimal}
use lib.Chars.{codes}

-- numbers in decimal digits, a space before each
abbrev pub spaced : List ℕ → List ℕ
spaced numbers = flat_map (λ n. 32 ∷ decimal n) numbers

-- a line of a text and numbers
abbrev pub line_of : List ℕ → List ℕ → List ℕ
line_of text numbers = (text ++ spaced numbers) ++ (10 ∷ [])

-- the line of a refusal: its number, and the place or the rule that it names
abbrev pub refusal_line : ℕ → ℕ → List ℕ
refusal_line number at = (codes "refused" ++ spaced (number ∷ [])) ++ line_of (codes " at") (at ∷ [])
