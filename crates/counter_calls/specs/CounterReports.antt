-- The counters of a body as numbers.
use Rattle.std.specs.Prelude.{ℕ, ◌-◌, List, ◌∷◌, ◌++◌, length, replicate}

-- how many counters there are, then the counters, then zeros, 38 numbers in all
abbrev pub value_numbers : List ℕ → List ℕ
value_numbers vs = length vs ∷ (vs ++ replicate (37 - length vs) 0)
