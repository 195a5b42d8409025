-- A counter sample that is written from numbers, as a value of the grammar (document 01, "Writer").
use Rattle.std.specs.Prelude.{ℕ, List, [], ◌∷◌, ◌⊎◌, ◌≡◌}
use Rattle.sflow.specs.Grammar.{Value}
use Rattle.sflow.specs.Datagram.{sample_type}

-- a counter sample with its type word: sequence number, source id, interval; counters version, and its counters
abbrev pub counters_value : ℕ → ℕ → ℕ → ℕ → List ℕ → Value sample_type
counters_value sequence source interval version ns = (2, ((sequence ∷ source ∷ interval ∷ []), (version, ns)))

-- the width of a word or of a hyper, for private functions
abbrev pub WordOrHyper : ℕ → Type 0
WordOrHyper w = (w ≡ 4) ⊎ (w ≡ 8)
