-- Addresses as numbers.
use Rattle.std.specs.Prelude.{ℕ, List, [], ◌∷◌}
use Rattle.xdr.specs.declared.Quad.{Quad}
use Rattle.fields.specs.declared.address.Address.{Address}

-- sixteen octets as four words
abbrev pub quad_numbers : Quad → List ℕ
quad_numbers q = q.a ∷ q.b ∷ q.c ∷ q.d ∷ []

-- an address by its type and four words
abbrev pub address_with : ℕ → ℕ → ℕ → ℕ → ℕ → Address
address_with kind a b c d = record { kind = kind; octets = record { a = a; b = b; c = c; d = d } }
