-- Values of addresses (RFC 3176, section 4, "Address Types").
use Rattle.std.specs.Prelude.{ℕ, ◌/◌, ◌%◌, ◌^◌, cond, eqb}
use Rattle.sflow.specs.Grammar.{Value}
use Rattle.sflow.specs.Datagram.{address}
use Rattle.xdr.specs.declared.Quad.{Quad}
use Rattle.fields.specs.declared.address.Address.{Address}
use Rattle.fields.specs.Parts.{item}

-- sixteen octets as four words
abbrev pub quad_of : ℕ → Quad
quad_of n = record { a = n / 2 ^ 32 / 2 ^ 32 / 2 ^ 32; b = n / 2 ^ 32 / 2 ^ 32 % 2 ^ 32; c = n / 2 ^ 32 % 2 ^ 32; d = n % 2 ^ 32 }

-- four octets as the first of four words
abbrev pub first_word : ℕ → Quad
first_word n = record { a = n; b = 0; c = 0; d = 0 }

abbrev pub address_of : Value address → Address
address_of v = record { kind = v.0; octets = cond (eqb v.0 1) (first_word (item v.1 0)) (quad_of (item v.1 0)) }
