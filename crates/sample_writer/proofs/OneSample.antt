-- A sample given as octets, by what reading and writing them answer. Assumes nothing.
use Prim.Native.Nat.{ℕ}
use mathlib.Core.Path.{◌≡◌, ◌∙◌}
use mathlib.Core.List.{List, [], ◌++◌, append-nil}
use mathlib.Core.Option.{some}
use Rattle.std.specs.Prelude.{Result}
use Rattle.xdr.specs.Numbers.{Octets}
use Rattle.xdr.specs.Writes.{afterwards}
use Rattle.sflow.specs.Grammar.{Value}
use Rattle.sflow.specs.Decode.{value_in}
use Rattle.sflow.specs.Datagram.{sample_type}
use Rattle.sflow.proofs.Exact.{value_in_exactly}
use Rattle.form_writer.specs.declared.parts.WriteRefusal.{WriteRefusal}
use Rattle.form_writer.specs.Parts.{write_alone, write_given}
use Rattle.form_writer.proofs.Allowances.{given_written}

module _ (xs : List ℕ) (octets : Octets xs) where
  -- octets that are exactly one sample are written as they are
  pub sample_written : (v : Value sample_type) (d e : List ℕ) (r : Result ℕ WriteRefusal) → value_in sample_type xs ≡ some v → afterwards r e ≡ write_alone (xs ++ []) d
      → afterwards r e ≡ write_given sample_type (value_in sample_type xs) d
  sample_written v d e r given f =
      let t = (value_in_exactly sample_type xs octets v).0 given in
      given_written sample_type (value_in sample_type xs) v (xs ++ []) d e r given t.0 (append-nil xs ∙ t.1) f
