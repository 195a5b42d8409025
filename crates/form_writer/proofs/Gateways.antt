-- What is answered of a gateway whose path is given as octets. Assumes nothing.
use Prim.Native.Nat.{ℕ, ◌^◌, ◌<◌}
use mathlib.Core.Path.{◌≡◌}
use mathlib.Core.List.{List, [], ◌∷◌, ◌++◌}
use mathlib.Core.Option.{none, some}
use lib.ListN.{length}
use Rattle.std.specs.Prelude.{Result, Err}
use Rattle.xdr.specs.Numbers.{Octets}
use Rattle.xdr.specs.Writes.{afterwards}
use Rattle.sflow.specs.Grammar.{Value}
use Rattle.sflow.specs.Decode.{entries_in}
use Rattle.sflow.specs.Datagram.{as_path_type, extended_data_type}
use Rattle.sflow.proofs.Exact.{entries_in_exactly}
use Rattle.form_writer.specs.declared.parts.WriteRefusal.{WriteRefusal}
use Rattle.form_writer.specs.declared.parts.WriteRefusal.TheVariants.{BadValue}
use Rattle.form_writer.specs.Parts.{write_alone, write_given, words_octets}
use Rattle.form_writer.specs.Values.{gateway_value, gateway_given}
use Rattle.form_writer.proofs.Allowances.{not_allowed_so, given_written}
use Rattle.form_writer.proofs.FormValues.{Words}
use Rattle.form_writer.proofs.PathOctets.{gateway_octets, gateway_valid, communities_many}

module _ (router src peer count : ℕ) (path communities : List ℕ) (preference : ℕ) where
  -- the octets are not exactly so many segments
  pub no_path : (d : List ℕ) → entries_in as_path_type count path ≡ none
      → afterwards (Err BadValue) d ≡ write_given extended_data_type (gateway_given router src peer count path communities preference) d
  no_path d e = rw e

  module _ (vs : List (Value as_path_type)) where
    given : entries_in as_path_type count path ≡ some vs
        → gateway_given router src peer count path communities preference ≡ some (gateway_value router src peer vs communities preference)
    given e = rw e

    -- they are, and the communities are more than a word counts
    pub gateway_refused : (d : List ℕ) (r : Result ℕ WriteRefusal) → entries_in as_path_type count path ≡ some vs → r ≡ Err BadValue → (length communities < 2 ^ 32 → ⊥)
        → afterwards r d ≡ write_given extended_data_type (gateway_given router src peer count path communities preference) d
    gateway_refused d r e f l =
        rw (given e) (not_allowed_so extended_data_type (gateway_value router src peer vs communities preference) d r f (communities_many router src peer communities preference vs l))

    -- all is as it should be
    pub gateway_written : (d e : List ℕ) (r : Result ℕ WriteRefusal) → router < 2 ^ 32 → src < 2 ^ 32 → peer < 2 ^ 32 → count < 2 ^ 32 → Octets path
        → Words communities → preference < 2 ^ 32 → length communities < 2 ^ 32 → (n : ℕ) → n ≡ length communities → entries_in as_path_type count path ≡ some vs
        → afterwards r e
        ≡ write_alone
        (words_octets (3 ∷ router ∷ src ∷ peer ∷ count ∷ []) ++ (path ++ (words_octets (n ∷ []) ++ (words_octets communities ++ (words_octets (preference ∷ []) ++ []))))) d
        → afterwards r e ≡ write_given extended_data_type (gateway_given router src peer count path communities preference) d
    gateway_written d e r i j k few octets each low short n m f =
        let t = (entries_in_exactly as_path_type count path octets vs).0 f in
        let many : length vs < 2 ^ 32 = rw t.0 few in
        given_written extended_data_type _ (gateway_value router src peer vs communities preference) _ d e r (given f)
        (gateway_valid router src peer communities preference vs i j k many t.1 short each low)
        (gateway_octets router src peer communities preference vs count n path t.0 m t.2)
