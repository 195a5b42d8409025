-- Counter samples written from numbers, in the grammar. Assumes nothing.
use Prim.Native.Nat.{ℕ, ◌^◌, ◌<◌}
use mathlib.Core.Path.{◌≡◌, sym, ap, ◌∙◌}
use mathlib.Core.Bool.{true, false, ◌&&◌}
use mathlib.Core.List.{List, [], ◌∷◌, ◌++◌, flat_map, append_assoc}
use mathlib.Core.Option.{some}
use borrow.Author.Tests.{lt-ltb}
use Rattle.std.specs.Prelude.{Result, Err}
use Rattle.xdr.specs.Writes.{afterwards}
use Rattle.sflow.specs.Grammar.{listed, octets_of_each, encode, each_fits, allows}
use Rattle.sflow.specs.Datagram.{counters_versions, sample_type}
use Rattle.counter_data.proofs.Bodies.{widths_of}
use Rattle.form_writer.specs.declared.parts.WriteRefusal.{WriteRefusal}
use Rattle.form_writer.specs.declared.parts.WriteRefusal.TheVariants.{BadValue}
use Rattle.form_writer.specs.Parts.{write_value, write_given, words_octets}
use Rattle.sample_writer.specs.CounterValues.{counters_value}

-- the octets of a counter sample: five words, and the numbers in the widths of the version
counters_octets : (a b c version : ℕ) (ns : List ℕ)
    → encode sample_type (counters_value a b c version ns) ≡ words_octets (2 ∷ a ∷ b ∷ c ∷ version ∷ []) ++ octets_of_each (widths_of version) ns
unfolding encode octets_of_each words_octets flat_map
counters_octets a b c version ns = simp append_assoc

module _ (d : List ℕ) (a b c v : ℕ) (ns : List ℕ) (i : a < 2 ^ 32) (j : b < 2 ^ 32) (k : c < 2 ^ 32) (l : v < 2 ^ 32) where
  -- the grammar allows it where the version is one of the seven and the numbers are as many and as wide as its counters
  counters_allowed : allows sample_type (counters_value a b c v ns) ≡ (listed counters_versions v && each_fits (widths_of v) ns)
  unfolding allows
  counters_allowed = rw (lt-ltb a (2 ^ 32) i, lt-ltb b (2 ^ 32) j, lt-ltb c (2 ^ 32) k, lt-ltb v (2 ^ 32) l)

  -- a write of the numbers in the widths of the version n is one of the version v, which is n
  pub counters_arm : (n : ℕ) (e : List ℕ) (r : Result ℕ WriteRefusal) → v ≡ n → listed counters_versions n ≡ true
      → afterwards r e ≡ write_value (each_fits (widths_of n) ns) (words_octets (2 ∷ a ∷ b ∷ c ∷ v ∷ []) ++ octets_of_each (widths_of n) ns) d
      → afterwards r e ≡ write_given sample_type (some (counters_value a b c v ns)) d
  counters_arm n e r s h q =
      let t : listed counters_versions v ≡ true = rw s h in
      q
      ∙ ap (λ (m : ℕ). write_value (each_fits (widths_of m) ns) (words_octets (2 ∷ a ∷ b ∷ c ∷ v ∷ []) ++ octets_of_each (widths_of m) ns) d) (sym s)
      ∙ rw (counters_allowed, t, counters_octets a b c v ns)

  -- a version that is none of the seven changes nothing
  pub counters_none : listed counters_versions v ≡ false → afterwards (Err BadValue) d ≡ write_given sample_type (some (counters_value a b c v ns)) d
  counters_none h = rw (counters_allowed, h)
