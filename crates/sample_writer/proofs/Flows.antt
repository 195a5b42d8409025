-- A flow sample written by its parts is the flow sample of its values. Assumes nothing.
use Prim.Native.Nat.{ℕ, ◌^◌, ◌<◌}
use native.Mathlib.Omega.{arith}
use Prim.{tt}
use mathlib.Core.Path.{◌≡◌, refl}
use mathlib.Core.Logic.{◌↔◌}
use mathlib.Core.Bool.{Bool, true, false}
use mathlib.Core.List.{List, [], ◌++◌, flat_map, append_assoc, append-nil}
use mathlib.Core.Option.{Option, none, some}
use lib.ListN.{length}
use lib.Dec.{eqb}
use borrow.Author.Tests.{eqb-true, eqb-false}
use Rattle.std.specs.Prelude.{Result, Err}
use Rattle.xdr.specs.Numbers.{Octets}
use Rattle.xdr.specs.Writes.{afterwards}
use Rattle.sflow.specs.declared.Refusal.{Refusal}
use Rattle.sflow.specs.Grammar.{Value, Fits, Each, Valid, octets_of_each, encode}
use Rattle.sflow.specs.Decode.{entries, decode, entries_in}
use Rattle.sflow.specs.Datagram.{packet_data_type, extended_data_type, flow_words, sample_type}
use Rattle.sflow.proofs.Exact.{entries_in_exactly}
use Rattle.fields.specs.Parts.{as_passed}
use Rattle.reader.specs.declared.sample.FlowWords.{FlowWords}
use Rattle.form_writer.specs.declared.parts.WriteRefusal.{WriteRefusal}
use Rattle.form_writer.specs.declared.parts.WriteRefusal.TheVariants.{BadValue}
use Rattle.form_writer.specs.Parts.{write_value, write_given, words_octets}
use Rattle.form_writer.proofs.Allowances.{not_allowed, value_written}
use Rattle.form_writer.proofs.Allowed.{entries_there, entries_elsewhere, entries_nowhere}
use Rattle.sample_writer.specs.FlowValues.{flow_words_value, flow_value, flow_given, flow_octets, is_given}
use Rattle.std.specs.Prelude.{Result, Ok, Err}
use Rattle.sflow.specs.Decode.{refused_at}

-- ---- values

-- a flow sample that the grammar allows has packet data that it allows
pub packet_bad : (w : FlowWords) (p : Value packet_data_type) (x : Option (List (Value extended_data_type))) (d : List ℕ)
    → (Valid packet_data_type p → ⊥) → afterwards (Err BadValue) d ≡ write_given sample_type (flow_given w (some p) x) d
packet_bad w p none d n = refl
packet_bad w p (some es) d n = not_allowed sample_type (flow_value w p es) d (λ h. n h.2.1.0)

-- without packet data nothing is written
pub packet_none : (w : FlowWords) (p : Option (Value packet_data_type)) (x : Option (List (Value extended_data_type))) (d : List ℕ)
    → p ≡ none → afterwards (Err BadValue) d ≡ write_given sample_type (flow_given w p x) d
packet_none w p x d e = rw e

-- packet data that were found to be given
pub packet_given : (w : FlowWords) (x : Option (Value packet_data_type)) (p : Value packet_data_type) (es : Option (List (Value extended_data_type)))
    (d e : List ℕ) (r : Result ℕ WriteRefusal) → x ≡ some p → afterwards r e ≡ write_given sample_type (flow_given w (some p) es) d
    → afterwards r e ≡ write_given sample_type (flow_given w x es) d
packet_given w x p es d e r given f = rw given f

-- whether octets are exactly so many extended entries, by what reading them answers
module _ (count : ℕ) (xs : List ℕ) where
  pub entries_refused : (why : Refusal) (p : ℕ) → as_passed (entries (decode extended_data_type xs) count 0) ≡ Err (refused_at why p)
      → false ≡ is_given (entries_in extended_data_type count xs)
  entries_refused why p e = rw (entries_nowhere extended_data_type xs count why p e)

  pub entries_tested : (next : ℕ) → as_passed (entries (decode extended_data_type xs) count 0) ≡ Ok next
      → eqb next (length xs) ≡ is_given (entries_in extended_data_type count xs)
  entries_tested next e = go (eqb next (length xs)) refl
    where
      go : (b : Bool) → eqb next (length xs) ≡ b → b ≡ is_given (entries_in extended_data_type count xs)
      go true t = let p = entries_there extended_data_type xs count next e (eqb-true next (length xs) t) in rw p.1
      go false t = rw (entries_elsewhere extended_data_type xs count next e (eqb-false next (length xs) t))

-- ---- parts

-- the same as parts one behind the other
pub parts_are : (head packet rest count xs : List ℕ)
    → head ++ (packet ++ (rest ++ (count ++ (xs ++ [])))) ≡ head ++ ((packet ++ rest) ++ (count ++ xs))
parts_are head packet rest count xs = simp (append_assoc, append-nil)

-- the octets of a flow sample of values
flow_encoded : (w : FlowWords) (p : Value packet_data_type) (es : List (Value extended_data_type))
    → flow_octets w (encode packet_data_type p) (length es) (flat_map (encode extended_data_type) es) ≡ encode sample_type (flow_value w p es)
unfolding words_octets flat_map octets_of_each encode
flow_encoded w p es = simp (append_assoc, append-nil)

-- every word of a flow sample fits
pub record FlowFits (w : FlowWords) : Type 0 where
  pub sequence : w.sequence_number < 2 ^ 32
  pub source : w.source_id < 2 ^ 32
  pub rate : w.sampling_rate < 2 ^ 32
  pub pool : w.sample_pool < 2 ^ 32
  pub drops : w.drops < 2 ^ 32
  pub input : w.input < 2 ^ 32
  pub output : w.output < 2 ^ 32

flow_fits : (w : FlowWords) → FlowFits w → Fits flow_words (flow_words_value w)
flow_fits w f = (f.sequence, (f.source, (f.rate, (f.pool, (f.drops, (f.input, (f.output, tt)))))))

-- what is answered of a flow sample with the octets of packet data p
module _ (w : FlowWords) (fit : FlowFits w) (p : Value packet_data_type) (valid : Valid packet_data_type p) (packet : List ℕ)
    (same : packet ≡ encode packet_data_type p) (count : ℕ) (few : count < 2 ^ 32) (extended : List ℕ) (octets : Octets extended)
    (d e : List ℕ) (r : Result ℕ WriteRefusal) where
  pub flow_put : afterwards r e
      ≡ write_value (is_given (entries_in extended_data_type count extended)) (flow_octets w packet count extended) d
      → afterwards r e ≡ write_given sample_type (flow_given w (some p) (entries_in extended_data_type count extended)) d
  flow_put f = go (entries_in extended_data_type count extended) (entries_in_exactly extended_data_type count extended octets) f
    where
      go : (x : Option (List (Value extended_data_type)))
          → ((es : List (Value extended_data_type)) → (x ≡ some es) ↔ ((length es ≡ count) × Each (Valid extended_data_type) es × (extended ≡ flat_map (encode extended_data_type) es)))
          → afterwards r e ≡ write_value (is_given x) (flow_octets w packet count extended) d
          → afterwards r e ≡ write_given sample_type (flow_given w (some p) x) d
      go none exact g = g
      go (some es) exact g =
          let t = (exact es).0 refl in
          let many : length es < 2 ^ 32 = rw t.0 few in
          let whole : flow_octets w packet count extended ≡ encode sample_type (flow_value w p es) =
          rw (same, t.2, ← t.0) (flow_encoded w p es) in
          value_written sample_type (flow_value w p es) _ d e r (omega arith, tt, (flow_fits w fit, (valid, (many, t.1)))) whole g

-- octets that are exactly one value
nothing_octets : words_octets [] ≡ []
unfolding words_octets flat_map
nothing_octets = refl

pub octets_alone : (xs : List ℕ) (p : Value packet_data_type) → xs ≡ encode packet_data_type p → words_octets [] ++ xs ≡ encode packet_data_type p
octets_alone xs p e = rw (nothing_octets, e) refl
