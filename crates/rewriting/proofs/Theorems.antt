-- Demand 2, of the writer: writing an accepted datagram again gives the same octets if they fit the limit, never more. Assumes nothing.
use Prim.Native.Nat.{ℕ, ◌+◌, ◌≤◌, ◌<◌}
use native.Mathlib.Omega.{arith}
use mathlib.Core.Path.{◌≡◌, refl, sym, ap, ◌∙◌}
use mathlib.Core.Bool.{true}
use mathlib.Core.List.{List, [], ◌∷◌, map}
use mathlib.Core.Option.{some}
use lib.ListN.{length}
use lib.Dec.{eqb}
use borrow.Author.Tests.{eqb-true}
use Rattle.std.specs.Prelude.{Ok}
use Rattle.xdr.specs.Numbers.{Octets}
use Rattle.xdr.specs.Writes.{stored, afterwards}
use Rattle.xdr.proofs.Tests.{is_true}
use Rattle.sflow.specs.Slices.{Slice}
use Rattle.sflow.specs.Grammar.{Value, Valid, encode}
use Rattle.sflow.specs.Decode.{found, decode, EndToEnd}
use Rattle.sflow.specs.Datagram.{int, address, sample_type, sample_datagram, agent_address, samples}
use Rattle.sflow.specs.Reading.{read_datagram}
use Rattle.sflow.proofs.Slices.{ends}
use Rattle.sflow.proofs.Theorems.{read_is_encoded, accepted_exactly, samples_end_to_end}
use Rattle.fields.specs.Parts.{item, size}
use Rattle.fields.specs.Addresses.{address_of}
use Rattle.reader.specs.Datagrams.{datagram_of, samples_from}
use Rattle.reader.proofs.Walks.{walk_samples}
use Rattle.form_writer.specs.Values.{address_value}
use Rattle.writer.specs.Datagrams.{limit_allowed, start_value, with_samples}
use Rattle.writer.proofs.Theorems.{encoded_total}
use Rattle.rewriting.specs.Rewriting.{sample_given, rewritten, Stopped}
use Rattle.rewriting.proofs.Fields.{items_are, address_again}
use Rattle.rewriting.proofs.Samples.{sample_again}
use Rattle.rewriting.proofs.Appending.{all_written, some_written}

-- ---- samples that stand in octets

-- a sample that stands at an offset of the octets, and those behind it
pub record Standing (s : List ℕ) (at : ℕ) (w : Value sample_type) (ws : List (Value sample_type)) (end : ℕ) : Type 0 where
  pub valid : Valid sample_type w
  pub decoded : decode sample_type s at ≡ found w (at + size sample_type w)
  pub slice : Slice s at (at + size sample_type w) (encode sample_type w)
  pub within : at + size sample_type w ≤ length s
  pub rest : EndToEnd (decode sample_type s) (at + size sample_type w) ws end

pub standing : (s : List ℕ) → Octets s → (at : ℕ) (w : Value sample_type) (ws : List (Value sample_type)) (end : ℕ) → at ≤ length s
    → EndToEnd (decode sample_type s) at (w ∷ ws) end → Standing s at w ws end
standing s o at w ws end low e =
    let r = read_is_encoded sample_type s o at w e.0 low e.1 in
    let next : e.0 ≡ at + size sample_type w = ends r.1 in
    record { valid = r.0; decoded = rw next at e.1; slice = rw next at r.1; within = rw next at r.1.high; rest = rw next at e.2 }

-- each is given again
all_given : (s : List ℕ) → Octets s → (at : ℕ) (ws : List (Value sample_type)) (end : ℕ) → at ≤ length s → EndToEnd (decode sample_type s) at ws end
    → map (λ x. sample_given s x.values) (samples_from at ws) ≡ map some ws
all_given s o at [] end low e = refl
all_given s o at (w ∷ ws) end low e =
    let p = standing s o at w ws end low e in
    rw (sample_again s w p.valid at (at + size sample_type w) p.slice, all_given s o (at + size sample_type w) ws end p.within p.rest)

-- ---- demand 2

-- the head that the reader gives starts the datagram without its samples
pub head_again : (v : Value sample_datagram) → Valid sample_datagram v
    → start_value (datagram_of v).agent (datagram_of v).sequence_number (datagram_of v).uptime ≡ with_samples v []
head_again v h =
    let four : v.0 ≡ 4 = eqb-true v.0 4 (is_true (eqb v.0 4) h.1) in
    let ws : List ℕ = v.1.1.0 in
    ap (λ (n : ℕ). (n, (address_value (address_of (agent_address v)), ((item ws 0 ∷ item ws 1 ∷ []), [])))) (sym four)
    ∙ ap (λ (a : Value address). (v.0, (a, ((item ws 0 ∷ item ws 1 ∷ []), [])))) (address_again (agent_address v) h.2.0)
    ∙ ap (λ (l : List ℕ). (v.0, (agent_address v, (l, [])))) (items_are (int ∷ int ∷ []) ws h.2.1.0)

module _ (s : List ℕ) (octets : Octets s) (v : Value sample_datagram) (accepted : read_datagram s ≡ found v (length s)) where
  pub all_valid : Valid sample_datagram v
  all_valid = ((accepted_exactly s octets v).0 accepted).1

  pub octets_are : s ≡ encode sample_datagram v
  octets_are = ((accepted_exactly s octets v).0 accepted).2

  -- the first sample begins within the octets
  pub first_within : 16 + size address (agent_address v) ≤ length s
  first_within = let a = ap length octets_are in let b = encoded_total v (samples v) all_valid in omega arith

  walked : map (λ x. sample_given s x.values) (samples_from (16 + size address (agent_address v)) (samples v)) ≡ map some (samples v)
  walked = all_given s octets (16 + size address (agent_address v)) (samples v) (length s) first_within (samples_end_to_end s octets v accepted)

  module _ (limit : ℕ) (d : List ℕ) (allowed : limit_allowed limit (length d) ≡ true) where
    pub same_octets : length s ≤ limit → rewritten s (datagram_of v) limit d ≡ afterwards (Ok (length s)) (stored d 0 s)
    unfolding rewritten
    same_octets fits =
        let l : length s ≡ length (encode sample_datagram v) = ap length octets_are in
        rw (walk_samples s octets v accepted)
        (all_written v all_valid limit d allowed _ _ _ (head_again v all_valid) _ walked (omega arith)
        ∙ ap (λ (xs : List ℕ). afterwards (Ok (length xs)) (stored d 0 xs)) (sym octets_are))

    pub never_more : limit < length s → Stopped v limit d (rewritten s (datagram_of v) limit d)
    unfolding rewritten
    never_more more =
        let l : length s ≡ length (encode sample_datagram v) = ap length octets_are in
        rw (walk_samples s octets v accepted) (some_written v all_valid limit d allowed _ _ _ (head_again v all_valid) _ walked (omega arith))
