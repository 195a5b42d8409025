-- The walk over a datagram's samples accepts and refuses as reading it whole does, and meets its samples. Assumes nothing.
use Prim.Native.Nat.{ℕ, zero, suc, ◌+◌, ◌-◌}
use native.Mathlib.Omega.{arith}
use mathlib.Core.Path.{◌≡◌, refl, sym, ap, ◌∙◌}
use mathlib.Core.Bool.{Bool, true, false, cond}
use mathlib.Core.List.{List, [], ◌∷◌}
use lib.ListN.{length}
use lib.Dec.{ltb, eqb-suc-zero}
use Rattle.xdr.specs.Numbers.{Octets}
use Rattle.sflow.specs.declared.Refusal.{Refusal}
use Rattle.sflow.specs.declared.Refusal.TheVariants.{Trailing}
use Rattle.sflow.specs.Grammar.{Value}
use Rattle.sflow.specs.Decode.{Decoded, found, refused, and_then, entries, decode, EndToEnd}
use Rattle.sflow.specs.Datagram.{address, sample_type, sample_datagram, agent_address, samples}
use Rattle.sflow.specs.Reading.{read_datagram}
use Rattle.sflow.proofs.Ends.{end_is}
use Rattle.sflow.proofs.Theorems.{samples_end_to_end}
use Rattle.reader.specs.declared.datagram.Head.{Head}
use Rattle.std.specs.Prelude.{None}
use Rattle.fields.specs.Parts.{size, as_passed}
use Rattle.reader.specs.Samples.{sample_of}
use Rattle.reader.specs.Datagrams.{head_at, datagram_of, step_at, walk, walk_on, samples_from}
use Rattle.reader.proofs.Wholes.{read_samples_refused, read_samples}
use Rattle.std.specs.Prelude.{Result, Ok, Err}
use Rattle.sflow.specs.declared.Refused.{Refused}
use Rattle.sflow.specs.Decode.{refused_at}
use Rattle.sflow.specs.Decode.{refused_at}

-- ---- one step

-- behind the last sample
abbrev lastly : List ℕ → ℕ → Result ℕ Refused
lastly s at = cond (ltb at (length s)) (Err (refused_at Trailing at)) (Ok at)

-- how a walk ends that first passes samples
abbrev then_ends : List ℕ → Decoded (List (Value sample_type)) → Result ℕ Refused
then_ends s (found vs end) = lastly s end
then_ends s (refused why p) = Err (refused_at why p)

walk_end : (s : List ℕ) (at : ℕ) → walk s 0 at ≡ record { met = []; ending = lastly s at }
unfolding walk step_at
walk_end s at = go (ltb at (length s))
  where
    go : (b : Bool)
        → walk_on at (cond b (Err (refused_at Trailing at)) (Ok None)) (λ next. record { met = []; ending = Ok next })
        ≡ record { met = []; ending = cond b (Err (refused_at Trailing at)) (Ok at) }
    go true = refl
    go false = refl

walk_step : (s : List ℕ) (left at : ℕ) (v : Value sample_type) (next : ℕ) → decode sample_type s at ≡ found v next
    → walk s (suc left) at
    ≡ record { met = record { offset = at; length = next - at; values = sample_of at v } ∷ (walk s left next).met; ending = (walk s left next).ending }
unfolding walk step_at
walk_step s left at v next e = rw (eqb-suc-zero left, e)

walk_stop : (s : List ℕ) (left at : ℕ) (why : Refusal) (p : ℕ) → decode sample_type s at ≡ refused why p
    → walk s (suc left) at ≡ record { met = []; ending = Err (refused_at why p) }
unfolding walk step_at
walk_stop s left at why p e = rw (eqb-suc-zero left, e)

-- ---- the whole walk

-- it ends as passing over the samples does, and then at the end or in what lies behind it
walk_ends : (s : List ℕ) (left at : ℕ) → (walk s left at).ending ≡ then_ends s (entries (decode sample_type s) left at)
unfolding entries
walk_ends s zero at = rw (walk_end s at)
walk_ends s (suc left) at = go (decode sample_type s at) refl (walk_ends s left)
  where
    rest : (v : Value sample_type) (d : Decoded (List (Value sample_type))) → then_ends s d ≡ then_ends s (and_then d λ vs end. found (v ∷ vs) end)
    rest v (found vs end) = refl
    rest v (refused why p) = refl

    go : (d : Decoded (Value sample_type)) → decode sample_type s at ≡ d
        → ((next : ℕ) → (walk s left next).ending ≡ then_ends s (entries (decode sample_type s) left next))
        → (walk s (suc left) at).ending
        ≡ then_ends s (and_then d λ v next. and_then (entries (decode sample_type s) left next) λ vs end. found (v ∷ vs) end)
    go (found v next) e more = rw (walk_step s left at v next e) (more next ∙ rest v (entries (decode sample_type s) left next))
    go (refused why p) e more = rw (walk_stop s left at why p e)

-- whatever the octets: where the head is refused, so is the datagram (read_head_refused); else the walk from the head's cursor ends as reading does
pub walk_reads : (s : List ℕ) (h : Head) (next : ℕ) → head_at s ≡ found h next
    → (walk s h.samples.count h.samples.at).ending ≡ as_passed (read_datagram s)
walk_reads s h next e = walk_ends s h.samples.count h.samples.at ∙ go (entries (decode sample_type s) h.samples.count h.samples.at) refl
  where
    last : (end : ℕ) (v : Value sample_datagram) (b : Bool) → cond b (Err (refused_at Trailing end)) (Ok end) ≡ as_passed (cond b (refused Trailing end) (found v end))
    last end v true = refl
    last end v false = refl

    go : (d : Decoded (List (Value sample_type))) → entries (decode sample_type s) h.samples.count h.samples.at ≡ d → then_ends s d ≡ as_passed (read_datagram s)
    go (found vs end) f =
        let r = read_samples s h next e end (ap as_passed f) in
        last end r.value (ltb end (length s)) ∙ ap as_passed (sym r.read)
    go (refused why p) f = ap as_passed (sym (read_samples_refused s h next e why p (ap as_passed f)))

-- the walk over values that lie end to end meets them
walk_meets : (s : List ℕ) (vs : List (Value sample_type)) (at end : ℕ) → EndToEnd (decode sample_type s) at vs end
    → (walk s (length vs) at).met ≡ samples_from at vs
walk_meets s [] at end p = rw (walk_end s at)
walk_meets s (v ∷ vs) at end p =
    let next = p.0 in
    let n : next ≡ at + size sample_type v = end_is sample_type s at v next p.1 in
    let m : next - at ≡ size sample_type v = omega arith in
    rw (walk_step s (length vs) at v next p.1, m, walk_meets s vs next end p.2, n)

-- on an accepted datagram the walk meets exactly its samples, in order and end to end
pub walk_samples : (s : List ℕ) → Octets s → (v : Value sample_datagram) → read_datagram s ≡ found v (length s)
    → (walk s (datagram_of v).samples.count (datagram_of v).samples.at).met ≡ samples_from (datagram_of v).samples.at (samples v)
walk_samples s o v e = walk_meets s (samples v) (16 + size address (agent_address v)) (length s) (samples_end_to_end s o v e)
