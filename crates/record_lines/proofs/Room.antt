-- Room that is enough for every record. Assumes nothing.
use Prim.Native.Nat.{ℕ, ◌+◌, ◌*◌, ◌≤◌}
use native.Mathlib.Omega.{arith}
use mathlib.Core.Path.{◌≡◌, refl, ap, ◌∙◌}
use mathlib.Core.Bool.{Bool, true, false, cond, ◌&&◌, ◌||◌}
use mathlib.Core.List.{List, [], ◌∷◌, ◌++◌, flat_map}
use lib.ListN.{length, length-append}
use lib.Dec.{T, leb, eqb}
use borrow.Author.Tests.{le-leb, leb-true}
use Rattle.xdr.specs.Numbers.{Octets, octets_of}
use Rattle.xdr.specs.Items.{total_width}
use Rattle.xdr.specs.Writes.{stored, afterwards}
use Rattle.xdr.proofs.Octets.{octets_length}
use Rattle.sflow.specs.Grammar.{fixed, Value, Valid, Each, Arm, case, chosen, listed, encode}
use Rattle.sflow.specs.Datagram.{int, flow_words, flow_sample, counters_versions, counters_sample, sample_type, sample_datagram, samples}
use Rattle.sflow.specs.Decode.{Decoded, found, refused, mapped}
use Rattle.sflow.specs.Reading.{read_datagram}
use Rattle.sflow.proofs.Items.{each_length}
use Rattle.sflow.proofs.Theorems.{accepted_exactly, accepted_to_end}
use Rattle.reader.specs.Datagrams.{datagram_of, as_head, datagram_read}
use Rattle.std.proofs.Common.{Some}
use Rattle.record_lines.specs.Records.{record_lines, room_of, answer_to, list_record}

-- every arm's items take so many octets
abbrev all_long : ℕ → List (Arm (List ℕ)) → Bool
all_long n [] = true
all_long n (case k ws ∷ arms) = leb n (total_width ws) && all_long n arms

chosen_long : (n : ℕ) (arms : List (Arm (List ℕ))) (v : ℕ) → T (listed arms v) → T (all_long n arms) → n ≤ total_width (chosen [] arms v)
chosen_long n [] v t a = absurd t
chosen_long n (case k ws ∷ arms) v t a = go (eqb v k) (leb n (total_width ws)) refl t a (chosen_long n arms v)
  where
    go : (b c : Bool) → leb n (total_width ws) ≡ c → T (b || listed arms v) → T (c && all_long n arms)
        → (T (listed arms v) → T (all_long n arms) → n ≤ total_width (chosen [] arms v)) → n ≤ total_width (cond b ws (chosen [] arms v))
    go true true e t a rest = leb-true _ _ e
    go b false e t a rest = absurd a
    go false true e t a rest = rest t a

-- a sample takes at least 40 octets
sample_long : (v : Value sample_type) → Valid sample_type v → 40 ≤ length (encode sample_type v)
unfolding encode
sample_long (kind, v) h = go (eqb kind 1) (eqb kind 2) v h.1 h.2
  where
    go : (b c : Bool) (v : Value (cond b flow_sample (cond c counters_sample (fixed [])))) → T (b || (c || false))
        → Valid (cond b flow_sample (cond c counters_sample (fixed []))) v
        → 40 ≤ length (octets_of 4 kind ++ encode (cond b flow_sample (cond c counters_sample (fixed []))) v)
    go true c v t f =
        let l = each_length flow_words v.0 f.0 in
        rw (length-append, length-append, length-append, length-append, length-append, octets_length, octets_length, octets_length) (omega arith)
    go false true v t f =
        let l = each_length (int ∷ int ∷ int ∷ []) v.0 f.0 in
        let m = each_length (chosen [] counters_versions v.1.0) v.1.1 f.1.2 in
        let k = chosen_long 28 counters_versions v.1.0 f.1.1 tt in
        rw (length-append, length-append, length-append, octets_length, octets_length) (omega arith)
    go false false v t f = absurd t

samples_long : (vs : List (Value sample_type)) → Each (Valid sample_type) vs → 40 * length vs ≤ length (flat_map (encode sample_type) vs)
unfolding flat_map
samples_long [] h = omega arith
samples_long (v ∷ vs) h =
    let a = sample_long v h.0 in
    let b = samples_long vs h.1 in
    rw length-append (omega arith)

-- an accepted datagram has at most 1,637 samples
samples_few : (s : List ℕ) → Octets s → (v : Value sample_datagram) → read_datagram s ≡ found v (length s) → length (samples v) ≤ 1637
unfolding encode
samples_few s o v e =
    let r = (accepted_exactly s o v).0 e in
    let m = samples_long (samples v) r.1.2.1.1.1 in
    let few = r.0 in
    let whole : length s ≡ length (encode sample_datagram v) = ap length r.2 in
    let long : length (flat_map (encode sample_type) (samples v)) ≤ length (encode sample_datagram v) =
    rw (length-append, length-append, length-append, length-append, length-append) (omega arith) in
    omega arith

-- no record asks for more room than this
pub room_enough : (s : List ℕ) → Octets s → room_of (datagram_read s) ≤ 222796
room_enough s o = go (read_datagram s) refl
  where
    go : (d : Decoded (Value sample_datagram)) → read_datagram s ≡ d → room_of (as_head (mapped datagram_of d)) ≤ 222796
    go (found v end) e =
        let n = samples_few s o v (e ∙ ap (found v) (accepted_to_end s o v end e)) in
        omega arith
    go (refused why p) e = omega arith

-- an output with so much room takes every record's lines
pub takes_every : (d : List ℕ) (at n : ℕ) (s : List ℕ) → Octets s → at + 222796 ≤ length d
    → list_record d at n s ≡ afterwards (Some (answer_to (datagram_read s) (at + length (record_lines n s)))) (stored d at (record_lines n s))
unfolding list_record
takes_every d at n s o h =
    let r = room_enough s o in
    let room : at + room_of (datagram_read s) ≤ length d = omega arith in
    rw (le-leb _ _ room)
