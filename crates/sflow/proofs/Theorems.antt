-- What is proved of every form, and of datagrams. Assumes nothing.
use Prim.Native.Nat.{ℕ, ◌+◌, ◌≤◌, ◌<◌}
use native.Mathlib.Omega.{arith}
use mathlib.Core.Path.{◌≡◌, refl, sym, ap, ◌∙◌}
use mathlib.Core.List.{List, [], ◌∷◌, ◌++◌, append-nil, append_assoc, flat_map, map}
use mathlib.Core.Bool.{Bool, true, false, cond}
use mathlib.Core.Logic.{◌↔◌}
use lib.ListN.{length, take, drop, length-append, length-drop, length-take, take-append-drop}
use lib.Seq.{drop-length, take_at, drop_at, drop-append-le, drop-append_seam}
use lib.Dec.{ltb}
use borrow.Author.Tests.{ltb-false, le-ltb}
use Rattle.xdr.specs.Numbers.{Octets, octets_of}
use Rattle.xdr.specs.Items.{word_at, total_width}
use Rattle.sflow.specs.declared.Refusal.{Refusal}
use Rattle.sflow.specs.declared.Refusal.TheVariants.{Trailing, TooLong}
use Rattle.sflow.specs.Slices.{Slice}
use Rattle.sflow.specs.Grammar.{at_most, Form, opaque, chosen, Value, Each, Valid, octets_of_each, encode}
use Rattle.sflow.specs.Decode.{Decoded, found, refused, and_then, decode, EndToEnd}
use Rattle.sflow.specs.Datagram.{int, address, sample_type, sample_datagram, counters_versions, agent_address, samples}
use Rattle.sflow.specs.Reading.{longest, read_datagram}
use Rattle.sflow.proofs.Slices.{ends, first, second}
use Rattle.sflow.proofs.Items.{word_rest, each_length}
use Rattle.sflow.proofs.Steps.{limited_over}
use Rattle.sflow.proofs.Sound.{sound}
use Rattle.sflow.proofs.Complete.{complete}
use Rattle.std.specs.Prelude.{Result, Ok, Err, Option, Some, None}
use Rattle.xdr.specs.Items.{cut}
use Rattle.xdr.specs.declared.Cut.{Cut}
use Rattle.xdr.specs.declared.Unpadded.{Unpadded}
use Rattle.xdr.specs.declared.Unpadded.TheVariants.{CutShort, NonzeroPadding}

-- ---- every form

-- what is read is a value of the form, and the octets up to the offset behind it are its encoding
pub read_is_encoded : (g : Form) (s : List ℕ) → Octets s → (at : ℕ) (v : Value g) (next : ℕ) → at ≤ length s → decode g s at ≡ found v next
    → Valid g v × Slice s at next (encode g v)
read_is_encoded g s o at v next h e = let r = sound g s o at v next h e in (r.valid, r.slice)

-- the encoding of a value is read whole, whatever stands before and behind it
pub encoded_is_read : (g : Form) (v : Value g) → Valid g v → (before behind : List ℕ)
    → decode g (before ++ (encode g v ++ behind)) (length before) ≡ found v (length before + length (encode g v))
encoded_is_read g v h before behind = complete g v h _ _ _ (placed before (encode g v) behind)
  where
    placed : (xs ys zs : List ℕ) → Slice (xs ++ (ys ++ zs)) (length xs) (length xs + length ys) ys
    placed xs ys zs =
        let l : length (xs ++ (ys ++ zs)) ≡ length xs + (length ys + length zs) = rw (length-append, length-append) in
        let e : drop (length xs + length ys) (xs ++ (ys ++ zs)) ≡ zs =
        rw (← append_assoc xs ys zs, ← length-append) (drop-append_seam (xs ++ ys) zs) in
        record { low = omega arith; high = omega arith; split = rw e (drop-append_seam xs (ys ++ zs)) }

-- reading looks at no octet behind what it reads
pub beginning_only : (g : Form) (s : List ℕ) → Octets s → (at : ℕ) (v : Value g) (next : ℕ) → at ≤ length s → decode g s at ≡ found v next
    → (behind : List ℕ) → decode g (take next s ++ behind) at ≡ found v next
beginning_only g s o at v next h e behind =
    let r = sound g s o at v next h e in complete g v r.valid _ _ _ (kept (encode g v) r.slice)
  where
    kept : (xs : List ℕ) → Slice s at next xs → Slice (take next s ++ behind) at next xs
    kept xs p =
        let high = p.high in
        let end : next ≡ at + length xs = ends p in
        let long : length (take next s) ≡ next = rw length-take (omega arith) in
        let front : at ≤ length (take next s) = omega arith in
        let whole : length (take next s ++ behind) ≡ length (take next s) + length behind = length-append (take next s) behind in
        let both : drop at (take next s) ++ drop next s ≡ xs ++ drop next s =
        sym (drop-append-le at (take next s) (drop next s) front) ∙ ap (drop at) (take-append-drop next s) ∙ p.split in
        let size : length (drop at (take next s)) ≡ length xs = rw length-drop (omega arith) in
        let same : drop at (take next s) ≡ xs =
        sym (take_at (drop at (take next s)) (drop next s) (length xs) size) ∙ ap (take (length xs)) both ∙ take_at xs (drop next s) (length xs) refl in
        record {
          low = omega arith;
          high = omega arith;
          split = rw (drop-append-le at (take next s) behind front, same, drop_at (take next s) behind next long);
        }

-- no two values have the same encoding, and none has an encoding that another's begins with
pub encoded_once : (g : Form) (v w : Value g) → Valid g v → Valid g w → (xs ys : List ℕ) → encode g v ++ xs ≡ encode g w ++ ys → v ≡ w
encoded_once g v w hv hw xs ys e =
    let p : decode g (encode g v ++ xs) 0 ≡ found v (0 + length (encode g v)) = encoded_is_read g v hv [] xs in
    let q : decode g (encode g w ++ ys) 0 ≡ found w (0 + length (encode g w)) = encoded_is_read g w hw [] ys in
    let f : found v (0 + length (encode g v)) ≡ found w (0 + length (encode g w)) = sym p ∙ ap (λ (l : List ℕ). decode g l 0) e ∙ q in
    cc

-- entries lie end to end
pub end_to_end : (g : Form) (s : List ℕ) (vs : List (Value g)) → Each (Valid g) vs → (at end : ℕ) → Slice s at end (flat_map (encode g) vs)
    → EndToEnd (decode g s) at vs end
unfolding flat_map
end_to_end g s [] h at end p = let e : end ≡ at + 0 = ends p in omega arith
end_to_end g s (v ∷ vs) h at end p =
    let next = at + length (encode g v) in (
      next,
      complete g v h.0 s at next (first (encode g v) (flat_map (encode g) vs) p),
      end_to_end g s vs h.1 next end (second (encode g v) (flat_map (encode g) vs) p),
    )

-- a string's limit is tested before its octets are looked for
pub limit_first : (most : ℕ) (why : Refusal) (s : List ℕ) (at n next : ℕ) → word_at s at ≡ Ok (n, next) → most < n
    → decode (opaque (at_most most why)) s at ≡ refused why at
limit_first most why s at n next e h = limited_over most why s at n next e h

-- ---- datagrams

-- what is read of a datagram
record Whole (s : List ℕ) (v : Value sample_datagram) (end : ℕ) : Type 0 where
  few : length s ≤ longest
  to_end : end ≡ length s
  decoded : decode sample_datagram s 0 ≡ found v end

whole : (s : List ℕ) → Octets s → (v : Value sample_datagram) (end : ℕ) → read_datagram s ≡ found v end → Whole s v end
unfolding read_datagram
whole s o v end e = go (ltb longest (length s)) refl (decode sample_datagram s 0) refl e
  where
    last : (few : length s ≤ longest) (w : Value sample_datagram) (stop : ℕ) → decode sample_datagram s 0 ≡ found w stop
        → (b : Bool) → ltb stop (length s) ≡ b → cond b (refused Trailing stop) (found w stop) ≡ found v end → Whole s v end
    last few w stop d true t f = let z : ◌≡◌ {A = ℕ} 0 1 = cc in absurd (omega arith)
    last few w stop d false t f =
        let r = sound sample_datagram s o 0 w stop (omega arith) d in
        let high = r.slice.high in
        let low : length s ≤ stop = ltb-false stop (length s) t in
        let same : stop ≡ end = cc in
        record { few = few; to_end = omega arith; decoded = d ∙ f }

    go : (b : Bool) → ltb longest (length s) ≡ b → (d : Decoded (Value sample_datagram)) → decode sample_datagram s 0 ≡ d
        → cond b (refused TooLong 0) (and_then d λ w stop. cond (ltb stop (length s)) (refused Trailing stop) (found w stop)) ≡ found v end
        → Whole s v end
    go true t d e' f = let z : ◌≡◌ {A = ℕ} 0 1 = cc in absurd (omega arith)
    go false t (refused why p) e' f = let z : ◌≡◌ {A = ℕ} 0 1 = cc in absurd (omega arith)
    go false t (found w stop) e' f = last (ltb-false longest (length s) t) w stop e' (ltb stop (length s)) refl f

-- an accepted datagram is read to its end
pub accepted_to_end : (s : List ℕ) → Octets s → (v : Value sample_datagram) (end : ℕ) → read_datagram s ≡ found v end → end ≡ length s
accepted_to_end s o v end e = (whole s o v end e).to_end

encoded_whole : (g : Form) (v : Value g) (s : List ℕ) → s ≡ encode g v → Slice s 0 (length s) (encode g v)
encoded_whole g v s e = record { low = omega arith; high = omega arith; split = rw (drop-length s, append-nil) e }

-- demand 2: a datagram is accepted with a value exactly where it is at most 65,507 octets long and the encoding of that value of the grammar
pub accepted_exactly : (s : List ℕ) → Octets s → (v : Value sample_datagram)
    → (read_datagram s ≡ found v (length s)) ↔ ((length s ≤ longest) × Valid sample_datagram v × (s ≡ encode sample_datagram v))
unfolding read_datagram
accepted_exactly s o v = (to_value, of_value)
  where
    to_value : read_datagram s ≡ found v (length s) → (length s ≤ longest) × Valid sample_datagram v × (s ≡ encode sample_datagram v)
    to_value e =
        let w = whole s o v (length s) e in
        let r = sound sample_datagram s o 0 v (length s) (omega arith) w.decoded in
        (w.few, r.valid, r.slice.split ∙ rw (drop-length s, append-nil))

    of_value : (length s ≤ longest) × Valid sample_datagram v × (s ≡ encode sample_datagram v) → read_datagram s ≡ found v (length s)
    of_value h =
        let d = complete sample_datagram v h.1 s 0 (length s) (encoded_whole sample_datagram v s h.2) in
        let same : length s ≤ length s = omega arith in
        rw (le-ltb longest (length s) h.0, d, le-ltb (length s) (length s) same)

-- the value of an accepted datagram is the only one whose encoding it is
pub accepted_once : (s : List ℕ) → Octets s → (v w : Value sample_datagram) → read_datagram s ≡ found v (length s)
    → Valid sample_datagram w → s ≡ encode sample_datagram w → v ≡ w
accepted_once s o v w e h f =
    let r = (accepted_exactly s o v).0 e in
    encoded_once sample_datagram v w r.1 h [] [] (simp append-nil (sym r.2 ∙ f))

-- the samples of an accepted datagram lie end to end over its body, from the octet behind the count word to the end
pub samples_end_to_end : (s : List ℕ) → Octets s → (v : Value sample_datagram) → read_datagram s ≡ found v (length s)
    → EndToEnd (decode sample_type s) (16 + length (encode address (agent_address v))) (samples v) (length s)
unfolding encode
samples_end_to_end s o v e =
    let r = (accepted_exactly s o v).0 e in
    let h = r.1 in
    let agent : List ℕ = encode address (agent_address v) in
    let words : List ℕ = octets_of_each (int ∷ int ∷ []) v.1.1.0 in
    let body : List ℕ = flat_map (encode sample_type) (samples v) in
    let count : List ℕ = octets_of 4 (length (samples v)) in
    let p : Slice s 0 (length s) (octets_of 4 v.0 ++ (agent ++ (words ++ (count ++ body)))) = encoded_whole sample_datagram v s r.2 in
    let q : Slice s (4 + length agent) (length s) (words ++ (count ++ body)) = second agent (words ++ (count ++ body)) (word_rest s 0 v.0 (length s) _ p) in
    let long : length words ≡ 8 = each_length (int ∷ int ∷ []) v.1.1.0 h.2.1.0 in
    let t : Slice s (4 + length agent + length words + 4) (length s) body =
    word_rest s (4 + length agent + length words) (length (samples v)) (length s) body (second words (count ++ body) q) in
    let at : 4 + length agent + length words + 4 ≡ 16 + length agent = omega arith in
    rw at at (end_to_end sample_type s (samples v) h.2.1.1.1 (4 + length agent + length words + 4) (length s) t)

-- the lengths of the counters' bodies, versions 1 to 7 (document 01, "Datagram grammar")
pub body_lengths : map (λ version. total_width (chosen [] counters_versions version)) (1 ∷ 2 ∷ 3 ∷ 4 ∷ 5 ∷ 6 ∷ 7 ∷ [])
    ≡ 88 ∷ 140 ∷ 160 ∷ 88 ∷ 168 ∷ 88 ∷ 28 ∷ []
body_lengths = refl
