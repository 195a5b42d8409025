-- The datagram so far, by what reading it answers. Assumes nothing.
use Prim.Native.Nat.{ℕ, ◌+◌, ◌-◌, ◌*◌, ◌≤◌, ◌<◌}
use native.Mathlib.Omega.{arith}
use mathlib.Core.Path.{◌≡◌, refl, ap, ◌∙◌}
use mathlib.Core.Bool.{true, false}
use mathlib.Core.List.{List, [], ◌∷◌, ◌++◌, flat_map}
use lib.ListN.{length, take, length-append}
use borrow.Author.Tests.{le-leb, lt-leb}
use Rattle.std.specs.Prelude.{Ok, Err}
use Rattle.xdr.specs.Numbers.{Octets, octets_of}
use Rattle.xdr.proofs.Octets.{octets_length}
use Rattle.sflow.specs.declared.Refusal.{Refusal}
use Rattle.sflow.specs.Grammar.{Value, octets_of_each, encode}
use Rattle.sflow.specs.Decode.{Decoded, found, refused, mapped}
use Rattle.sflow.specs.Datagram.{int, address, sample_type, sample_datagram, agent_address, samples}
use Rattle.sflow.specs.Reading.{longest, read_datagram}
use Rattle.sflow.proofs.Theorems.{accepted_to_end, accepted_exactly}
use Rattle.reader.specs.declared.datagram.Head.{Head}
use Rattle.reader.specs.Datagrams.{datagram_of, as_head}
use Rattle.form_writer.specs.declared.parts.WriteRefusal.TheVariants.{BadLimit, BadDatagram}
use Rattle.writer.specs.Datagrams.{limit_allowed, count_at, ready_so_far, checked_at}
use Rattle.std.specs.Prelude.{Ok, Err}
use Rattle.sflow.specs.Decode.{refused_at}

-- ---- the samples of an accepted datagram are few

sample_long : (v : Value sample_type) → 4 ≤ length (encode sample_type v)
unfolding encode
sample_long v =
    let l : length (octets_of 4 v.0) ≡ 4 = octets_length 4 v.0 in
    rw (length-append, l) (omega arith)

samples_long : (vs : List (Value sample_type)) → length vs * 4 ≤ length (flat_map (encode sample_type) vs)
unfolding flat_map
samples_long [] = omega arith
samples_long (v ∷ vs) = let h = sample_long v in let t = samples_long vs in rw length-append (omega arith)

last_inside : (a b c e xs : List ℕ) → length xs ≤ length (a ++ (b ++ (c ++ (e ++ xs))))
last_inside a b c e xs = rw (length-append, length-append, length-append, length-append) (omega arith)

body_inside : (v : Value sample_datagram) → length (flat_map (encode sample_type) (samples v)) ≤ length (encode sample_datagram v)
unfolding encode
body_inside v =
    last_inside (octets_of 4 v.0) (encode address (agent_address v)) (octets_of_each (int ∷ int ∷ []) v.1.1.0) (octets_of 4 (length (samples v)))
    (flat_map (encode sample_type) (samples v))

pub few_samples : (s : List ℕ) → Octets s → (v : Value sample_datagram) (end : ℕ) → read_datagram s ≡ found v end → length (samples v) * 4 ≤ longest
few_samples s o v end e =
    let n : end ≡ length s = accepted_to_end s o v end e in
    let r = (accepted_exactly s o v).0 (e ∙ ap (found v) n) in
    let few : length s ≤ longest = r.0 in
    let same : length s ≡ length (encode sample_datagram v) = ap length r.2 in
    let b = body_inside v in
    let t = samples_long (samples v) in
    omega arith

-- ---- what the answer about a head says

pub record HeadOf (s : List ℕ) (h : Head) : Type 0 where
  pub value : Value sample_datagram
  pub end : ℕ
  pub read : read_datagram s ≡ found value end
  pub seen : datagram_of value ≡ h

pub head_of : (s : List ℕ) (h : Head) → as_head (mapped datagram_of (read_datagram s)) ≡ Ok h → HeadOf s h
head_of s h e = go (read_datagram s) refl e
  where
    go : (d : Decoded (Value sample_datagram)) → read_datagram s ≡ d → as_head (mapped datagram_of d) ≡ Ok h → HeadOf s h
    go (found v end) f g = record { value = v; end = end; read = f; seen = cc }
    go (refused why p) f g = let z : ◌≡◌ {A = ℕ} 0 1 = cc in absurd (omega arith)

pub head_at : (s : List ℕ) (h : Head) → as_head (mapped datagram_of (read_datagram s)) ≡ Ok h → 4 ≤ h.samples.at
head_at s h e =
    let r = head_of s h e in
    let m : 16 + length (encode address (agent_address r.value)) ≡ h.samples.at = ap (λ (x : Head). x.samples.at) r.seen in
    omega arith

pub head_few : (s : List ℕ) → Octets s → (h : Head) → as_head (mapped datagram_of (read_datagram s)) ≡ Ok h → h.samples.count * 4 ≤ longest
head_few s o h e =
    let r = head_of s h e in
    let m : length (samples r.value) ≡ h.samples.count = ap (λ (x : Head). x.samples.count) r.seen in
    rw m at (few_samples s o r.value r.end r.read)

-- ---- the answers

module _ (limit size : ℕ) (d : List ℕ) where
  pub so_far_limit : limit_allowed limit (length d) ≡ false → Err BadLimit ≡ checked_at limit size d
  unfolding checked_at
  so_far_limit e = rw e

  module _ (e : limit_allowed limit (length d) ≡ true) where
    pub so_far_long : limit < size → Err BadDatagram ≡ checked_at limit size d
    unfolding checked_at
    so_far_long h = rw (e, lt-leb size limit h)

    module _ (h : size ≤ limit) where
      pub so_far_refused : (why : Refusal) (p : ℕ) → as_head (mapped datagram_of (read_datagram (take size d))) ≡ Err (refused_at why p)
          → Err BadDatagram ≡ checked_at limit size d
      unfolding checked_at
      so_far_refused why p f = rw (e, le-leb size limit h) (go (read_datagram (take size d)) f)
        where
          go : (r : Decoded (Value sample_datagram)) → as_head (mapped datagram_of r) ≡ Err (refused_at why p) → Err BadDatagram ≡ ready_so_far r
          go (found v end) g = let z : ◌≡◌ {A = ℕ} 0 1 = cc in absurd (omega arith)
          go (refused w q) g = refl

      pub so_far_found : (x : Head) → as_head (mapped datagram_of (read_datagram (take size d))) ≡ Ok x
          → Ok (x.samples.at - 4, x.samples.count + 1) ≡ checked_at limit size d
      unfolding checked_at
      so_far_found x f =
          let r = head_of (take size d) x f in
          let at : count_at r.value ≡ x.samples.at - 4 =
          let m : 16 + length (encode address (agent_address r.value)) ≡ x.samples.at = ap (λ (y : Head). y.samples.at) r.seen in omega arith in
          let many : length (samples r.value) ≡ x.samples.count = ap (λ (y : Head). y.samples.count) r.seen in
          rw (e, le-leb size limit h, r.read, at, many)
