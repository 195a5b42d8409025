-- What start and append leave is read again. Assumes nothing.
use Prim.Native.Nat.{ℕ, ◌+◌, ◌*◌, ◌^◌, ◌≤◌, ◌<◌}
use Prim.{tt}
use native.Mathlib.Omega.{arith}
use mathlib.Core.Path.{◌≡◌, refl, sym, ap, ◌∙◌}
use mathlib.Core.Bool.{Bool, true, false, cond}
use mathlib.Core.List.{List, [], ◌∷◌, ◌++◌, flat_map, append_assoc, append-nil}
use mathlib.Core.Option.{Option, some}
use lib.ListN.{length, take, drop, length-append, length-take, take-append-drop}
use lib.Seq.{take_at, drop-append-add, drop-append_seam}
use lib.Dec.{leb, eqb}
use borrow.Author.Tests.{le-leb, lt-leb, le-ltb, leb-true}
use Rattle.std.specs.Prelude.{Result, Ok, Err}
use Rattle.form_writer.specs.declared.parts.WriteRefusal.{WriteRefusal}
use Rattle.xdr.specs.Numbers.{Octets, octets_of}
use Rattle.xdr.specs.Items.{total_width}
use Rattle.xdr.specs.Writes.{stored, Afterwards, afterwards}
use Rattle.xdr.proofs.Octets.{octets_length}
use Rattle.xdr.proofs.Writing.{stored_length, stored_front, stored_next}
use Rattle.sflow.specs.Grammar.{Value, Each, Valid, allows, allows_given, encode_given, case, chosen, octets_of_each, encode}
use Rattle.sflow.specs.Decode.{Decoded, found, refused}
use Rattle.sflow.specs.Datagram.{int, ip_v4, ip_v6, address, sample_type, sample_datagram, agent_address, samples}
use Rattle.sflow.specs.Reading.{longest, read_datagram}
use Rattle.sflow.proofs.Complete.{complete}
use Rattle.sflow.proofs.Slices.{octets_take}
use Rattle.sflow.proofs.Items.{each_length}
use Rattle.sflow.proofs.Theorems.{accepted_to_end, accepted_exactly}
use Rattle.sflow.proofs.Allows.{allows_exactly, valid_allowed}
use Rattle.sflow.proofs.Exact.{whole_slice, given_exactly}
use Rattle.fields.specs.declared.address.Address.{Address}
use Rattle.form_writer.specs.declared.parts.WriteRefusal.TheVariants.{BadLimit, BadDatagram, BadValue, NoRoom}
use Rattle.form_writer.specs.Parts.{write_alone}
use Rattle.writer.specs.Datagrams.{limit_allowed, start_value, started, StartAccepted, count_at, ready_so_far, checked_at, raised, appended_when, appended_octets, appended, AppendAccepted, with_samples}
use Rattle.writer.proofs.Limits.{limit_allowed_is}
use Rattle.writer.proofs.SoFar.{few_samples}

-- ---- the octets of a value are read as that value

-- demand 2: the octets of a value of the grammar are accepted with that value
pub value_accepted : (v : Value sample_datagram) → Valid sample_datagram v → length (encode sample_datagram v) ≤ longest
    → read_datagram (encode sample_datagram v) ≡ found v (length (encode sample_datagram v))
unfolding read_datagram
value_accepted v h few =
    let xs : List ℕ = encode sample_datagram v in
    let d = complete sample_datagram v h xs 0 (length xs) (whole_slice xs xs refl) in
    let same : length xs ≤ length xs = omega arith in
    rw (le-ltb longest (length xs) few, d, le-ltb (length xs) (length xs) same)

-- ---- the octets of a datagram around its count word

abbrev ahead : Value sample_datagram → List ℕ
ahead v = octets_of 4 v.0 ++ (encode address (agent_address v) ++ octets_of_each (int ∷ int ∷ []) v.1.1.0)

around : (a b c k e : List ℕ) → a ++ (b ++ (c ++ (k ++ e))) ≡ (a ++ (b ++ c)) ++ (k ++ e)
around a b c k e = simp append_assoc

encoded_parts : (v : Value sample_datagram) (ws : List (Value sample_type))
    → encode sample_datagram (with_samples v ws) ≡ ahead v ++ (octets_of 4 (length ws) ++ flat_map (encode sample_type) ws)
unfolding encode
encoded_parts v ws =
    around (octets_of 4 v.0) (encode address (agent_address v)) (octets_of_each (int ∷ int ∷ []) v.1.1.0) (octets_of 4 (length ws)) (flat_map (encode sample_type) ws)

ahead_long : (v : Value sample_datagram) → Valid sample_datagram v → length (ahead v) ≡ count_at v
ahead_long v h =
    let a : length (octets_of 4 v.0) ≡ 4 = octets_length 4 v.0 in
    let c : length (octets_of_each (int ∷ int ∷ []) v.1.1.0) ≡ 8 = each_length (int ∷ int ∷ []) v.1.1.0 h.2.1.0 in
    rw (length-append, length-append) (omega arith)

pub flat_append : {A : Type 0} (f : A → List ℕ) (vs ws : List A) → flat_map f (vs ++ ws) ≡ flat_map f vs ++ flat_map f ws
unfolding flat_map
flat_append f [] ws = refl
flat_append f (v ∷ vs) ws = ap (λ (xs : List ℕ). f v ++ xs) (flat_append f vs ws) ∙ sym (append_assoc (f v) (flat_map f vs) (flat_map f ws))

pub flat_one : {A : Type 0} (f : A → List ℕ) (w : A) → flat_map f (w ∷ []) ≡ f w
unfolding flat_map
flat_one f w = append-nil (f w)

-- a sample more, and the count that is raised
encoded_more : (v : Value sample_datagram) (ws : List (Value sample_type)) (w : Value sample_type)
    → encode sample_datagram (with_samples v (ws ++ (w ∷ [])))
    ≡ ahead v ++ (octets_of 4 (length ws + 1) ++ (flat_map (encode sample_type) ws ++ encode sample_type w))
encoded_more v ws w =
    let n : length (ws ++ (w ∷ [])) ≡ length ws + 1 = length-append ws (w ∷ []) in
    encoded_parts v (ws ++ (w ∷ [])) ∙ rw (n, flat_append (encode sample_type) ws (w ∷ []), flat_one (encode sample_type) w)

-- octets stored over as many inside others
replaced : (a k b c rest : List ℕ) → length k ≡ length c
    → take (length a) ((a ++ (k ++ b)) ++ rest) ++ (c ++ drop (length a + length c) ((a ++ (k ++ b)) ++ rest)) ≡ (a ++ (c ++ b)) ++ rest
replaced a k b c rest e =
    let s : (a ++ (k ++ b)) ++ rest ≡ a ++ (k ++ (b ++ rest)) = simp append_assoc in
    let t : drop (length k + 0) (k ++ (b ++ rest)) ≡ b ++ rest = drop-append-add k (b ++ rest) 0 in
    let z : length c ≡ length k + 0 = omega arith in
    rw (s, take_at a (k ++ (b ++ rest)) (length a) refl, drop-append-add a (k ++ (b ++ rest)) (length c), z, t) (simp append_assoc)

as_long : (a k b c : List ℕ) → length k ≡ length c → length (a ++ (k ++ b)) ≡ length (a ++ (c ++ b))
as_long a k b c e = simp length-append (rw e)

stored_inside : (d a k b c : List ℕ) → length k ≡ length c → stored (stored d 0 (a ++ (k ++ b))) (length a) c ≡ stored d 0 (a ++ (c ++ b))
unfolding stored
stored_inside d a k b c e =
    let l : length (a ++ (c ++ b)) ≡ length (a ++ (k ++ b)) = sym (as_long a k b c e) in
    rw l (replaced a k b c (drop (0 + length (a ++ (k ++ b))) d) e)

-- ---- a sample appended_octets to a datagram that stands at the buffer's beginning

module _ (limit : ℕ) (d : List ℕ) (allowed : limit_allowed limit (length d) ≡ true) (v : Value sample_datagram) (valid : Valid sample_datagram v)
    (small : length (encode sample_datagram v) ≤ limit) where
  inside : length (encode sample_datagram v) ≤ length d
  inside = let a = limit_allowed_is limit (length d) allowed in let i = a.inside in omega arith

  so_far_ready : checked_at limit (length (encode sample_datagram v)) (stored d 0 (encode sample_datagram v)) ≡ Ok (count_at v, length (samples v) + 1)
  unfolding checked_at
  so_far_ready =
      let xs : List ℕ = encode sample_datagram v in
      let i = inside in
      let a = limit_allowed_is limit (length d) allowed in
      let most : limit ≤ longest = a.most in
      let l : length (stored d 0 xs) ≡ length d = stored_length d 0 xs (omega arith) in
      let z : length xs ≡ 0 + length xs = omega arith in
      let f : take (length xs) (stored d 0 xs) ≡ xs = ap (λ (n : ℕ). take n (stored d 0 xs)) z ∙ stored_front d 0 xs (omega arith) in
      rw (l, allowed, le-leb (length xs) limit small, f, value_accepted v valid (omega arith))

  -- one that fits stands behind the others, and the rest of the buffer is as it was
  pub append_fits : (w : Value sample_type) → Valid sample_type w → length (encode sample_datagram v) + length (encode sample_type w) ≤ limit
      → appended (some w) limit (length (encode sample_datagram v)) (stored d 0 (encode sample_datagram v))
      ≡ afterwards (Ok (length (encode sample_datagram (with_samples v (samples v ++ (w ∷ [])))))) (stored d 0 (encode sample_datagram (with_samples v (samples v ++ (w ∷ [])))))
  unfolding appended_octets
  append_fits w h fits =
      let xs : List ℕ = encode sample_datagram v in
      let ys : List ℕ = encode sample_type w in
      let k : List ℕ = octets_of 4 (length (samples v)) in
      let c : List ℕ = octets_of 4 (length (samples v) + 1) in
      let body : List ℕ = flat_map (encode sample_type) (samples v) in
      let a = limit_allowed_is limit (length d) allowed in
      let room : limit ≤ length d = a.inside in
      let next : stored (stored d 0 xs) (length xs) ys ≡ stored d 0 (xs ++ ys) = stored_next d 0 (length xs) xs ys (omega arith) (omega arith) in
      let parts : xs ++ ys ≡ ahead v ++ (k ++ (body ++ ys)) = rw (encoded_parts v (samples v)) (simp append_assoc) in
      let kl : length k ≡ 4 = octets_length 4 (length (samples v)) in
      let cl : length c ≡ 4 = octets_length 4 (length (samples v) + 1) in
      let raised : stored (stored d 0 (ahead v ++ (k ++ (body ++ ys)))) (length (ahead v)) c ≡ stored d 0 (ahead v ++ (c ++ (body ++ ys))) =
      stored_inside d (ahead v) k (body ++ ys) c (omega arith) in
      let long : length xs + length ys ≡ length (ahead v ++ (c ++ (body ++ ys))) =
      sym (length-append xs ys) ∙ ap length parts ∙ as_long (ahead v) k (body ++ ys) c (kl ∙ sym cl) in
      rw (so_far_ready, valid_allowed sample_type w h, le-leb (length xs + length ys) limit fits, next, parts, ← ahead_long v valid, raised, long, encoded_more v (samples v) w)

  -- one that does not fit changes nothing
  pub append_full : (w : Value sample_type) → Valid sample_type w → limit < length (encode sample_datagram v) + length (encode sample_type w)
      → appended (some w) limit (length (encode sample_datagram v)) (stored d 0 (encode sample_datagram v))
      ≡ afterwards (Err NoRoom) (stored d 0 (encode sample_datagram v))
  unfolding appended_octets
  append_full w h full = rw (so_far_ready, valid_allowed sample_type w h, lt-leb (length (encode sample_datagram v) + length (encode sample_type w)) limit full)

-- ---- lengths

-- the length of a datagram: what stands before its samples, and the samples
pub encoded_length : (v : Value sample_datagram) (ws : List (Value sample_type))
    → length (encode sample_datagram (with_samples v ws)) ≡ length (ahead v) + 4 + length (flat_map (encode sample_type) ws)
encoded_length v ws =
    let l : length (octets_of 4 (length ws)) ≡ 4 = octets_length 4 (length ws) in
    let a : length (ahead v ++ (octets_of 4 (length ws) ++ flat_map (encode sample_type) ws))
    ≡ length (ahead v) + length (octets_of 4 (length ws) ++ flat_map (encode sample_type) ws) = length-append (ahead v) (octets_of 4 (length ws) ++ flat_map (encode sample_type) ws) in
    let b = length-append (octets_of 4 (length ws)) (flat_map (encode sample_type) ws) in
    ap length (encoded_parts v ws) ∙ omega arith

pub encoded_total : (v : Value sample_datagram) (ws : List (Value sample_type)) → Valid sample_datagram (with_samples v ws)
    → length (encode sample_datagram (with_samples v ws)) ≡ 16 + length (encode address (agent_address v)) + length (flat_map (encode sample_type) ws)
encoded_total v ws h =
    let l = encoded_length v ws in
    let a : length (ahead (with_samples v ws)) ≡ count_at (with_samples v ws) = ahead_long (with_samples v ws) h in
    omega arith

-- a buffer that holds a datagram at its beginning, and its length
abbrev pub holds : List ℕ → Value sample_datagram → Afterwards (Result ℕ WriteRefusal)
holds d v = afterwards (Ok (length (encode sample_datagram v))) (stored d 0 (encode sample_datagram v))

-- ---- a datagram without samples

widths_short : (n : ℕ) → total_width (chosen [] (case 1 (ip_v4 ∷ []) ∷ case 2 (ip_v6 ∷ []) ∷ []) n) ≤ 16
widths_short n = go (eqb n 1) (eqb n 2)
  where
    go : (b c : Bool) → total_width (cond b (ip_v4 ∷ []) (cond c (ip_v6 ∷ []) [])) ≤ 16
    go true c = omega arith
    go false true = omega arith
    go false false = omega arith

no_octets : length (flat_map (encode sample_type) []) ≡ 0
unfolding flat_map
no_octets = refl

address_short : (a : Value address) → Valid address a → length (encode address a) ≤ 20
unfolding encode
address_short a h =
    let l : length (octets_of 4 a.0) ≡ 4 = octets_length 4 a.0 in
    let m = each_length (chosen [] (case 1 (ip_v4 ∷ []) ∷ case 2 (ip_v6 ∷ []) ∷ []) a.0) a.1 h.2 in
    let k = widths_short a.0 in
    rw length-append (omega arith)

module _ (limit : ℕ) (d : List ℕ) (allowed : limit_allowed limit (length d) ≡ true) (agent : Address) (sequence uptime : ℕ)
    (valid : Valid sample_datagram (start_value agent sequence uptime)) where
  pub start_short : length (encode sample_datagram (start_value agent sequence uptime)) ≤ limit
  start_short =
      let v : Value sample_datagram = start_value agent sequence uptime in
      let l = encoded_length v [] in
      let a : length (ahead v) ≡ count_at v = ahead_long v valid in
      let s : length (encode address (agent_address v)) ≤ 20 = address_short (agent_address v) valid.2.0 in
      let n : length (flat_map (encode sample_type) []) ≡ 0 = no_octets in
      let least : 36 ≤ limit = (limit_allowed_is limit (length d) allowed).least in
      omega arith

  pub start_holds : started limit agent sequence uptime d ≡ holds d (start_value agent sequence uptime)
  unfolding started write_alone
  start_holds =
      let h = start_short in
      let i : limit ≤ length d = (limit_allowed_is limit (length d) allowed).inside in
      let f : length (encode sample_datagram (start_value agent sequence uptime)) ≤ length d = omega arith in
      rw (allowed, valid_allowed sample_datagram (start_value agent sequence uptime) valid, le-leb (length (encode sample_datagram (start_value agent sequence uptime))) (length d) f)

-- ---- what is left is accepted

-- the octets of a value at a buffer's beginning are accepted with that value
pub held_accepted : (d : List ℕ) (v : Value sample_datagram) → Valid sample_datagram v → length (encode sample_datagram v) ≤ longest
    → read_datagram (take (length (encode sample_datagram v)) (stored d 0 (encode sample_datagram v))) ≡ found v (length (encode sample_datagram v))
held_accepted d v h few =
    let xs : List ℕ = encode sample_datagram v in
    let z : length xs ≡ 0 + length xs = omega arith in
    let f : take (length xs) (stored d 0 xs) ≡ xs = ap (λ (n : ℕ). take n (stored d 0 xs)) z ∙ stored_front d 0 xs (omega arith) in
    rw f (value_accepted v h few)

stored_same : (d : List ℕ) (n : ℕ) → n ≤ length d → stored d 0 (take n d) ≡ d
unfolding stored
stored_same d n h = let l : 0 + length (take n d) ≡ n = rw length-take (omega arith) in rw l (take-append-drop n d)

-- what append leaves of an accepted datagram is that datagram with the new sample last, and the rest of the buffer
append_more : (d : List ℕ) → Octets d → (size : ℕ) (v : Value sample_datagram) → read_datagram (take size d) ≡ found v (length (take size d))
    → (limit : ℕ) → limit_allowed limit (length d) ≡ true → size ≤ limit → (w : Value sample_type) → Valid sample_type w
    → size + length (encode sample_type w) ≤ limit
    → appended (some w) limit size d ≡ holds d (with_samples v (samples v ++ (w ∷ [])))
append_more d o size v e limit allowed small w h fits =
    let i : limit ≤ length d = (limit_allowed_is limit (length d) allowed).inside in
    let r = (accepted_exactly (take size d) (octets_take size d o) v).0 e in
    let s : take size d ≡ encode sample_datagram v = r.2 in
    let l : size ≡ length (take size d) = rw length-take (omega arith) in
    let n : length (take size d) ≡ length (encode sample_datagram v) = ap length s in
    let whole : d ≡ stored d 0 (encode sample_datagram v) = sym (stored_same d size (omega arith)) ∙ ap (stored d 0) s in
    ap (λ (k : ℕ). appended (some w) limit k d) (l ∙ n)
    ∙ ap (λ (x : List ℕ). appended (some w) limit (length (encode sample_datagram v)) x) whole
    ∙ append_fits limit d allowed v r.1 (omega arith) w h (omega arith)

-- what is behind the octets of a value at a buffer's beginning stays
held_behind : (d : List ℕ) (xs : List ℕ) → drop (length xs) (stored d 0 xs) ≡ drop (length xs) d
unfolding stored
held_behind d xs =
    let z : 0 + length xs ≡ length xs = omega arith in
    rw z (drop-append_seam xs (drop (length xs) d))

-- whatever start writes is accepted, without samples
pub start_accepted : (limit : ℕ) (agent : Address) (sequence uptime : ℕ) (d : List ℕ) (n : ℕ) (e : List ℕ)
    → started limit agent sequence uptime d ≡ afterwards (Ok n) e → StartAccepted agent sequence uptime d n e
unfolding started
start_accepted limit agent sequence uptime d n e f = go (limit_allowed limit (length d)) refl (allows sample_datagram (start_value agent sequence uptime)) refl
  where
    v : Value sample_datagram
    v = start_value agent sequence uptime

    good : limit_allowed limit (length d) ≡ true → Valid sample_datagram v → StartAccepted agent sequence uptime d n e
    good allowed valid =
        let same : holds d v ≡ afterwards (Ok n) e = sym (start_holds limit d allowed agent sequence uptime valid) ∙ f in
        let size : length (encode sample_datagram v) ≡ n = cc in
        let left : stored d 0 (encode sample_datagram v) ≡ e = cc in
        let h = start_short limit d allowed agent sequence uptime valid in
        let most : limit ≤ longest = (limit_allowed_is limit (length d) allowed).most in
        let r = held_accepted d v valid (omega arith) in
        record {
          valid = valid;
          accepted = ap (λ (x : List ℕ). read_datagram (take n x)) (sym left) ∙ rw size at r;
          stays = ap (drop n) (sym left) ∙ rw size at (held_behind d (encode sample_datagram v));
        }

    go : (a : Bool) → limit_allowed limit (length d) ≡ a → (b : Bool) → allows sample_datagram v ≡ b → StartAccepted agent sequence uptime d n e
    go true a true b = good a ((allows_exactly sample_datagram v).0 b)
    go true a false b =
        let g : afterwards (Err BadValue) d ≡ afterwards (Ok n) e = rw (a, b) at f in
        let z : ◌≡◌ {A = ℕ} 0 1 = cc in absurd (omega arith)
    go false a b c =
        let g : afterwards (Err BadLimit) d ≡ afterwards (Ok n) e = rw a at f in
        let z : ◌≡◌ {A = ℕ} 0 1 = cc in absurd (omega arith)

-- a datagram so far to which a sample can be appended
record Readied (limit size : ℕ) (d : List ℕ) : Type 0 where
  allowed : limit_allowed limit (length d) ≡ true
  small : size ≤ limit
  so_far : Value sample_datagram
  was_accepted : read_datagram (take size d) ≡ found so_far size

readied : (limit size : ℕ) (d : List ℕ) → Octets d → (at count : ℕ) → checked_at limit size d ≡ Ok (at, count) → Readied limit size d
unfolding checked_at
readied limit size d o at count f = go (limit_allowed limit (length d)) refl f
  where
    last : limit_allowed limit (length d) ≡ true → size ≤ limit → (r : Decoded (Value sample_datagram)) → read_datagram (take size d) ≡ r → ready_so_far r ≡ Ok (at, count)
        → Readied limit size d
    last a s (found v end) e g =
        let i : limit ≤ length d = (limit_allowed_is limit (length d) a).inside in
        let l : length (take size d) ≡ size = rw length-take (omega arith) in
        let t : end ≡ length (take size d) = accepted_to_end (take size d) (octets_take size d o) v end e in
        record { allowed = a; small = s; so_far = v; was_accepted = e ∙ ap (found v) (t ∙ l) }
    last a s (refused why p) e g = let z : ◌≡◌ {A = ℕ} 0 1 = cc in absurd (omega arith)

    next : limit_allowed limit (length d) ≡ true → (b : Bool) → leb size limit ≡ b
        → cond b (ready_so_far (read_datagram (take size d))) (Err BadDatagram) ≡ Ok (at, count) → Readied limit size d
    next a true e g = last a (leb-true size limit e) (read_datagram (take size d)) refl g
    next a false e g = let z : ◌≡◌ {A = ℕ} 0 1 = cc in absurd (omega arith)

    go : (b : Bool) → limit_allowed limit (length d) ≡ b
        → cond b (cond (leb size limit) (ready_so_far (read_datagram (take size d))) (Err BadDatagram)) (Err BadLimit) ≡ Ok (at, count) → Readied limit size d
    go true e g = next e (leb size limit) refl g
    go false e g = let z : ◌≡◌ {A = ℕ} 0 1 = cc in absurd (omega arith)

-- a datagram with a sample more: it is longer by the sample's octets, and a value of the grammar
longer : (v : Value sample_datagram) (w : Value sample_type) → Valid sample_datagram v
    → length (encode sample_datagram (with_samples v (samples v ++ (w ∷ [])))) ≡ length (encode sample_datagram v) + length (encode sample_type w)
longer v w h =
    let a = encoded_length v (samples v ++ (w ∷ [])) in
    let b : length (encode sample_datagram v) ≡ length (ahead v) + 4 + length (flat_map (encode sample_type) (samples v)) = encoded_length v (samples v) in
    let c : length (flat_map (encode sample_type) (samples v ++ (w ∷ []))) ≡ length (flat_map (encode sample_type) (samples v)) + length (encode sample_type w) =
    ap length (flat_append (encode sample_type) (samples v) (w ∷ [])) ∙ length-append (flat_map (encode sample_type) (samples v)) (flat_map (encode sample_type) (w ∷ []))
    ∙ ap (λ (xs : List ℕ). length (flat_map (encode sample_type) (samples v)) + length xs) (flat_one (encode sample_type) w) in
    omega arith

each_more : {A : Type 0} (P : A → Type 0) (xs : List A) (y : A) → Each P xs → P y → Each P (xs ++ (y ∷ []))
each_more P [] y h p = (p, tt)
each_more P (x ∷ xs) y h p = (h.0, each_more P xs y h.1 p)

with_more : (v : Value sample_datagram) (w : Value sample_type) → Valid sample_datagram v → Valid sample_type w
    → length (samples v ++ (w ∷ [])) < 2 ^ 32 → Valid sample_datagram (with_samples v (samples v ++ (w ∷ [])))
with_more v w h k few = (h.0, h.1, (h.2.0, (h.2.1.0, (few, each_more (Valid sample_type) (samples v) w h.2.1.1.1 k))))

-- whatever an append writes is accepted, with the samples that were there and the new one last
pub append_accepted : (x : Option (Value sample_type)) (limit size : ℕ) (d : List ℕ) → Octets d → (n : ℕ) (e : List ℕ)
    → appended x limit size d ≡ afterwards (Ok n) e → AppendAccepted x size d n e
unfolding appended_octets
append_accepted x limit size d o n e f = go (checked_at limit size d) refl f
  where
    good : Readied limit size d → (w : Value sample_type) → x ≡ some w → Valid sample_type w → size + length (encode sample_type w) ≤ limit
        → AppendAccepted x size d n e
    good k w g h fits =
        let v : Value sample_datagram = k.so_far in
        let u : Value sample_datagram = with_samples v (samples v ++ (w ∷ [])) in
        let i : limit ≤ length d = (limit_allowed_is limit (length d) k.allowed).inside in
        let most : limit ≤ longest = (limit_allowed_is limit (length d) k.allowed).most in
        let small = k.small in
        let l : size ≡ length (take size d) = rw length-take (omega arith) in
        let was : read_datagram (take size d) ≡ found v (length (take size d)) = k.was_accepted ∙ ap (found v) l in
        let r = (accepted_exactly (take size d) (octets_take size d o) v).0 was in
        let same : holds d u ≡ afterwards (Ok n) e =
        sym (append_more d o size v was limit k.allowed small w h fits) ∙ ap (λ (y : Option (Value sample_type)). appended y limit size d) (sym g) ∙ f in
        let long : length (encode sample_datagram u) ≡ n = cc in
        let left : stored d 0 (encode sample_datagram u) ≡ e = cc in
        let n1 : length (encode sample_datagram v) ≡ size = ap length (sym r.2) ∙ sym l in
        let n2 : length (encode sample_datagram u) ≡ length (encode sample_datagram v) + length (encode sample_type w) = longer v w r.1 in
        let few : length (samples v) * 4 ≤ longest = few_samples (take size d) (octets_take size d o) v (length (take size d)) was in
        let many : length (samples v ++ (w ∷ [])) ≡ length (samples v) + 1 = length-append (samples v) (w ∷ []) in
        let valid : Valid sample_datagram u = with_more v w r.1 h (omega arith) in
        let a = held_accepted d u valid (omega arith) in
        record {
          so_far = v;
          sample = w;
          given = g;
          valid = h;
          was_accepted = k.was_accepted;
          accepted = ap (λ (y : List ℕ). read_datagram (take n y)) (sym left) ∙ rw long at a;
          stays = ap (drop n) (sym left) ∙ rw long at (held_behind d (encode sample_datagram u));
        }

    fitting : (at count : ℕ) → checked_at limit size d ≡ Ok (at, count) → allows_given sample_type x ≡ true → (b : Bool)
        → leb (size + length (encode_given sample_type x)) limit ≡ b
        → cond b (afterwards (Ok (size + length (encode_given sample_type x))) (stored (stored d size (encode_given sample_type x)) at (octets_of 4 count))) (afterwards (Err NoRoom) d)
        ≡ afterwards (Ok n) e
        → AppendAccepted x size d n e
    fitting at count c t true l g =
        let w = (given_exactly sample_type x).0 t in
        let h : size + length (encode_given sample_type x) ≤ limit = leb-true _ _ l in
        good (readied limit size d o at count c) w.0 w.1 w.2 (rw w.1 at h)
    fitting at count c t false l g = let z : ◌≡◌ {A = ℕ} 0 1 = cc in absurd (omega arith)

    ready : (at count : ℕ) → checked_at limit size d ≡ Ok (at, count) → (b : Bool) → allows_given sample_type x ≡ b
        → cond b (raised limit size (encode_given sample_type x) d at count) (afterwards (Err BadValue) d) ≡ afterwards (Ok n) e → AppendAccepted x size d n e
    ready at count c true t g = fitting at count c t (leb (size + length (encode_given sample_type x)) limit) refl g
    ready at count c false t g = let z : ◌≡◌ {A = ℕ} 0 1 = cc in absurd (omega arith)

    go : (c : Result (ℕ × ℕ) WriteRefusal) → checked_at limit size d ≡ c → appended_when (allows_given sample_type x) (encode_given sample_type x) limit size d c ≡ afterwards (Ok n) e
        → AppendAccepted x size d n e
    go (Err why) c g = let z : ◌≡◌ {A = ℕ} 0 1 = cc in absurd (omega arith)
    go (Ok (at, count)) c g = ready at count c (allows_given sample_type x) refl g
