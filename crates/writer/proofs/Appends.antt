-- A sample behind the datagram so far, written into the room up to the limit. Assumes nothing.
use Prim.Native.Nat.{ℕ, ◌+◌, ◌-◌, ◌≤◌, ◌<◌}
use native.Mathlib.Omega.{arith}
use mathlib.Core.Path.{◌≡◌, refl, ap, ◌∙◌}
use mathlib.Core.Bool.{Bool, true, false, cond}
use mathlib.Core.List.{List, [], ◌∷◌, ◌++◌, flat_map}
use lib.ListN.{length, take, length-append, length-take}
use lib.Dec.{leb}
use borrow.Rule.Slice.PartMut.{put_mid, mid_of, mid_len, put_same}
use borrow.Author.Tests.{le-leb, lt-leb, leb-true, leb-false}
use Rattle.std.specs.Prelude.{Result, Ok, Err}
use Rattle.xdr.specs.Numbers.{Octets, octets_of}
use Rattle.xdr.specs.Writes.{stored, write_at, afterwards}
use Rattle.xdr.proofs.Octets.{octets_length}
use Rattle.xdr.proofs.Writing.{stored_part, stored_length, wrote_fits}
use Rattle.sflow.specs.Grammar.{Value, Valid, octets_of_each, encode}
use Rattle.sflow.specs.Decode.{Decoded, found, refused}
use Rattle.sflow.specs.Datagram.{int, address, sample_type, sample_datagram, agent_address, samples}
use Rattle.sflow.specs.Reading.{read_datagram}
use Rattle.sflow.proofs.Slices.{octets_take}
use Rattle.sflow.proofs.Items.{each_length}
use Rattle.sflow.proofs.Theorems.{accepted_to_end, accepted_exactly}
use Rattle.form_writer.specs.declared.parts.WriteRefusal.{WriteRefusal}
use Rattle.form_writer.specs.declared.parts.WriteRefusal.TheVariants.{BadLimit, BadDatagram, BadValue, NoRoom}
use Rattle.form_writer.specs.Parts.{write_alone, write_value}
use Rattle.writer.specs.Datagrams.{limit_allowed, count_at, ready_so_far, checked_at, appended_when, appended_octets}
use Rattle.writer.proofs.Limits.{limit_allowed_is}
use Rattle.std.specs.Prelude.{Option}

-- ---- the count word lies within the datagram so far

head_long : (a b c e xs : List ℕ) → length a ≡ 4 → length c ≡ 8 → length e ≡ 4 → 16 + length b ≤ length (a ++ (b ++ (c ++ (e ++ xs))))
head_long a b c e xs h i j = rw (length-append, length-append, length-append, length-append) (omega arith)

head_inside : (v : Value sample_datagram) → Valid sample_datagram v → 16 + length (encode address (agent_address v)) ≤ length (encode sample_datagram v)
unfolding encode
head_inside v h =
    head_long (octets_of 4 v.0) (encode address (agent_address v)) (octets_of_each (int ∷ int ∷ []) v.1.1.0) (octets_of 4 (length (samples v)))
    (flat_map (encode sample_type) (samples v))
    (octets_length 4 v.0) (each_length (int ∷ int ∷ []) v.1.1.0 h.2.1.0) (octets_length 4 (length (samples v)))

count_inside : (s : List ℕ) → Octets s → (v : Value sample_datagram) (end : ℕ) → read_datagram s ≡ found v end → count_at v + 4 ≤ length s
count_inside s o v end e =
    let n : end ≡ length s = accepted_to_end s o v end e in
    let r = (accepted_exactly s o v).0 (e ∙ ap (found v) n) in
    let same : length s ≡ length (encode sample_datagram v) = ap length r.2 in
    let h = head_inside v r.1 in
    omega arith

-- what a datagram says to which a sample can be appended
pub record SoFar (limit size at : ℕ) (d : List ℕ) : Type 0 where
  pub inside : limit ≤ length d
  pub small : size ≤ limit
  pub word : at + 4 ≤ size

-- where the count word stands
abbrev ready_at : Result (ℕ × ℕ) WriteRefusal → ℕ
ready_at (Ok (at, count)) = at
ready_at (Err why) = 0

pub so_far_is : (limit size at count : ℕ) (d : List ℕ) → Octets d → checked_at limit size d ≡ Ok (at, count) → SoFar limit size at d
unfolding checked_at
so_far_is limit size at count d o e = allowed (limit_allowed limit (length d)) refl e
  where
    so_far : (r : Decoded (Value sample_datagram)) → read_datagram (take size d) ≡ r → limit ≤ length d → size ≤ limit → ready_so_far r ≡ Ok (at, count)
        → SoFar limit size at d
    so_far (found v end) f i h g =
        let w = count_inside (take size d) (octets_take size d o) v end f in
        let long : length (take size d) ≡ size = rw length-take (omega arith) in
        let at-is : count_at v ≡ at = ap ready_at g in
        record { inside = i; small = h; word = omega arith }
    so_far (refused why p) f i h g = let z : ◌≡◌ {A = ℕ} 0 1 = cc in absurd (omega arith)

    long : (b : Bool) → leb size limit ≡ b → limit ≤ length d → cond b (ready_so_far (read_datagram (take size d))) (Err BadDatagram) ≡ Ok (at, count)
        → SoFar limit size at d
    long true f i g = so_far (read_datagram (take size d)) refl i (leb-true _ _ f) g
    long false f i g = let z : ◌≡◌ {A = ℕ} 0 1 = cc in absurd (omega arith)

    allowed : (b : Bool) → limit_allowed limit (length d) ≡ b
        → cond b (cond (leb size limit) (ready_so_far (read_datagram (take size d))) (Err BadDatagram)) (Err BadLimit) ≡ Ok (at, count)
        → SoFar limit size at d
    allowed true f g = long (leb size limit) refl (limit_allowed_is limit (length d) f).inside g
    allowed false f g = let z : ◌≡◌ {A = ℕ} 0 1 = cc in absurd (omega arith)

-- ---- the room behind the datagram so far, lent to a sample's writer

-- what that writer answered, and the whole buffer then
data RoomWritten (limit size : ℕ) (d : List ℕ) (allowed : Bool) (xs : List ℕ) (answer : Result ℕ WriteRefusal) (e : List ℕ) : Type 0 where
  not_allowed : allowed ≡ false → answer ≡ Err BadValue → e ≡ d → RoomWritten limit size d allowed xs answer e
  no_room : allowed ≡ true → limit < size + length xs → answer ≡ Err NoRoom → e ≡ d → RoomWritten limit size d allowed xs answer e
  written : allowed ≡ true → size + length xs ≤ limit → answer ≡ Ok (length xs) → e ≡ stored d size xs → RoomWritten limit size d allowed xs answer e

module _ (limit size at : ℕ) (d : List ℕ) (known : SoFar limit size at d) (allowed : Bool) (xs : List ℕ) (answer : Result ℕ WriteRefusal) (e : List ℕ) where
  room_long : length (mid_of size (limit - size) d) ≡ limit - size
  room_long = mid_len size limit d known.inside

  room_written : afterwards answer e ≡ write_value allowed xs (mid_of size (limit - size) d)
      → RoomWritten limit size d allowed xs answer (put_mid size (limit - size) d e)
  unfolding write_alone
  room_written q = value allowed refl q
    where
      whole : e ≡ mid_of size (limit - size) d → put_mid size (limit - size) d e ≡ d
      whole s = rw s (put_same size (limit - size) d)

      room : (b : Bool) → leb (length xs) (length (mid_of size (limit - size) d)) ≡ b → allowed ≡ true
          → afterwards answer e ≡ cond b (afterwards (Ok (length xs)) (stored (mid_of size (limit - size) d) 0 xs)) (afterwards (Err NoRoom) (mid_of size (limit - size) d))
          → RoomWritten limit size d allowed xs answer (put_mid size (limit - size) d e)
      room true f a g =
          let h : length xs ≤ length (mid_of size (limit - size) d) = leb-true _ _ f in
          let l = room_long in
          let small : size ≤ limit = known.small in
          let inside : limit ≤ length d = known.inside in
          let s : e ≡ stored (mid_of size (limit - size) d) 0 xs = cc in
          let b : answer ≡ Ok (length xs) = cc in
          written a (omega arith) b (rw s (stored_part d size (limit - size) 0 size xs (omega arith) (omega arith) (omega arith)))
      room false f a g =
          let h : length (mid_of size (limit - size) d) < length xs = leb-false _ _ f in
          let l = room_long in
          let small : size ≤ limit = known.small in
          let b : answer ≡ Err NoRoom = cc in
          let s : e ≡ mid_of size (limit - size) d = cc in
          no_room a (omega arith) b (whole s)

      value : (b : Bool) → allowed ≡ b → afterwards answer e ≡ cond b (write_alone xs (mid_of size (limit - size) d)) (afterwards (Err BadValue) (mid_of size (limit - size) d))
          → RoomWritten limit size d allowed xs answer (put_mid size (limit - size) d e)
      value true f g = room (leb (length xs) (length (mid_of size (limit - size) d))) refl f g
      value false f g =
          let b : answer ≡ Err BadValue = cc in
          let s : e ≡ mid_of size (limit - size) d = cc in
          not_allowed f b (whole s)

  -- what it wrote ends within the limit
  pub room_ends : (n : ℕ) → answer ≡ Ok n → afterwards answer e ≡ write_value allowed xs (mid_of size (limit - size) d) → size + n ≤ limit
  room_ends n a q = go (put_mid size (limit - size) d e) (room_written q)
    where
      go : (f : List ℕ) → RoomWritten limit size d allowed xs answer f → size + n ≤ limit
      go f (not_allowed t b s) = let z : ◌≡◌ {A = ℕ} 0 1 = cc in absurd (omega arith)
      go f (no_room t h b s) = let z : ◌≡◌ {A = ℕ} 0 1 = cc in absurd (omega arith)
      go f (written t h b s) = let m : length xs ≡ n = cc in omega arith

  module _ (count : ℕ) (ready : checked_at limit size d ≡ Ok (at, count)) (q : afterwards answer e ≡ write_value allowed xs (mid_of size (limit - size) d)) where
    -- nothing is appended where it refuses
    pub refusal_appended : (why : WriteRefusal) (r : Result ℕ WriteRefusal) → answer ≡ Err why → r ≡ Err why
        → afterwards r (put_mid size (limit - size) d e) ≡ appended_octets allowed xs limit size d
    unfolding appended_octets
    refusal_appended why r a same = rw same (go (put_mid size (limit - size) d e) (room_written q))
      where
        go : (f : List ℕ) → RoomWritten limit size d allowed xs answer f → afterwards (Err why) f ≡ appended_when allowed xs limit size d (checked_at limit size d)
        go f (not_allowed t b s) = let w : why ≡ BadValue = cc in rw (w, ready, t, s)
        go f (no_room t h b s) = let w : why ≡ NoRoom = cc in rw (w, ready, t, s, lt-leb _ _ h)
        go f (written t h b s) = let z : ◌≡◌ {A = ℕ} 0 1 = cc in absurd (omega arith)

    -- the count is raised where it wrote
    pub sample_appended : (n : ℕ) (w : Option ℕ) (f : List ℕ) → answer ≡ Ok n → afterwards w f ≡ write_at (put_mid size (limit - size) d e) at (octets_of 4 count)
        → afterwards (Ok (size + n)) f ≡ appended_octets allowed xs limit size d
    unfolding appended_octets
    sample_appended n w f a p = go (put_mid size (limit - size) d e) p (room_written q)
      where
        go : (g : List ℕ) → afterwards w f ≡ write_at g at (octets_of 4 count) → RoomWritten limit size d allowed xs answer g
            → afterwards (Ok (size + n)) f ≡ appended_when allowed xs limit size d (checked_at limit size d)
        go g p (not_allowed t b s) = let z : ◌≡◌ {A = ℕ} 0 1 = cc in absurd (omega arith)
        go g p (no_room t h b s) = let z : ◌≡◌ {A = ℕ} 0 1 = cc in absurd (omega arith)
        go g p (written t h b s) =
            let m : n ≡ length xs = cc in
            let few : limit ≤ length d = known.inside in
            let word : at + 4 ≤ size = known.word in
            let k : length (stored d size xs) ≡ length d = stored_length d size xs (omega arith) in
            let l : length (octets_of 4 count) ≡ 4 = octets_length 4 count in
            let k2 : length g ≡ length d = ap length s ∙ k in
            let r = wrote_fits g at (octets_of 4 count) w f p (omega arith) in
            rw (ready, t, m, le-leb _ _ h, r.octets_are, s)

-- nothing can be appended
pub not_appended : (allowed : Bool) (xs : List ℕ) (limit size : ℕ) (d : List ℕ) (why : WriteRefusal) (r : Result ℕ WriteRefusal)
    → checked_at limit size d ≡ Err why → r ≡ Err why → afterwards r d ≡ appended_octets allowed xs limit size d
unfolding appended_octets
not_appended allowed xs limit size d why r e same = rw (e, same)
