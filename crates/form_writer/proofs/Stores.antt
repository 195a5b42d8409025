-- Parts stored one behind the other. Assumes nothing.
use Prim.Native.Nat.{ℕ, ◌+◌, ◌≤◌, ◌<◌}
use native.Mathlib.Numerals.{add-one}
use native.Mathlib.Omega.{arith}
use mathlib.Core.Path.{◌≡◌, refl, sym, ap, ◌∙◌}
use mathlib.Core.List.{List, [], ◌++◌}
use lib.ListN.{length, get_or, drop, length-append, drop_of_length-le}
use lib.Seq.{drop-cons}
use borrow.Author.Tests.{le-leb, lt-leb}
use Rattle.std.specs.Prelude.{Ok, Err}
use Rattle.xdr.specs.Writes.{stored, afterwards}
use Rattle.xdr.proofs.Writing.{stored_next, stored_length}
use Rattle.form_writer.specs.declared.parts.Part.{Part}
use Rattle.form_writer.specs.declared.parts.WriteRefusal.TheVariants.{NoRoom}
use Rattle.form_writer.specs.Parts.{write_alone, part_octets, parts_octets}
use Rattle.form_writer.proofs.WordRuns.{stored_none}

-- octets that fit a buffer, and octets that do not
pub alone_fits : (xs d e : List ℕ) (n : ℕ) → n ≡ length xs → n ≤ length d → e ≡ stored d 0 xs → afterwards (Ok n) e ≡ write_alone xs d
unfolding write_alone
alone_fits xs d e n s h f = let l : length xs ≤ length d = omega arith in rw (le-leb (length xs) (length d) l, s, f)

pub alone_full : (xs d : List ℕ) (n : ℕ) → n ≡ length xs → length d < n → afterwards (Err NoRoom) d ≡ write_alone xs d
unfolding write_alone
alone_full xs d n s h = let l : length d < length xs = omega arith in rw (lt-leb (length xs) (length d) l)

-- what is left of the parts, taken apart: the part at the index i, and those behind it
next : (ps : List Part) (q : Part) (i : ℕ) → i < length ps → parts_octets (drop i ps) ≡ part_octets (get_or ps i q) ++ parts_octets (drop (i + 1) ps)
next ps q i h = rw (add-one, drop-cons ps i q h) refl

nothing_left : (ps : List Part) (i : ℕ) → length ps ≤ i → parts_octets (drop i ps) ≡ []
nothing_left ps i h = rw (drop_of_length-le ps h) refl

-- the parts up to the index i have room, and so much of it is left
pub record Room (d : List ℕ) (ps : List Part) (i room : ℕ) : Type 0 where
  pub left : room + length (parts_octets ps) ≡ length d + length (parts_octets (drop i ps))

pub room_start : (d : List ℕ) (ps : List Part) → Room d ps 0 (length d)
room_start d ps = record { left = refl }

module _ (d : List ℕ) (ps : List Part) (i room : ℕ) (r : Room d ps i room) where
  module _ (q : Part) (size : ℕ) (s : size ≡ length (part_octets (get_or ps i q))) (h : i < length ps) where
    long : length (parts_octets (drop i ps)) ≡ size + length (parts_octets (drop (i + 1) ps))
    long = rw (next ps q i h, length-append, s) refl

    -- one part more has room
    pub room_step : (n : ℕ) → n + size ≡ room → Room d ps (i + 1) n
    room_step n e = let l = long in let k = r.left in record { left = omega arith }

    -- or it has none, and so all have none
    pub room_none : room < size → afterwards (Err NoRoom) d ≡ write_alone (parts_octets ps) d
    room_none e = let l = long in let k = r.left in alone_full (parts_octets ps) d (length (parts_octets ps)) refl (omega arith)

  -- all parts have room
  pub room_all : length ps ≤ i → length (parts_octets ps) ≤ length d
  room_all h = let k = r.left in let z : length (parts_octets (drop i ps)) ≡ 0 = ap length (nothing_left ps i h) in omega arith

-- Parts stored up to the index i, and the offset at behind them: with those that are left, the buffer is as with all.
pub record Putting (d₀ : List ℕ) (ps : List Part) (d : List ℕ) (i at : ℕ) : Type 0 where
  pub room : length (parts_octets ps) ≤ length d₀
  pub long : length d ≡ length d₀
  pub left : at + length (parts_octets (drop i ps)) ≡ length (parts_octets ps)
  pub all_are : stored d at (parts_octets (drop i ps)) ≡ stored d₀ 0 (parts_octets ps)

-- no part yet
pub put_start : (d : List ℕ) (ps : List Part) → length (parts_octets ps) ≤ length d → Putting d ps d 0 0
put_start d ps h = record { room = h; long = refl; left = omega arith; all_are = refl }

module _ (d₀ : List ℕ) (ps : List Part) (d : List ℕ) (i at : ℕ) (p : Putting d₀ ps d i at) where
  module _ (q : Part) (h : i < length ps) where
    part_room : at + length (part_octets (get_or ps i q)) + length (parts_octets (drop (i + 1) ps)) ≤ length d
    part_room =
        let l : length (parts_octets (drop i ps)) ≡ length (part_octets (get_or ps i q)) + length (parts_octets (drop (i + 1) ps)) = rw (next ps q i h, length-append) refl in
        let a = p.left in
        let b = p.room in
        let c = p.long in
        omega arith

    -- the next part has room
    pub put_room : (size : ℕ) → size ≡ length (part_octets (get_or ps i q)) → at + size ≤ length d
    put_room size s = let r = part_room in omega arith

    -- one part more
    pub put_step : (e : List ℕ) (size : ℕ) → size ≡ length (part_octets (get_or ps i q)) → e ≡ stored d at (part_octets (get_or ps i q)) → Putting d₀ ps e (i + 1) (at + size)
    put_step e size s f =
        let xs : List ℕ = part_octets (get_or ps i q) in
        let ys : List ℕ = parts_octets (drop (i + 1) ps) in
        let r = part_room in
        let l : length (parts_octets (drop i ps)) ≡ length xs + length ys = rw (next ps q i h, length-append) refl in
        let a = p.left in
        record {
          room = p.room;
          long = ap length f ∙ stored_length d at xs (omega arith) ∙ p.long;
          left = omega arith;
          all_are = rw (f, stored_next d at (at + size) xs ys (omega arith) (omega arith)) (ap (stored d at) (sym (next ps q i h)) ∙ p.all_are);
        }

  -- all parts
  pub put_end : length ps ≤ i → afterwards (Ok at) d ≡ write_alone (parts_octets ps) d₀
  put_end h =
      let z : length (parts_octets (drop i ps)) ≡ 0 = ap length (nothing_left ps i h) in
      let a = p.left in
      let b = p.room in
      alone_fits (parts_octets ps) d₀ d at (omega arith) (omega arith)
      (sym (stored_none d at) ∙ ap (stored d at) (sym (nothing_left ps i h)) ∙ p.all_are)
