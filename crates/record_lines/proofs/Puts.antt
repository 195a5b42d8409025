-- Octets put one behind the other. Assumes nothing.
use Prim.Native.Nat.{ℕ, ◌+◌, ◌≤◌, ◌<◌}
use native.Mathlib.Omega.{arith}
use mathlib.Core.Path.{◌≡◌, sym, ◌∙◌}
use mathlib.Core.List.{List, [], ◌++◌}
use lib.ListN.{length, length-append, take-append-drop}
use borrow.Author.Tests.{le-leb, lt-leb}
use Rattle.xdr.specs.Writes.{stored, afterwards}
use Rattle.xdr.proofs.Writing.{stored_next}
use Rattle.record_lines.specs.Lines.{Puts, write_line}
use Rattle.std.specs.Prelude.{Some, None}

put_none : (d : List ℕ) (at : ℕ) → Puts d at [] at d
unfolding stored
put_none d at = let e : at + 0 ≡ at = omega arith in record { next_is = sym e; octets_are = rw e (sym (take-append-drop at d)) }

-- what is put right behind what was put
pub then : {d d1 d2 : List ℕ} {at p1 p2 : ℕ} {xs ys : List ℕ}
    → Puts d at xs p1 d1 → Puts d1 p1 ys p2 d2 → p2 ≤ length d → Puts d at (xs ++ ys) p2 d2
then {d} {d1} {d2} {at} {p1} {p2} {xs} {ys} e f h =
    let a = e.next_is in
    let b = f.next_is in
    let room : p1 + length ys ≤ length d = omega arith in
    record {
      next_is = rw length-append (omega arith);
      octets_are = f.octets_are ∙ rw e.octets_are (stored_next d at p1 xs ys a room);
    }

pub puts_none : {d : List ℕ} {at : ℕ} {xs : List ℕ} → xs ≡ [] → Puts d at xs at d
puts_none {d} {at} h = rw h (put_none d at)

pub puts_as : {d e : List ℕ} {at r : ℕ} {xs ys : List ℕ} → xs ≡ ys → Puts d at ys r e → Puts d at xs r e
puts_as h p = rw h p

-- ---- a line where there may be no room

pub line_fits : (room : ℕ) (d e : List ℕ) (at r : ℕ) (xs : List ℕ) → at + room ≤ length d → Puts d at xs r e
    → afterwards (Some r) e ≡ write_line room d at xs
unfolding write_line
line_fits room d e at r xs h p = rw (le-leb _ _ h, p.next_is, p.octets_are)

pub line_full : (room : ℕ) (d : List ℕ) (at : ℕ) (xs : List ℕ) → length d < at + room → afterwards None d ≡ write_line room d at xs
unfolding write_line
line_full room d at xs h = rw (lt-leb _ _ h)
