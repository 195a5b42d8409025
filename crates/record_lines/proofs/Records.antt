-- Laws of a record's lines. Assumes nothing.
use Prim.Native.Nat.{ℕ, zero, suc, ◌+◌, ◌-◌, ◌≤◌, ◌<◌}
use native.Mathlib.Nat.{not-suc-le-zero}
use native.Mathlib.Omega.{arith}
use mathlib.Core.Path.{◌≡◌, refl, sym, ap}
use mathlib.Core.Bool.{Bool, true, false, cond}
use mathlib.Core.List.{List, [], ◌++◌}
use Rattle.std.proofs.Common.{Some, None}
use lib.ListN.{length}
use lib.Dec.{eqb, ltb}
use borrow.Author.Tests.{le-leb, lt-leb}
use Rattle.xdr.specs.Writes.{afterwards}
use Rattle.sflow.specs.declared.Refusal.{Refusal}
use Rattle.sflow.specs.declared.Refusal.TheVariants.{Trailing}
use Rattle.sflow.specs.Refusals.{refusal_number}
use Rattle.reader.specs.declared.sample.Sample.{Sample}
use Rattle.reader.specs.declared.datagram.Cursor.{Cursor}
use Rattle.reader.specs.Datagrams.{step_at, stepped, walk, walk_on, datagram_read}
use Rattle.record_lines.specs.Lines.{Puts, sample_line, sample_lines, refused_line}
use Rattle.record_lines.specs.Records.{lines_of, record_lines, room_of, answer_to, list_record}
use Rattle.record_lines.specs.declared.Listed.TheVariants.{Refused as RefusedRecord}
use Rattle.record_lines.proofs.Puts.{then, puts_none, puts_as}
use Rattle.std.specs.Prelude.{Result, Ok, Err}
use Rattle.sflow.specs.declared.Refused.{Refused}
use Rattle.sflow.specs.Decode.{refused_at}
use Rattle.reader.specs.declared.datagram.Head.{Head}

-- ---- lines one behind the other

-- what is left to put from here on makes the whole
abbrev pub Leaves : List ℕ → ℕ → List ℕ → List ℕ → ℕ → List ℕ → Type 0
Leaves d₀ at₀ whole d at rest = (r : ℕ) (e : List ℕ) → r ≤ length d₀ → Puts d at rest r e → Puts d₀ at₀ whole r e

pub leaves_next : (d₀ : List ℕ) (at₀ : ℕ) (whole d d1 : List ℕ) (at p : ℕ) (zs xs ys : List ℕ)
    → length d ≡ length d₀ → Leaves d₀ at₀ whole d at zs → zs ≡ xs ++ ys → Puts d at xs p d1 → Leaves d₀ at₀ whole d1 p ys
leaves_next d₀ at₀ whole d d1 at p zs xs ys l f z x r e h q =
    let room : r ≤ length d = omega arith in f r e h (puts_as z (then x q room))

pub leaves_end : (d₀ : List ℕ) (at₀ : ℕ) (whole d : List ℕ) (at : ℕ) (zs : List ℕ)
    → Leaves d₀ at₀ whole d at zs → zs ≡ [] → at ≤ length d₀ → Puts d₀ at₀ whole at d
leaves_end d₀ at₀ whole d at zs f z h = f at d h (puts_none z)

-- ---- the samples that the walk meets

-- the lines of the samples that a walk meets, with so many samples left from an offset on
abbrev pub walked : List ℕ → ℕ → ℕ → List ℕ
walked s left at = sample_lines (walk s left at).met

pub walked_end : (s : List ℕ) (left at : ℕ) → left ≤ 0 → walked s left at ≡ []
unfolding walk step_at
walked_end s zero at h = go (ltb at (length s))
  where
    go : (b : Bool) → sample_lines (walk_on at (cond b (Err (refused_at Trailing at)) (Ok None)) (λ next. record { met = []; ending = Ok next })).met ≡ []
    go true = refl
    go false = refl
walked_end s (suc left) at h = absurd (not-suc-le-zero h)

pub walked_more : (s : List ℕ) (left at : ℕ) (x : Sample) (c : Cursor) → 0 < left
    → step_at s (record { at = at; left = left }) ≡ Ok (Some (x, c)) → walked s left at ≡ sample_line x ++ walked s (left - 1) c.at
unfolding walk
walked_more s zero at x c h e = absurd (not-suc-le-zero h)
walked_more s (suc left) at x c h e = let f : suc left - 1 ≡ left = omega arith in rw (e, f)

-- a step leaves one sample less
pub one_less : (s : List ℕ) (c b : Cursor) (x : Sample) → step_at s c ≡ Ok (Some (x, b)) → b.left ≡ c.left - 1
unfolding step_at
one_less s c b x e = go (eqb c.left 0) (ltb c.at (length s)) _ e
  where
    go : (p q : Bool) (r : Result (Sample × ℕ) Refused) → cond p (cond q (Err (refused_at Trailing c.at)) (Ok None)) (stepped c.left r) ≡ Ok (Some (x, b)) → b.left ≡ c.left - 1
    go true true r e = cc
    go true false r e = cc
    go false q (Ok y) e =
        let h : ◌≡◌ {A = Sample × Cursor} (x, b) (y.0, record { at = y.1; left = c.left - 1 }) = cc in
        ap (λ (k : Sample × Cursor). k.1.left) h
    go false q (Err y) e = cc

-- a step that finds the end, and one that is refused
pub walked_over : (s : List ℕ) (left at : ℕ) → 0 < left → step_at s (record { at = at; left = left }) ≡ Ok None → walked s left at ≡ []
unfolding walk
walked_over s zero at h e = absurd (not-suc-le-zero h)
walked_over s (suc left) at h e = rw e

pub walked_stop : (s : List ℕ) (left at : ℕ) (r : Refused) → 0 < left → step_at s (record { at = at; left = left }) ≡ Err r → walked s left at ≡ []
unfolding walk
walked_stop s zero at r h e = absurd (not-suc-le-zero h)
walked_stop s (suc left) at r h e = rw e

-- ---- a record

pub lists : (d e : List ℕ) (at n r : ℕ) (s : List ℕ) (a : Result Head Refused)
    → datagram_read s ≡ a → Puts d at (lines_of n s a) r e → at + room_of a ≤ length d → afterwards (Some (answer_to a r)) e ≡ list_record d at n s
unfolding list_record record_lines
lists d e at n r s a q p h = rw (q, le-leb _ _ h, p.next_is, p.octets_are)

pub no_room : (d : List ℕ) (at n : ℕ) (s : List ℕ) (a : Result Head Refused) → datagram_read s ≡ a → length d < at + room_of a → afterwards None d ≡ list_record d at n s
unfolding list_record
no_room d at n s a q h = rw (q, lt-leb _ _ h)

-- every record asks for this room
pub no_room_at_all : (d : List ℕ) (at n : ℕ) (s : List ℕ) → length d < at + 164 → afterwards None d ≡ list_record d at n s
no_room_at_all d at n s h = go (datagram_read s) refl
  where
    go : (a : Result Head Refused) → datagram_read s ≡ a → afterwards None d ≡ list_record d at n s
    go (Ok g) q = no_room d at n s (Ok g) q (omega arith)
    go (Err e) q = no_room d at n s (Err e) q h

pub lists_refused : (d e : List ℕ) (at n r : ℕ) (s : List ℕ) (why : Refusal) (p num : ℕ) → datagram_read s ≡ Err (refused_at why p) → num ≡ refusal_number why
    → Puts d at (refused_line n num p) r e → at + 164 ≤ length d → afterwards (Some (RefusedRecord r)) e ≡ list_record d at n s
lists_refused d e at n r s why p num q m x h = lists d e at n r s (Err (refused_at why p)) q (rw (sym m) x) h
