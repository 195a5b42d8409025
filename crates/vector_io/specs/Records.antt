-- What reading a record leaves.
use Rattle.std.specs.Prelude.{ℕ, ◌≤◌, ◌≡◌, List, ◌++◌, length, take, drop, Option, Some, None, Result, Ok}
use Rattle.std.specs.List.{FoldsTo}
use Rattle.std.specs.Io.KnownBytes.{Consumes}
use denote.Ref.{Bor, MutBor}
use Rattle.xdr.specs.Numbers.{number_at}

-- a buffer before and after a record was read to its front: the record fits, and the octets behind it stay
abbrev pub ReadInto : List ℕ → Option ℕ → List ℕ → Type 0
ReadInto before (Some n) after = (n ≤ length before) × (drop n after ≡ drop n before)
ReadInto before None after = Unit {0}

-- what is left of an input before and after a record was read: it gave the record's length in four octets, and the record
pub record Given (before : Option (List ℕ)) (n : ℕ) (record_is : List ℕ) (after : Option (List ℕ)) : Type 0 where
  pub prefix : List ℕ
  pub four : length prefix ≡ 4
  pub length_is : number_at prefix 0 4 ≡ n
  pub given : Consumes before after (prefix ++ record_is)

-- the same of the record that was read to the front of a buffer
abbrev pub TakenFrom : Option (List ℕ) → Option ℕ → List ℕ → Option (List ℕ) → Type 0
TakenFrom before (Some n) buffer after = Given before n (take n buffer) after
TakenFrom before None buffer after = Unit {0}

-- a call with a record came to no error, and took an output from w to v
pub record Shown {W E : Type 0} (calls : MutBor W → Bor (List ℕ) → Result (Unit {0}) E → MutBor W → Type 0) (w : W) (r : List ℕ) (v : W) : Type 0 where
  pub lent : MutBor W
  pub shown : Bor (List ℕ)
  pub left : MutBor W
  pub lent_is : lent.now ≡ w
  pub shown_is : shown.now ≡ r
  pub left_is : left.now ≡ v
  pub called : calls lent shown (Ok tt) left

-- such calls, one with each record that an input gave, one behind the other
pub record EachRecord {W E : Type 0} (calls : MutBor W → Bor (List ℕ) → Result (Unit {0}) E → MutBor W → Type 0)
    (before : Option (List ℕ)) (w : W) (after : Option (List ℕ)) (v : W) : Type 0 where
  pub records : List (List ℕ)
  pub called : FoldsTo {P = Option (List ℕ) × W} (λ p x q. Given p.0 (length x) x q.0 × Shown calls p.1 x q.1) (before, w) records (after, v)
