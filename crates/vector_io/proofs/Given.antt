-- What two reads took of an input, one behind the other.
use Rattle.std.specs.Prelude.{◌≡◌, ℕ, List, ◌++◌, length, take, Option, None, Some, false, Result, Ok, Err, OnOk}
use Rattle.std.specs.Result.{is_err}
use Rattle.std.specs.Io.KnownBytes.{Consumes}
use Rattle.std.proofs.Math.Seq.{take-append_seam}
use mathlib.Core.List.{append_assoc}
use mathlib.Core.Path.{ap, sym, ◌∙◌}
use mathlib.Core.Bool.{true≢false}

-- what holds where a result is a value, of one that is no error
pub no_error : {T E P : Type 0} (r : Result T E) → is_err r ≡ false → OnOk r P → P
no_error (Ok x) e h = h
no_error (Err x) e h = absurd (true≢false e)

given_twice : (a b c : Option (List ℕ)) (p r : List ℕ) → Consumes a b p → Consumes b c r → Consumes a c (p ++ r)
given_twice None b c p r first next = tt
given_twice (Some x) None c p r first next = absurd first
given_twice (Some x) (Some y) None p r first next = absurd next
given_twice (Some x) (Some y) (Some z) p r first next = first ∙ ap (λ (l : List ℕ). p ++ l) next ∙ sym (append_assoc p r z)

-- what was taken second stands at the front of other octets
pub given_to_front : (a b c : Option (List ℕ)) (p r rest : List ℕ) (n : ℕ) → length r ≡ n → Consumes a b p → Consumes b c r
    → Consumes a c (p ++ take n (r ++ rest))
given_to_front a b c p r rest n e first next =
    rw (sym e, take-append_seam r rest) (given_twice a b c p r first next)
