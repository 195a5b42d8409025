use Prim.Native.Nat.{ℕ, ◌-◌}
use mathlib.Core.Path.{◌≡◌}
use Rattle.std.specs.Prelude.{Result}
use Rattle.sflow.specs.declared.Refused.{Refused}
use Rattle.fields.specs.Parts.{pass_each}
use Rattle.fields.proofs.lists.pass_entries.Given as goal

-- The entries that are left, passed over where the loop stands, give the whole answer.
abbrev pub invariant-loop : goal.invariant-loop
invariant-loop g l =
    (entry : ℕ → Result ℕ Refused) → ((at : ℕ) (r : Result ℕ Refused) → goal.F-post g l.pass at r → r ≡ entry at)
    → pass_each entry (l.count - l.counter) l.at ≡ pass_each entry l.count l.first
