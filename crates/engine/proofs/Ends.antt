-- The engine's definition looks at the machine after as many steps as demand 3 allows. Of an accepted rule set the machine has ended there, and every
-- number of steps after which it has ended gives the same end. Assumes nothing.
use Prim.Native.Nat.{ℕ}
use mathlib.Core.Path.{◌≡◌, ◌∙◌}
use mathlib.Core.List.{List}
use Rattle.rules.specs.declared.Item.{Item}
use Rattle.rules.specs.declared.MachineAnswer.{MachineAnswer}
use Rattle.rules.specs.Records.{rule_count, rule_of}
use Rattle.rules.specs.Machine.{ended, after}
use Rattle.rules.specs.Checks.{accepted, check}
use Rattle.rules.specs.Demand.{bound, EndsAt}
use Rattle.rules.proofs.Demand.{demand_3, one_end}

module _ (s : List ℕ) (e : check s ≡ accepted) (at : ℕ → ℕ) where
  -- neither running nor stuck
  pub ends_there : EndsAt (rule_count s) (rule_of s) at (bound (rule_count s))
  ends_there = (demand_3 s e at).ends

  pub ends_alike : (k : ℕ) (a : MachineAnswer) (c : ℕ) (items : List Item) → after (rule_count s) (rule_of s) at k ≡ ended a items c
      → after (rule_count s) (rule_of s) at (bound (rule_count s)) ≡ ended a items c
  ends_alike k a c items f =
      let d = ends_there in
      d.ended_so
      ∙ one_end (rule_count s) (rule_of s) at (bound (rule_count s)) k d.answer a d.rules c d.items items d.ended_so f
