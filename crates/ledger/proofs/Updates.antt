-- What one row becomes, by what the tests answer. Assumes nothing.
use Rattle.std.proofs.Common.{ℕ, ◌+◌, ◌%◌, ◌^◌, ◌<◌, arith, ◌≡◌, true, false, Ok}
use Rattle.ledger.specs.declared.FlowEntry.{FlowEntry}
use Rattle.ledger.specs.declared.Row.{Row}
use Rattle.ledger.specs.Ledger.{same_source, difference, answered, opened, later, updated}

-- a number that wraps back to a when b is added to it is a minus b modulo 2 ^ 32
pub wraps_back : (r a b : ℕ) → r < 2 ^ 32 → a < 2 ^ 32 → b < 2 ^ 32 → (r + b) % 2 ^ 32 ≡ a → difference a b ≡ r
wraps_back r a b hr ha hb e = omega arith

module _ (row : Row) (x : FlowEntry) where
  pub opens : row.used ≡ false → answered (Ok tt) (opened x) ≡ updated row x
  unfolding updated
  opens u = rw u

  pub of_source : row.used ≡ true → same_source row x ≡ true → later row x ≡ updated row x
  unfolding updated
  of_source u s = rw (s, u)
