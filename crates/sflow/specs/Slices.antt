-- A part of some octets.
use Rattle.std.specs.Prelude.{ℕ, ◌≤◌, ◌≡◌, List, ◌++◌, length, drop}

-- the octets of s from an offset up to another are xs
pub record Slice (s : List ℕ) (from to : ℕ) (xs : List ℕ) : Type 0 where
  pub low : from ≤ length s
  pub high : to ≤ length s
  pub split : drop from s ≡ xs ++ drop to s
