-- A Return and all Gosubs, looked at one behind the other. Assumes nothing.
use Prim.Native.Nat.{ℕ, suc, ◌+◌, ◌-◌, ◌≤◌}
use native.Mathlib.Omega.{arith}
use mathlib.Core.Path.{◌≡◌, refl, sym, ◌∙◌}
use mathlib.Core.List.{List}
use mathlib.Core.Bool.{Bool, true, false}
use Rattle.rules.specs.declared.RuleRecord.{RuleRecord}
use Rattle.rules.specs.Records.{rule_of, declared_of}
use Rattle.rules.specs.Checks.{any_up_to, comes_back_nowhere, comes_back_otherwise}
use Rattle.rules.proofs.Tests.{some_false}

-- the Gosubs from which a Return, by its record, comes back at no rule of n, and at one that declares otherwise
module _ (s : List ℕ) (n : ℕ) (x : RuleRecord) where
  abbrev pub nowhere_from : ℕ → Bool
  nowhere_from = comes_back_nowhere n (rule_of s) (declared_of s) x.declared.home x.rule.parameter

  abbrev pub otherwise_from : ℕ → Bool
  otherwise_from = comes_back_otherwise n (rule_of s) (declared_of s) x.declared.home x.rule.parameter x.declared.held

module _ (f : ℕ → Bool) (g : ℕ) (low : 1 ≤ g) where
  -- rule g passes no test, as those before it
  pub none_more : any_up_to f (g - 1) ≡ false → f g ≡ false → any_up_to f (g + 1 - 1) ≡ false
  none_more none here = let back : g + 1 - 1 ≡ suc (g - 1) = omega arith in let there : suc (g - 1) ≡ g = omega arith in rw (back, none, there) here

  -- rule g of n passes it
  pub some_here : (n : ℕ) → g ≤ n → f g ≡ true → any_up_to f n ≡ true
  some_here n high here = go (any_up_to f n) refl
    where
      go : (b : Bool) → any_up_to f n ≡ b → b ≡ true
      go true e = refl
      go false e = sym (some_false f n e g low high) ∙ here

-- behind the last rule: none of n passes it
pub none_of : (f : ℕ → Bool) (n g : ℕ) → any_up_to f (g - 1) ≡ false → g ≡ n + 1 → any_up_to f n ≡ false
none_of f n g none last = let all : n ≡ g - 1 = omega (arith, last) in rw all none
