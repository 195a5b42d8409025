-- The first rule that breaks one. Assumes nothing.
use Prim.Native.Nat.{ℕ, zero, suc, ◌+◌, ◌-◌, ◌≤◌}
use native.Mathlib.Omega.{arith}
use mathlib.Core.Path.{◌≡◌, refl, sym, ◌∙◌, ap}
use mathlib.Core.Bool.{true}
use Rattle.std.specs.Prelude.{Ok, Err, is_err}
use Rattle.std.specs.Result.{MatchResult, IsErrAnd}
use Rattle.std.proofs.lemmas.Result.{err_from_is_err_and}
use Rattle.rules.specs.declared.CheckRefusal.{CheckRefusal}
use Rattle.rules.specs.declared.CheckRefused.{CheckRefused}
use Rattle.rules.specs.Checks.{RuleCheck, CheckAnswer, fine, accepted, refused, named, first_broken}
use Rattle.rules.proofs.Tests.{true_false}

module _ (f : ℕ → RuleCheck) (i : ℕ) (low : 1 ≤ i) (before : first_broken f (i - 1) ≡ accepted) where
  -- rule i is fine, as those before it
  pub one_more : f i ≡ fine → first_broken f (i + 1 - 1) ≡ accepted
  unfolding first_broken
  one_more here = let back : i + 1 - 1 ≡ suc (i - 1) = omega arith in let there : suc (i - 1) ≡ i = omega arith in rw (back, before, there, here)

  -- what is found stays found
  stays : (why : CheckRefusal) (n : ℕ) → i ≤ n → f i ≡ Err why → refused why i ≡ first_broken f n
  unfolding first_broken
  stays why n high here = let last : n ≡ n - i + i = omega arith in rw last (go (n - i))
    where
      go : (d : ℕ) → refused why i ≡ first_broken f (d + i)
      go zero = let there : 0 + i ≡ suc (i - 1) = omega arith in let at : suc (i - 1) ≡ i = omega arith in rw (there, before, at, here)
      go (suc d) = let there : suc d + i ≡ suc (d + i) = omega arith in rw (there, ← go d)

  -- rule i of n is named with what it breaks
  pub found : (n : ℕ) → i ≤ n → (r : RuleCheck) → is_err r ≡ true → f i ≡ r → named r i ≡ first_broken f n
  found n high (Ok x) e here = true_false (sym e)
  found n high (Err why) e here = stays why n high here

-- behind the last rule
pub none_broken : (f : ℕ → RuleCheck) (n i k : ℕ) → first_broken f (i - 1) ≡ accepted → i ≡ n + 1 → named fine k ≡ first_broken f n
none_broken f n i k none last = let all : n ≡ i - 1 = omega (arith, last) in rw (all, none) refl

-- a rule's refusal, with the rule
pub named_so : (r : RuleCheck) (k : ℕ) (x : CheckAnswer) (P : CheckRefusal → CheckRefused → Type 0)
    → ((why : CheckRefusal) (y : CheckRefused) → P why y → y ≡ record { why = why; rule = k })
    → MatchResult r (λ t. x ≡ Ok t) (λ why. IsErrAnd x (P why)) → x ≡ named r k
named_so (Ok t) k x P f e = e
named_so (Err why) k x P f h = let p = err_from_is_err_and x h in p.1 ∙ ap Err (f why p.0 p.2)
