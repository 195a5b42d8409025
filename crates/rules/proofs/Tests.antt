-- What tests that pass or fail say of their parts. Assumes nothing.
use Prim.Native.Nat.{ℕ, zero, suc, ◌≤◌}
use native.Mathlib.Omega.{arith}
use mathlib.Core.Path.{◌≡◌, refl, sym}
use mathlib.Core.Bool.{Bool, true, false, ◌&&◌, ◌||◌}
use lib.Dec.{leb}
use borrow.Author.Tests.{leb-true, leb-false, eqb-true, not-false}
use Rattle.xdr.proofs.Tests.{and_parts}
use Rattle.std.specs.Prelude.{Ok, Err}
use Rattle.rules.specs.declared.Declared.{Declared}
use Rattle.rules.specs.declared.CheckRefusal.{CheckRefusal}
use Rattle.rules.specs.Checks.{fine, RuleCheck, or_breaks, unless_broken, any_up_to, differs}

pub true_false : {A : Type 0} → true ≡ false → A
true_false e = cc

pub or_false : (a b : Bool) → a || b ≡ false → (a ≡ false) × (b ≡ false)
or_false true b e = true_false e
or_false false b e = (refl, e)

pub and_false : (a b : Bool) → a && b ≡ false → a ≡ true → b ≡ false
and_false true b e f = e
and_false false b e f = true_false (sym f)

pub fine_either : (b : Bool) (why : CheckRefusal) (next : RuleCheck) → or_breaks b why next ≡ fine → (b ≡ false) × (next ≡ fine)
fine_either true why next e = cc
fine_either false why next e = (refl, e)

pub fine_both : (a b : RuleCheck) → unless_broken a b ≡ fine → (a ≡ fine) × (b ≡ fine)
fine_both (Ok x) b e = (refl, e)
fine_both (Err why) b e = cc

pub some_false : (f : ℕ → Bool) (n : ℕ) → any_up_to f n ≡ false → (g : ℕ) → 1 ≤ g → g ≤ n → f g ≡ false
some_false f zero e g l h = absurd (omega arith)
some_false f (suc k) e g l h =
    go (leb g k) refl (or_false (any_up_to f k) (f (suc k)) e) (λ m. some_false f k (or_false (any_up_to f k) (f (suc k)) e).0 g l m)
  where
    go : (b : Bool) → leb g k ≡ b → (any_up_to f k ≡ false) × (f (suc k) ≡ false) → (g ≤ k → f g ≡ false) → f g ≡ false
    go true t o ih = ih (leb-true _ _ t)
    go false t o ih = let m : g ≡ suc k = omega (arith, leb-false g k t) in rw m o.1

pub differs_false : (w : Declared) (h d q : ℕ) → differs w h d q ≡ false → (w.home ≡ h) × (w.depth ≡ d) × (w.held ≡ q)
differs_false w h d q e =
    let t = and_parts _ _ (not-false _ e) in
    let u = and_parts _ _ t.0 in
    (eqb-true _ _ u.0, eqb-true _ _ u.1, eqb-true _ _ t.1)
