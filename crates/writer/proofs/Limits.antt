-- Limits of a datagram. Assumes nothing.
use Prim.Native.Nat.{ℕ, ◌≤◌}
use native.Mathlib.Omega.{arith}
use mathlib.Core.Path.{◌≡◌, refl}
use mathlib.Core.Bool.{Bool, true, false, cond}
use lib.Dec.{leb}
use borrow.Author.Tests.{leb-true}
use Rattle.sflow.specs.Reading.{longest}
use Rattle.writer.specs.Datagrams.{limit_allowed}

-- what an allowed limit says
pub record Allowed (limit room : ℕ) : Type 0 where
  pub least : 36 ≤ limit
  pub most : limit ≤ longest
  pub inside : limit ≤ room

pub limit_allowed_is : (limit room : ℕ) → limit_allowed limit room ≡ true → Allowed limit room
limit_allowed_is limit room e = first (leb 36 limit) refl e
  where
    second : (b : Bool) → leb limit longest ≡ b → 36 ≤ limit → cond b (leb limit room) false ≡ true → Allowed limit room
    second true f h g = record { least = h; most = leb-true _ _ f; inside = leb-true _ _ g }
    second false f h g = let z : ◌≡◌ {A = ℕ} 0 1 = cc in absurd (omega arith)

    first : (b : Bool) → leb 36 limit ≡ b → cond b (cond (leb limit longest) (leb limit room) false) false ≡ true → Allowed limit room
    first true f g = second (leb limit longest) refl (leb-true _ _ f) g
    first false f g = let z : ◌≡◌ {A = ℕ} 0 1 = cc in absurd (omega arith)
