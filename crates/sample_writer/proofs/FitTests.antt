-- Numbers that fit their widths, tested one by one. Assumes nothing.
use Prim.Native.Nat.{ℕ, suc, ◌+◌, ◌<◌}
use native.Mathlib.Numerals.{add-one}
use mathlib.Core.Path.{◌≡◌, refl, ap}
use mathlib.Core.Logic.{inl, inr}
use mathlib.Core.Bool.{Bool, true, false, cond, ◌||◌}
use mathlib.Core.List.{List, [], ◌∷◌}
use lib.ListN.{length, get_or, drop}
use lib.Seq.{drop-cons}
use lib.Dec.{T, eqb}
use borrow.Author.Tests.{eqb-true}
use Rattle.sflow.specs.Grammar.{Fits, Each, each_fits}
use Rattle.sflow.proofs.Allows.{fits_exactly}
use Rattle.counter_data.specs.CounterBodies.{words_and_hypers}
use Rattle.sample_writer.specs.CounterValues.{WordOrHyper}

-- ---- widths

-- widths that pass the test of words and hypers are each one of the two
pub widths_are : (ws : List ℕ) → T (words_and_hypers ws) → Each WordOrHyper ws
widths_are [] t = tt
widths_are (w ∷ ws) t = let h = first (eqb w 4) (eqb w 8) refl refl t in (h.0, widths_are ws h.1)
  where
    first : (a b : Bool) → eqb w 4 ≡ a → eqb w 8 ≡ b → T (cond (a || b) (words_and_hypers ws) false) → WordOrHyper w × T (words_and_hypers ws)
    first true b e f u = (inl (eqb-true w 4 e), u)
    first false true e f u = (inr (eqb-true w 8 f), u)
    first false false e f u = absurd u

-- what holds of the widths from an index on holds of the one there, and of those behind it
pub first_width : (ws : List ℕ) (i : ℕ) → i < length ws → Each WordOrHyper (drop i ws)
    → WordOrHyper (get_or ws i 0) × Each WordOrHyper (drop (i + 1) ws)
first_width ws i h e = rw add-one (rw (drop-cons ws i 0 h) at e)

-- ---- the test of all numbers

-- numbers that pass the test fit their widths as the grammar says it
pub fits_told : (ws ns : List ℕ) → each_fits ws ns ≡ true → Fits ws ns
fits_told ws ns e = (fits_exactly ws ns).0 e

-- numbers that fit their widths are as many
pub fits_length : (ws ns : List ℕ) → Fits ws ns → length ns ≡ length ws
fits_length [] [] f = refl
fits_length [] (v ∷ vs) f = absurd f
fits_length (w ∷ ws) [] f = absurd f
fits_length (w ∷ ws) (v ∷ vs) f = ap suc (fits_length ws vs f.1)

-- another number of numbers than of widths does not pass
pub other_length : (ws ns : List ℕ) → (length ns ≡ length ws → ⊥) → false ≡ each_fits ws ns
other_length ws ns n = go (each_fits ws ns) refl
  where
    go : (b : Bool) → each_fits ws ns ≡ b → false ≡ b
    go true e = absurd (n (fits_length ws ns (fits_told ws ns e)))
    go false e = refl
