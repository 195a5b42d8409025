-- Laws of the lines listed.
use Prim.Native.Nat.{ℕ, ◌≤◌, ◌<◌}
use mathlib.Core.Path.{◌≡◌, refl, ap, ◌∙◌}
use mathlib.Core.List.{List}
use lib.ListN.{length}
use borrow.Author.Tests.{le-leb, lt-leb}
use Rattle.xdr.specs.Writes.{Afterwards, afterwards}
use Rattle.listing.specs.declared.State.{State}
use Rattle.listing.specs.declared.Place.{Place}
use Rattle.listing.specs.Captures.{list_all}
use Rattle.numbers.specs.Reports.{tell, handed, with_buffer}
use Rattle.line_calls.specs.ListedLines.{state_in, place_report, listed_at, listed_lines}

-- too few numbers for a state
pub lines_refused : (s d xs : List ℕ) → length xs < 6 → handed 99 d xs ≡ listed_lines s d xs
unfolding listed_lines
lines_refused s d xs h = rw (lt-leb 6 (length xs) h) refl

-- the place that the records of the capture lead to
pub lines_listed : {r : ℕ} {p : Place} {b ys : List ℕ} {t : State} (s d xs : List ℕ) → 6 ≤ length xs → t ≡ state_in xs → afterwards p b ≡ list_all d s t
    → afterwards r ys ≡ tell (place_report p) xs → handed r b ys ≡ listed_lines s d xs
unfolding listed_lines
lines_listed {r} {p} {b} s d xs h begun listed puts =
    rw (le-leb 6 (length xs) h) (ap (with_buffer b) puts ∙ ap (λ (q : Afterwards Place). listed_at q xs) (listed ∙ ap (list_all d s) begun))
