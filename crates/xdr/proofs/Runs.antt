-- Runs of items of fixed widths: what a read answers, and what each answer says of the octets. Assumes nothing.
use Prim.Native.Nat.{ℕ, suc, ◌+◌, ◌≤◌, ◌<◌}
use native.Mathlib.Nat.{add-zero, add_assoc}
use native.Mathlib.Numerals.{add-one}
use native.Mathlib.Omega.{arith}
use mathlib.Core.Path.{◌≡◌, ◌∙◌}
use mathlib.Core.List.{List, [], ◌∷◌}
use lib.ListN.{length, get_or, drop, drop_of_length-le}
use lib.Seq.{drop-cons}
use borrow.Author.Tests.{le-leb, lt-leb}
use Rattle.std.specs.Prelude.{Ok}
use Rattle.xdr.specs.Items.{cut, items_at, total_width}
use Rattle.xdr.proofs.Reading.{never, tested_yes}

-- Where the first item is there, the rest is read behind it.
pub item_there : (s : List ℕ) (at w : ℕ) (ws : List ℕ) → at + w ≤ length s → items_at s at (w ∷ ws) ≡ items_at s (at + w) ws
unfolding items_at
item_there s at w ws h = rw (le-leb _ _ h)

-- Where the first item has octets missing, the run is cut there.
pub item_missing : (s : List ℕ) (at w : ℕ) (ws : List ℕ) → length s < at + w → items_at s at (w ∷ ws) ≡ cut at
unfolding items_at
item_missing s at w ws h = rw (lt-leb _ _ h)

-- The steps of a loop over the widths, which stands at the index i: no item is left, the next is there, the next has octets missing.
pub items_end : (s : List ℕ) (at i : ℕ) (ws : List ℕ) → length ws ≤ i → items_at s at (drop i ws) ≡ Ok at
unfolding items_at
items_end s at i ws h = rw (drop_of_length-le ws h)

pub items_step : (s : List ℕ) (at i : ℕ) (ws : List ℕ) → i < length ws → at + get_or ws i 0 ≤ length s
    → items_at s at (drop i ws) ≡ items_at s (at + get_or ws i 0) (drop (i + 1) ws)
items_step s at i ws h r = rw (add-one, drop-cons ws i 0 h) (item_there s at (get_or ws i 0) (drop (suc i) ws) r)

pub items_stop : (s : List ℕ) (at i : ℕ) (ws : List ℕ) → i < length ws → length s < at + get_or ws i 0
    → items_at s at (drop i ws) ≡ cut at
items_stop s at i ws h r = rw (drop-cons ws i 0 h) (item_missing s at (get_or ws i 0) (drop (suc i) ws) r)

-- Items that are all there are read.
pub items_whole : (s : List ℕ) (at : ℕ) (ws : List ℕ) → at + total_width ws ≤ length s → items_at s at ws ≡ Ok (at + total_width ws)
unfolding items_at
items_whole s at [] h = rw (add-zero at)
items_whole s at (w ∷ ws) h =
    let r : at + w ≤ length s = omega arith in
    let m : at + w + total_width ws ≤ length s = omega arith in
    rw (← add_assoc at w (total_width ws)) (item_there s at w ws r ∙ items_whole s (at + w) ws m)

-- Items that were read: the next offset is behind them, and is within the octets if the first was.
pub record ItemsRead (s : List ℕ) (at : ℕ) (ws : List ℕ) (next : ℕ) : Type 0 where
  pub next_is : next ≡ at + total_width ws
  pub within : at ≤ length s → next ≤ length s

-- What items that were read say.
pub items_read : (s : List ℕ) (at : ℕ) (ws : List ℕ) (next : ℕ) → items_at s at ws ≡ Ok next → ItemsRead s at ws next
unfolding items_at
items_read s at [] next e = let q : at ≡ next = cc in record { next_is = omega arith; within = λ h. omega arith }
items_read s at (w ∷ ws) next e =
    let h = tested_yes (at + w) (length s) _ _ _ (λ q. never (cc)) e in
    let r = items_read s (at + w) ws next h.1 in
    let n : next ≡ at + w + total_width ws = r.next_is in
    let k : next ≤ length s = r.within h.0 in
    record { next_is = omega arith; within = λ _. k }
