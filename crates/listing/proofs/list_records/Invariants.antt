use Rattle.std.proofs.Common.{◌≡◌, ◌-◌, length}
use Rattle.listing.specs.Captures.{list_from}
use Rattle.listing.proofs.list_records.Given as goal

abbrev pub invariant-loop : goal.invariant-loop
invariant-loop l =
    (length l.d ≡ length l.initial.d) × (list_from (length l.s - l.counter) l.d l.s l.p ≡ list_from (length l.s) l.initial.d l.s l.initial.p)
