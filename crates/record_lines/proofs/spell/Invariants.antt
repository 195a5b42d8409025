use Rattle.std.proofs.Common.{◌≡◌, ◌≤◌, length}
use Rattle.xdr.specs.Writes.{stored}
use Rattle.record_lines.specs.Digits.{last_digits}
use Rattle.record_lines.proofs.spell.Given as goal

abbrev pub invariant-loop-i : goal.invariant-loop-i
invariant-loop-i g l =
    (length l.d ≡ length l.initial.d) × (l.i ≤ l.k) × (stored l.d l.at (last_digits g.row.BASE l.i l.rest) ≡ stored l.initial.d l.at (last_digits g.row.BASE l.k l.n))
