use Prim.Native.Nat.{◌-◌, ◌+◌, ◌/◌, ◌≤◌, ◌<◌}
use native.Mathlib.Omega.{arith}
use mathlib.Core.Path.{◌≡◌, sym, ap, ◌∙◌}
use lib.ListN.{length, length-set, length-replicate, replicate}
use Rattle.sflow.specs.Decode.{as_read, decode}
use Rattle.fields.specs.Words.{words}
use Rattle.xdr.proofs.Octets.{word_number}
use Rattle.fields.proofs.WordRows.{rows_start, rows_step, rows_end, rows_cut}
use Rattle.fields.proofs.words.read_words.Goals as goal

pub loop-value-init : goal.loop-value-init
loop-value-init g c =
    let all : g.row.N - 0 ≡ g.row.N = omega arith in
    (length-replicate g.row.N 0, omega arith, rw all (rows_start (replicate g.row.N 0) (decode (words g.row.N) c.args.s.now c.args.at)))

pub returns-then-left : goal.returns-then-left
returns-then-left g c =
    let short : (length c.args.s.now - c.args.at) / 4 < g.row.N = rw (sym c.saturating_sub-left.ensures) c.if-left.true in
    rw c.saturating_sub-left.ensures (ap as_read (sym (rows_cut c.args.s.now g.row.N c.args.at short)))

pub loop-value-preserved : goal.loop-value-preserved
loop-value-preserved g c =
    let l = c.loop-value in
    let less : g.row.N - l.value-index - 1 ≡ g.row.N - (l.value-index + 1) = omega arith in
    let long = l.invariant.0 in
    let place = l.invariant.1 in
    let enough : g.row.N ≤ (length c.args.s.now - c.args.at) / 4 = rw (sym c.saturating_sub-left.ensures) c.if-left.false in
    let there : l.next + 4 ≤ length c.args.s.now = omega arith in
    let step = rows_step l.value-items l.value-index (g.row.N - l.value-index) c.args.s.now l.next (omega arith) (omega arith) there in
    (rw length-set long, omega arith, rw (← less, c.word_of.ensures, ← word_number c.args.s.now l.next) (sym step ∙ l.invariant.2))

pub returns : goal.returns
returns g c =
    let l = c.loop-value in
    let long = l.invariant.0 in
    ap as_read (sym (rows_end l.value-items l.value-index (g.row.N - l.value-index) _ l.next (omega arith) (omega arith)) ∙ l.invariant.2)
