use native.Mathlib.Omega.{arith}
use mathlib.Core.Path.{◌∙◌}
use Rattle.rules.proofs.Records.{no_zeroth, none_behind, record_joined, mark_read}
use Rattle.rules.proofs.record_at.Goals as goal
use Rattle.rules.proofs.record_at.Goals.{then-i-lt1-via-then-i-lt1, then-i-lt1-via-else-i-lt1+then-rule_count-i}

pub returns-then-i-lt1 : goal.returns-then-i-lt1
returns-then-i-lt1 c =
    c.no_record.ensures
    ∙ elim c.then-i-lt1.branch [
      | then-i-lt1-via-then-i-lt1 w ↦ no_zeroth c.args.s.now c.args.i w.if-i-lt1.true
      | then-i-lt1-via-else-i-lt1+then-rule_count-i w ↦
          let few = w.rule_count.ensures in
          none_behind c.args.s.now c.args.i w.if-i-lt1.false (rw few at w.if-rule_count-i.true)
    ]

pub returns : goal.returns
returns c =
    record_joined c.args.s.now c.args.i (omega arith) (omega (arith, c.rule_count.ensures))
    (record { mark = c.pair_of-mark.result; rule = c.rule_in-rule.result; declared = c.declared_in-declared.result })
    (c.pair_of-mark.ensures ∙ mark_read c.args.s.now _) c.rule_in-rule.ensures c.declared_in-declared.ensures
