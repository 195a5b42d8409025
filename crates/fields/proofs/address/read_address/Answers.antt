use borrow.Author.Rules.{rules}
use mathlib.Core.Path.{sym, ap, ◌∙◌}
use Rattle.sflow.specs.Decode.{as_read}
use Rattle.fields.proofs.Answers.{passed_up}
use Rattle.fields.proofs.Addresses.{address_cut, address_v4, address_v4_cut, address_v6, address_v6_cut, address_other}
use Rattle.fields.proofs.address.read_address.Goals as goal
use Rattle.fields.proofs.address.read_address.Goals.{in-1+in_ok-a-in-1, in-2+in_ok-octets-in-2}

pub returns-in_err-kind : goal.returns-in_err-kind
returns-in_err-kind c =
    passed_up _ _ c.from_residual.ensures.1
    ∙ sym (ap as_read (address_cut _ _ _ (sym c.read_word.ensures ∙ c.in_err-kind.was)))

pub returns-in_err-a-in-1 : goal.returns-in_err-a-in-1
returns-in_err-a-in-1 c =
    passed_up _ _ c.from_residual-in_err-a-in-1.ensures.1
    ∙ sym
    (ap as_read
    (address_v4_cut _ _ _ _ _ (sym c.read_word.ensures ∙ c.in_ok-kind.was) c.in-1.is
    (sym c.read_word-in-1.ensures ∙ c.in_err-a-in-1.was)))

pub returns-in_err-octets-in-2 : goal.returns-in_err-octets-in-2
returns-in_err-octets-in-2 c =
    passed_up _ _ c.from_residual-in_err-octets-in-2.ensures.1
    ∙ sym
    (ap as_read
    (address_v6_cut _ _ _ _ _ (sym c.read_word.ensures ∙ c.in_ok-kind.was) c.in-2.is
    (sym c.read_quad.ensures ∙ c.in_err-octets-in-2.was)))

pub returns-in_default : goal.returns-in_default
returns-in_default c =
    sym (ap as_read (address_other _ _ _ _ (sym c.read_word.ensures ∙ c.in_ok-kind.was) (search rules) (search rules)))

pub returns : goal.returns
returns c =
    elim c.match-kind.branch [
      | in-1+in_ok-a-in-1 w ↦
          rw w.next-is
          (sym
          (ap as_read
          (address_v4 _ _ _ _ _ _ (sym c.read_word.ensures ∙ c.in_ok-kind.was) w.in-1.is
          (sym w.read_word-in-1.ensures ∙ w.in_ok-a-in-1.was))))
      | in-2+in_ok-octets-in-2 w ↦
          rw w.next-is
          (sym
          (ap as_read
          (address_v6 _ _ _ _ _ _ (search rules) (search rules) (search rules) (search rules)
          (sym c.read_word.ensures ∙ c.in_ok-kind.was) w.in-2.is
          (sym w.read_quad.ensures ∙ w.in_ok-octets-in-2.was))))
    ]
