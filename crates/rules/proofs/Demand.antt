-- Demand 3, for every accepted rule set and all attributes. Assumes nothing.
use Prim.Native.Nat.{ℕ, zero, suc, ◌+◌, ◌-◌, ◌≤◌}
use native.Mathlib.Omega.{arith}
use mathlib.Core.Path.{◌≡◌, refl, sym, ◌∙◌}
use mathlib.Core.List.{List}
use mathlib.Core.Bool.{Bool, true, false}
use lib.Dec.{leb}
use borrow.Author.Tests.{leb-true, leb-false}
use Rattle.rules.specs.declared.Rule.{Rule}
use Rattle.rules.specs.declared.Item.{Item}
use Rattle.rules.specs.declared.Action.TheVariants.{Unknown}
use Rattle.rules.specs.declared.MachineAnswer.{MachineAnswer}
use Rattle.rules.specs.Opcodes.{action_of}
use Rattle.rules.specs.Records.{rule_count, rule_of, declared_of}
use Rattle.rules.specs.Machine.{MachineState, Outcome, running, ended, stuck, advance, after}
use Rattle.rules.specs.Checks.{accepted, check}
use Rattle.rules.specs.Demand.{bound, WithinLimits, MachineWithin, open_subroutine, AsDeclared}
use Rattle.rules.proofs.Invariant.{Sound, Frames, main, sub, Inv, Reached, reached, ends}
use Rattle.rules.proofs.Accepted.{accepted_set, rule_sound}

module _ (s : List ℕ) (e : check s ≡ accepted) (at : ℕ → ℕ) where
  abbrev n : ℕ
  n = rule_count s

  pub all_sound : (i : ℕ) → 1 ≤ i → i ≤ n → Sound n (rule_of s) (declared_of s) i
  all_sound i l h = (rule_sound s i ((accepted_set s e).rules i l h)).0

  pub all_act : (i : ℕ) → 1 ≤ i → i ≤ n → action_of (rule_of s i).opcode ≡ Unknown → ⊥
  all_act i l h = (rule_sound s i ((accepted_set s e).rules i l h)).1

  pub reach : (k : ℕ) → Reached n (rule_of s) (declared_of s) k (after n (rule_of s) at k)
  reach k = reached n (rule_of s) (declared_of s) all_sound all_act at (accepted_set s e).some_rule k

  within : (k : ℕ) (o : Outcome) → Reached n (rule_of s) (declared_of s) k o → WithinLimits (bound n) o
  within k (running t) r =
      let f = all_sound t.number r.0.low r.0.high in
      (omega (arith, f.deep, r.0.depth), omega (arith, f.full, r.0.held), omega (arith, r.1, r.2))
  within k (ended a items c) r = (r.0, r.2)
  within k stuck r = r

  pub demand_3 : MachineWithin n (rule_of s) at (bound n)
  demand_3 =
      record {
        always = λ k. within k (after n (rule_of s) at k) (reach k);
        ends = ends n (rule_of s) (declared_of s) all_sound all_act at (accepted_set s e).some_rule;
      }

  homes : (h : ℕ) (calls : List ℕ) → Frames n (rule_of s) (declared_of s) h calls → h ≡ open_subroutine (rule_of s) calls
  homes h calls main = refl
  homes h calls (sub low high gosub deep frames) = refl

  -- every rule that the machine comes to is come to as it declares
  pub arrives_as_declared : (k : ℕ) (t : MachineState) → after n (rule_of s) at k ≡ running t → AsDeclared (rule_of s) (declared_of s) t
  arrives_as_declared k t come =
      let v : Inv n (rule_of s) (declared_of s) t.number t.calls t.items = (rw come at (reach k)).0 in
      record { home = homes _ _ v.frames; depth = v.depth; held = v.held }

-- ---- there is only one end

-- what has ended stays so
stays : (n : ℕ) (rule : ℕ → Rule) (at : ℕ → ℕ) (k : ℕ) (a : MachineAnswer) (c : ℕ) (items : List Item) (d : ℕ) → after n rule at k ≡ ended a items c → after n rule at (d + k) ≡ ended a items c
unfolding after advance
stays n rule at k a c items zero e = let z : 0 + k ≡ k = omega arith in rw z e
stays n rule at k a c items (suc d) e = let z : suc d + k ≡ suc (d + k) = omega arith in rw z (rw (stays n rule at k a c items d e) refl)

pub stays_later : (n : ℕ) (rule : ℕ → Rule) (at : ℕ → ℕ) (k l : ℕ) (a : MachineAnswer) (c : ℕ) (items : List Item) → k ≤ l → after n rule at k ≡ ended a items c
    → after n rule at l ≡ ended a items c
stays_later n rule at k l a c items h e = let z : l ≡ l - k + k = omega arith in rw z (stays n rule at k a c items (l - k) e)

-- whenever the machine has ended, it is the same end
pub one_end : (n : ℕ) (rule : ℕ → Rule) (at : ℕ → ℕ) (k l : ℕ) (a b : MachineAnswer) (c d : ℕ) (items others : List Item)
    → after n rule at k ≡ ended a items c → after n rule at l ≡ ended b others d → ended a items c ≡ ended b others d
one_end n rule at k l a b c d items others e f = go (leb k l) refl
  where
    go : (t : Bool) → leb k l ≡ t → ended a items c ≡ ended b others d
    go true t = sym (stays_later n rule at k l a c items (leb-true k l t) e) ∙ f
    go false t = sym e ∙ stays_later n rule at l k b d others (omega (arith, leb-false k l t)) f
