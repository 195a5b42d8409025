-- The engine's loop follows the machine to its end. Assumes nothing.
use Prim.Native.Nat.{ℕ, ◌+◌, ◌^◌, ◌≤◌, ◌<◌}
use native.Mathlib.Nat.{pow-le-pow_left}
use native.Mathlib.Numerals.{add-one}
use native.Mathlib.Omega.{arith}
use mathlib.Core.Path.{◌≡◌, ap, sym, ◌∙◌, subst}
use mathlib.Core.List.{List, [], ◌∷◌}
use lib.ListN.{length, get_or, length-map}
use Rattle.std.specs.Prelude.{Option, Some, None, Ok}
use Rattle.rules.specs.declared.Action.{Action}
use Rattle.rules.specs.declared.Action.TheVariants.{Return}
use Rattle.rules.specs.declared.MachineAnswer.{MachineAnswer}
use Rattle.rules.specs.Opcodes.{action_of}
use Rattle.rules.specs.Records.{rule_count, rule_of, declared_of}
use Rattle.rules.specs.Machine.{Outcome, running, ended, stuck, step, advance, after}
use Rattle.rules.specs.Room.{Room}
use Rattle.rules.specs.Checks.{accepted, check}
use Rattle.rules.specs.Demand.{bound}
use Rattle.rules.proofs.Measure.{left, left_pos}
use Rattle.rules.proofs.Invariant.{Inv, Good, Reached, room, step_good, back_within}
use Rattle.rules.proofs.Accepted.{accepted_set}
use Rattle.rules.proofs.Demand.{all_sound, all_act, reach, stays_later}
use Rattle.engine.specs.declared.EngineState.{EngineState}
use Rattle.engine.specs.EngineStates.{item_of, queued, state_of, outcome_by, Live}
use Rattle.engine.specs.Results.{key_of, result_of}

bound_small : (n : ℕ) → n ≤ 255 → bound n < 2 ^ 60
bound_small n h = omega (arith, pow-le-pow_left h 2, pow-le-pow_left h 3, pow-le-pow_left h 4, pow-le-pow_left h 5)

-- how many rules an outcome has come to
abbrev rules_of : Outcome → ℕ
rules_of (running s) = s.rules
rules_of (ended a items k) = k
rules_of stuck = 0

module _ (s : List ℕ) (e : check s ≡ accepted) (at : ℕ → ℕ) (m : EngineState)
    (f : running (state_of (rule_of s) at m) ≡ after (rule_count s) (rule_of s) at m.rules) where
  abbrev n : ℕ
  n = rule_count s

  runs : Reached n (rule_of s) (declared_of s) m.rules (running (state_of (rule_of s) at m))
  runs = subst (Reached n (rule_of s) (declared_of s) m.rules) (sym f) (reach s e at m.rules)

  pub more : m.rules < bound n
  more = omega (arith, runs.1, left_pos n m.number m.calls runs.0.high)

  -- where a Return comes back there is a rule
  back : (calls : List ℕ) → Inv n (rule_of s) (declared_of s) m.number calls (queued (rule_of s) at m.queue)
      → action_of (rule_of s m.number).opcode ≡ Return → 1 ≤ length calls → get_or calls 0 0 + (rule_of s m.number).parameter ≤ n
  back [] v r d = absurd (omega arith)
  back (g ∷ calls) v r d =
      back_within n (rule_of s) (declared_of s) (all_sound s e at) (all_act s e at) at m.number g calls (queued (rule_of s) at m.queue) v r

  pub live : Live n (rule_of s) m
  live =
      let v = runs.0 in
      let q : length (queued (rule_of s) at m.queue) ≡ length m.queue = length-map m.queue (item_of (rule_of s) at) in
      let c = accepted_set s e in
      let here : Room (action_of (rule_of s m.number).opcode) (length m.calls) (length m.queue) =
      rw q at (room n (rule_of s) (declared_of s) (all_sound s e at) (all_act s e at) at m.number m.calls (queued (rule_of s) at m.queue) v) in
      record {
        low = v.low;
        high = v.high;
        rules = omega (arith, more, bound_small n c.few);
        room = here;
        back =
            λ a. let k = back m.calls v a (subst (λ (x : Action). Room x (length m.calls) (length m.queue)) a here) in omega (arith, k, c.few);
      }

  good_rules : (o : Outcome) → Good n (rule_of s) (declared_of s) (left n m.number m.calls) (m.rules + 1) o → rules_of o ≡ m.rules + 1
  good_rules (running t) g = g.2
  good_rules (ended a items k) g = g.1
  good_rules stuck g = absurd g

  step_rules : rules_of (step n (rule_of s) at (state_of (rule_of s) at m)) ≡ m.rules + 1
  step_rules =
      good_rules (step n (rule_of s) at (state_of (rule_of s) at m))
      (step_good n (rule_of s) (declared_of s) (all_sound s e at) (all_act s e at) at (state_of (rule_of s) at m) runs.0)

  -- after a step
  module _ (o : Option MachineAnswer) (x : EngineState) (h : outcome_by (rule_of s) at (o, x) ≡ step n (rule_of s) at (state_of (rule_of s) at m)) where
    stepped : outcome_by (rule_of s) at (o, x) ≡ after n (rule_of s) at (m.rules + 1)
    unfolding after advance
    stepped = let k = add-one m.rules in rw (k, ← f) h

    -- without an answer the machine runs on, with one rule more
    module _ (none : o ≡ None) where
      pub one_more : x.rules ≡ m.rules + 1
      one_more = ap rules_of (rw none at h) ∙ step_rules

      pub runs_on : running (state_of (rule_of s) at x) ≡ after n (rule_of s) at x.rules
      runs_on = rw none at stepped ∙ ap (after n (rule_of s) at) (sym one_more)

    -- with an answer the result is the machine's at its end
    pub ends : (a : MachineAnswer) → o ≡ Some a
        → Ok (record { answer = a; key = key_of (queued (rule_of s) at x.queue); rules = x.rules }) ≡ result_of (after n (rule_of s) at (bound n))
    ends a some =
        ap result_of
        (sym (stays_later n (rule_of s) at (m.rules + 1) (bound n) a x.rules (queued (rule_of s) at x.queue) (omega (arith, more)) (sym (rw some at stepped))))
