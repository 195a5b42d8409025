-- The steps of the engine's state are the machine's. Assumes nothing.
use Prim.Native.Nat.{ℕ, ◌+◌, ◌^◌, ◌≤◌, ◌<◌}
use native.Mathlib.Omega.{arith}
use mathlib.Core.Path.{◌≡◌, refl, ap}
use mathlib.Core.List.{List, [], ◌∷◌}
use mathlib.Core.Bool.{Bool, true, false, not, cond, ◌&&◌}
use lib.Bits.{bit_and}
use lib.ListN.{length, get_or, drop}
use lib.Dec.{eqb, ltb}
use borrow.Author.Tests.{le-leb, ne_eqb}
use Rattle.rules.specs.declared.Rule.{Rule}
use Rattle.rules.specs.declared.Action.{Action}
use Rattle.rules.specs.declared.Action.TheVariants.{Unknown, Ignore, NoMatch, Count, CountPkt, Return, Gosub, Goto, PushRule, PushPkt, PopTo}
use Rattle.rules.specs.declared.MachineAnswer.TheVariants as Answer
use Rattle.rules.specs.Opcodes.{action_of}
use Rattle.rules.specs.Machine.{Outcome, ended, passes, rule_item, packet_item, goes, comes_back, drops, act, fails, step}
use Rattle.rules.specs.Room.{Room}
use Rattle.rules.proofs.Bits.{masked_is}
use Rattle.engine.specs.declared.EngineState.{EngineState}
use Rattle.engine.specs.EngineStates.{queues_packet, item_of, queued, state_of, outcome_by, holding, goes_of, ends_of, acted_of, failed_of, Live}

-- ---- the test of a rule, with the language's `&`

pub mask_test : (r : Rule) (v : ℕ) → v < 2 ^ 32 → (r.attribute ≡ 0 → ⊥) → eqb (bit_and v r.mask) r.value ≡ passes r v
unfolding passes
mask_test r v h n = rw (ne_eqb r.attribute 0 n, masked_is 32 v r.mask h)

-- ---- actions

module _ (rule : ℕ → Rule) (at : ℕ → ℕ) (m : EngineState) where
  abbrev r : Rule
  r = rule m.number

  abbrev Acts : Action → Outcome
  Acts a = act a r (at r.attribute) m.number m.calls (queued rule at m.queue) m.rules

  rule_item_is : queues_packet (action_of r.opcode) ≡ false → item_of rule at m.number ≡ rule_item r
  unfolding item_of
  rule_item_is e = rw e

  masked_item : queues_packet (action_of r.opcode) ≡ true → item_of rule at m.number ≡ packet_item r (at r.attribute)
  unfolding item_of
  masked_item e = rw e

  came_back : (calls : List ℕ) → 1 ≤ length calls
      → outcome_by rule at (goes_of (holding m (drop 1 calls) m.queue) (get_or calls 0 0 + r.parameter) false) ≡ comes_back calls r.parameter (queued rule at m.queue) m.rules
  came_back [] l = absurd (omega arith)
  came_back (g ∷ calls) l = refl

  dropped : (t : Bool) (queue : List ℕ) → 1 ≤ length queue
      → outcome_by rule at (goes_of (holding m m.calls (drop 1 queue)) r.parameter t) ≡ drops r.parameter t m.calls (queued rule at queue) m.rules
  dropped t [] l = absurd (omega arith)
  dropped t (i ∷ queue) l = refl

  pub acted : (a : Action) → action_of r.opcode ≡ a → Room a (length m.calls) (length m.queue) → outcome_by rule at (acted_of a r.parameter m) ≡ Acts a
  unfolding acted_of act
  acted Unknown e room = absurd room
  acted Ignore e room = refl
  acted NoMatch e room = refl
  acted Count e room = rw (rule_item_is (ap queues_packet e))
  acted CountPkt e room = rw (masked_item (ap queues_packet e))
  acted Return e room = came_back m.calls room
  acted (Gosub t) e room = refl
  acted (Goto t) e room = refl
  acted (PushRule t) e room = rw (rule_item_is (ap queues_packet e))
  acted (PushPkt t) e room = rw (masked_item (ap queues_packet e))
  acted (PopTo t) e room = dropped t m.queue room

-- ---- a step

-- the state with the rule come to counted
abbrev counted : EngineState → EngineState
counted m = record { number = m.number; testing = m.testing; calls = m.calls; queue = m.queue; rules = m.rules + 1 }

module _ (n : ℕ) (rule : ℕ → Rule) (at : ℕ → ℕ) (m : EngineState) (l : Live n rule m) where
  abbrev tests : Bool
  tests = m.testing && not (passes (rule m.number) (at (rule m.number).attribute))

  pub step_failed : tests ≡ true → outcome_by rule at (failed_of n (counted m)) ≡ step n rule at (state_of rule at m)
  unfolding step failed_of fails
  step_failed e = rw (le-leb 1 m.number l.low, le-leb m.number n l.high, e) (go (ltb m.number n))
    where
      go : (b : Bool) → outcome_by rule at (cond b (goes_of (counted m) (m.number + 1) true) (ends_of Answer.NoMatch (counted m) []))
          ≡ cond b (goes (m.number + 1) true m.calls (queued rule at m.queue) (m.rules + 1)) (ended Answer.NoMatch [] (m.rules + 1))
      go true = refl
      go false = refl

  pub step_acted : tests ≡ false
      → outcome_by rule at (acted_of (action_of (rule m.number).opcode) (rule m.number).parameter (counted m)) ≡ step n rule at (state_of rule at m)
  unfolding step
  step_acted e =
      rw (le-leb 1 m.number l.low, le-leb m.number n l.high, e)
      (acted rule at (counted m) (action_of (rule m.number).opcode) refl l.room)
