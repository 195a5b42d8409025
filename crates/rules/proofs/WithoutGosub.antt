-- Without a Gosub each rule is come to at most once. Assumes nothing.
use Prim.Native.Nat.{ℕ, zero, suc, ◌+◌, ◌-◌, ◌*◌, ◌≤◌, ◌<◌}
use native.Mathlib.Nat.{mul-le-mul_right}
use native.Mathlib.Omega.{arith}
use mathlib.Core.Path.{◌≡◌, refl, sym}
use mathlib.Core.Logic.{⊎_elim}
use mathlib.Core.List.{List, []}
use mathlib.Core.Bool.{Bool, true, false}
use lib.Dec.{ltb}
use borrow.Author.Tests.{ltb-true, ltb-false}
use Rattle.rules.specs.declared.Action.{Action}
use Rattle.rules.specs.declared.Action.TheVariants.{Unknown, Ignore, NoMatch, Count, CountPkt, Return, Gosub, Goto, PushRule, PushPkt, PopTo}
use Rattle.rules.specs.Opcodes.{action_of, is_gosub}
use Rattle.rules.specs.Records.{rule_count, rule_of, declared_of}
use Rattle.rules.specs.Machine.{MachineState, Outcome, running, ended, stuck, step, advance, after}
use Rattle.rules.specs.Checks.{accepted, check}
use Rattle.rules.specs.Demand.{bound, WithinLimits, EndsAt, MachineWithin, WithoutGosub}
use Rattle.rules.proofs.Tests.{true_false}
use Rattle.rules.proofs.Measure.{size, later, left}
use Rattle.rules.proofs.Opcodes.{OpcodeOf, opcode_of}
use Rattle.rules.proofs.Invariant.{Frames, main, sub, Inv, Good, Reached, step_good}
use Rattle.rules.proofs.Demand.{all_sound, all_act, reach, demand_3}

-- where less is left, the rule is a later one
left_less : (n p t : ℕ) → left n t [] < left n p [] → p < t
unfolding left later
left_less n p t h = go (ltb p t) refl
  where
    go : (b : Bool) → ltb p t ≡ b → p < t
    go true e = ltb-true p t e
    go false e =
        let l : t ≤ p = ltb-false p t e in
        let a : (suc n - p) * size n (4 - 0) ≤ (suc n - t) * size n (4 - 0) = mul-le-mul_right (size n (4 - 0)) (omega arith) in
        absurd (omega (arith, a, h))

-- only opcodes 6 and 7 are Gosubs
gosub_opcode : (a : Action) (op : ℕ) → OpcodeOf a op → is_gosub a ≡ true → (op ≡ 6 → ⊥) → (op ≡ 7 → ⊥) → ⊥
gosub_opcode Unknown op o g six seven = true_false (sym g)
gosub_opcode Ignore op o g six seven = true_false (sym g)
gosub_opcode NoMatch op o g six seven = true_false (sym g)
gosub_opcode Count op o g six seven = true_false (sym g)
gosub_opcode CountPkt op o g six seven = true_false (sym g)
gosub_opcode Return op o g six seven = true_false (sym g)
gosub_opcode (Gosub t) op o g six seven = ⊎_elim six seven o
gosub_opcode (Goto t) op o g six seven = true_false (sym g)
gosub_opcode (PushRule t) op o g six seven = true_false (sym g)
gosub_opcode (PushPkt t) op o g six seven = true_false (sym g)
gosub_opcode (PopTo t) op o g six seven = true_false (sym g)

module _ (s : List ℕ) (e : check s ≡ accepted) (none-there : WithoutGosub (rule_count s) (rule_of s)) (at : ℕ → ℕ) where
  abbrev n : ℕ
  n = rule_count s

  abbrev Arrived : MachineState → Type 0
  Arrived t = Inv n (rule_of s) (declared_of s) t.number t.calls t.items

  -- no call is open
  no_calls : (h : ℕ) (calls : List ℕ) → Frames n (rule_of s) (declared_of s) h calls → calls ≡ []
  no_calls h calls main = refl
  no_calls h calls (sub {g = g} low high gosub deep frames) =
      absurd
      (gosub_opcode (action_of (rule_of s g).opcode) (rule_of s g).opcode (opcode_of (rule_of s g).opcode) gosub (none-there g low high).0
      (none-there g low high).1)

  -- the number of the present rule is above that of the rules come to before it
  abbrev Once : Outcome → Type 0
  Once (running t) = t.rules < t.number
  Once (ended a items rules) = rules ≤ n
  Once stuck = ⊥

  -- from a state to the next outcome
  once_step : (t : MachineState) → Arrived t → Once (running t) → (o : Outcome)
      → Good n (rule_of s) (declared_of s) (left n t.number t.calls) (t.rules + 1) o → Once o
  once_step t v h (running u) g =
      let f : left n u.number u.calls < left n t.number t.calls = g.1 in
      let w : left n u.number [] < left n t.number [] = rw (no_calls _ _ g.0.frames, no_calls _ _ v.frames) at f in
      omega (arith, left_less n t.number u.number w, g.2)
  once_step t v h (ended a items k) g = omega (arith, v.high, g.1)
  once_step t v h stuck g = g

  once : (k : ℕ) → Once (after n (rule_of s) at k)
  unfolding after advance
  once zero = omega arith
  once (suc k) = go (after n (rule_of s) at k) (reach s e at k) (once k)
    where
      go : (o : Outcome) → Reached n (rule_of s) (declared_of s) k o → Once o → Once (advance n (rule_of s) at o)
      go (running t) r h = once_step t r.0 h (step n (rule_of s) at t) (step_good n (rule_of s) (declared_of s) (all_sound s e at) (all_act s e at) at t r.0)
      go (ended a items c) r h = h
      go stuck r h = h

  within : (k : ℕ) (o : Outcome) → Reached n (rule_of s) (declared_of s) k o → WithinLimits (bound n) o → Once o → WithinLimits n o
  within k (running t) r w h = (w.0, w.1, omega (arith, h, r.0.high))
  within k (ended a items c) r w h = (w.0, h)
  within k stuck r w h = h

  ends_by_n : EndsAt n (rule_of s) at n
  ends_by_n = go (after n (rule_of s) at n) refl (reach s e at n) (once n)
    where
      go : (o : Outcome) → after n (rule_of s) at n ≡ o → Reached n (rule_of s) (declared_of s) n o → Once o → EndsAt n (rule_of s) at n
      go (running t) q r h = absurd (omega (arith, h, r.0.high, r.2))
      go (ended a items c) q r h = record { answer = a; items = items; rules = c; ended_so = q }
      go stuck q r h = absurd h

  -- a rule set of n rules without a Gosub comes to at most n rules
  pub each_once : MachineWithin n (rule_of s) at n
  each_once = record { always = λ k. within k (after n (rule_of s) at k) (reach s e at k) ((demand_3 s e at).always k) (once k); ends = ends_by_n }
