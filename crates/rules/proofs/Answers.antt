-- The machine ends with the answer whose number is the opcode of the rule that ends it, or with NoMatch where the last rule's test fails. Assumes nothing.
use Prim.Native.Nat.{ℕ, zero, suc, ◌+◌}
use native.Mathlib.Omega.{arith}
use mathlib.Core.Path.{◌≡◌, refl, ap, sym, ◌∙◌, subst}
use mathlib.Core.Logic.{◌⊎◌, inl, inr, ⊎_elim, ◌↔◌}
use mathlib.Core.List.{List, [], ◌∷◌}
use mathlib.Core.Bool.{Bool, true, false, cond}
use lib.Dec.{ltb, leb}
use borrow.Author.Tests.{ltb-false, leb-true, le-ltb}
use Rattle.xdr.proofs.Tests.{and_parts}
use Rattle.rules.specs.declared.Rule.{Rule}
use Rattle.rules.specs.declared.Item.{Item}
use Rattle.rules.specs.declared.Action.{Action}
use Rattle.rules.specs.declared.Action.TheVariants.{Unknown, Ignore, NoMatch, Count, CountPkt, Return, Gosub, Goto, PushRule, PushPkt, PopTo}
use Rattle.rules.specs.declared.MachineAnswer.{MachineAnswer}
use Rattle.rules.specs.declared.MachineAnswer.TheVariants as Answer
use Rattle.rules.specs.Opcodes.{action_of, machine_number}
use Rattle.rules.specs.Records.{has_rule}
use Rattle.rules.specs.Machine.{MachineState, Outcome, running, ended, stuck, comes_back, drops, goes, act, test_fails, fails, step, advance, after}
use Rattle.rules.specs.Demand.{EndedWith, EndsHere, EndsSomewhere}
use Rattle.rules.proofs.Opcodes.{OpcodeOf, opcode_of}

-- ---- the answer in an outcome

abbrev number_in : Outcome → ℕ
number_in (running s) = 0
number_in (ended a items k) = machine_number a
number_in stuck = 0

abbrev answer_in : Outcome → MachineAnswer
answer_in (running s) = Answer.NoMatch
answer_in (ended a items k) = a
answer_in stuck = Answer.NoMatch

not_zero : (a : MachineAnswer) → 0 ≡ machine_number a → ⊥
not_zero Answer.Ignore e = omega arith
not_zero Answer.NoMatch e = omega arith
not_zero Answer.Count e = omega arith
not_zero Answer.CountPkt e = omega arith

-- ---- actions

back_number : (calls : List ℕ) (p : ℕ) (items : List Item) (k : ℕ) → number_in (comes_back calls p items k) ≡ 0
back_number [] p items k = refl
back_number (g ∷ calls) p items k = refl

drop_number : (to : ℕ) (t : Bool) (calls : List ℕ) (items : List Item) (k : ℕ) → number_in (drops to t calls items k) ≡ 0
drop_number to t calls [] k = refl
drop_number to t calls (x ∷ items) k = refl

-- an action does not end, or it ends with its opcode's number
act_number : (a : Action) (op : ℕ) → OpcodeOf a op → (r : Rule) (v i : ℕ) (calls : List ℕ) (items : List Item) (k : ℕ)
    → (number_in (act a r v i calls items k) ≡ op) ⊎ (number_in (act a r v i calls items k) ≡ 0)
unfolding act
act_number Unknown op o r v i calls items k = inr refl
act_number Ignore op o r v i calls items k = inl (sym o)
act_number NoMatch op o r v i calls items k = inl (sym o)
act_number Count op o r v i calls items k = inl (sym o)
act_number CountPkt op o r v i calls items k = inl (sym o)
act_number Return op o r v i calls items k = inr (back_number calls r.parameter items k)
act_number (Gosub t) op o r v i calls items k = inr refl
act_number (Goto t) op o r v i calls items k = inr refl
act_number (PushRule t) op o r v i calls items k = inr refl
act_number (PushPkt t) op o r v i calls items k = inr refl
act_number (PopTo t) op o r v i calls items k = inr (drop_number r.parameter t calls items k)

-- the opcode with an answer's number ends with it
act_ends : (a : MachineAnswer) (r : Rule) (v i : ℕ) (calls : List ℕ) (items : List Item) (k : ℕ) → EndedWith (act (action_of (machine_number a)) r v i calls items k) a
unfolding act action_of
act_ends Answer.Ignore r v i calls items k = record { items = _; rules = _; ended_so = refl }
act_ends Answer.NoMatch r v i calls items k = record { items = _; rules = _; ended_so = refl }
act_ends Answer.Count r v i calls items k = record { items = _; rules = _; ended_so = refl }
act_ends Answer.CountPkt r v i calls items k = record { items = _; rules = _; ended_so = refl }

-- ---- one step

module _ (n : ℕ) (rule : ℕ → Rule) (at : ℕ → ℕ) (s : MachineState) (a : MachineAnswer) where
  abbrev op : ℕ
  op = (rule s.number).opcode

  abbrev acts : ℕ → Outcome
  acts o = act (action_of o) (rule s.number) (at (rule s.number).attribute) s.number s.calls s.items (s.rules + 1)

  -- what a failed test ends in
  failed_last : has_rule n s.number ≡ true → (items : List Item) (k : ℕ) → fails n s ≡ ended a items k → (s.number ≡ n) × (a ≡ Answer.NoMatch)
  unfolding fails
  failed_last h items k = go (ltb s.number n) refl
    where
      go : (b : Bool) → ltb s.number n ≡ b
          → cond b (goes (s.number + 1) true s.calls s.items (s.rules + 1)) (ended Answer.NoMatch [] (s.rules + 1)) ≡ ended a items k
          → (s.number ≡ n) × (a ≡ Answer.NoMatch)
      go true t e = absurd (not_zero a (ap number_in e))
      go false t e = (omega (arith, ltb-false s.number n t, leb-true s.number n (and_parts (leb 1 s.number) (leb s.number n) h).1), sym (ap answer_in e))

  here : EndedWith (step n rule at s) a → EndsHere n rule at s a
  unfolding step
  here w = go (has_rule n s.number) (test_fails rule at s) refl refl w.ended_so
    where
      go : (b c : Bool) → has_rule n s.number ≡ b → test_fails rule at s ≡ c → cond b (cond c (fails n s) (acts op)) stuck ≡ ended a w.items w.rules
          → EndsHere n rule at s a
      go false c h t e = absurd (not_zero a (ap number_in e))
      go true true h t e = record { there = h; so = let l = failed_last h w.items w.rules e in inr (t, l.0, l.1) }
      go true false h t e =
          ⊎_elim (λ (o : number_in (acts op) ≡ op). record { there = h; so = inl (t, sym o ∙ ap number_in e) })
          (λ (z : number_in (acts op) ≡ 0). absurd (not_zero a (sym z ∙ ap number_in e)))
          (act_number (action_of op) op (opcode_of op) (rule s.number) (at (rule s.number).attribute) s.number s.calls s.items (s.rules + 1))

  from_here : EndsHere n rule at s a → EndedWith (step n rule at s) a
  unfolding step fails
  from_here w = go w.so
    where
      go : ((test_fails rule at s ≡ false) × (op ≡ machine_number a)) ⊎ ((test_fails rule at s ≡ true) × (s.number ≡ n) × (a ≡ Answer.NoMatch))
          → EndedWith (step n rule at s) a
      go (inl (t, o)) =
          let x : EndedWith (acts op) a =
          subst (λ (p : ℕ). EndedWith (acts p) a) (sym o)
          (act_ends a (rule s.number) (at (rule s.number).attribute) s.number s.calls s.items (s.rules + 1)) in
          record { items = x.items; rules = x.rules; ended_so = rw (w.there, t) x.ended_so }
      go (inr (t, l, m)) =
          let g : ltb s.number n ≡ false = le-ltb s.number n (omega (arith, l)) in
          record { items = []; rules = s.rules + 1; ended_so = rw (w.there, t, g, m) refl }

  -- a step ends with an answer exactly where the rule come to says so
  pub ends_exactly : EndedWith (step n rule at s) a ↔ EndsHere n rule at s a
  ends_exactly = (here, from_here)

-- ---- the machine

-- whatever it ends with, it has come to a rule that says so
pub ends_somewhere : (n : ℕ) (rule : ℕ → Rule) (at : ℕ → ℕ) (k : ℕ) (a : MachineAnswer) → EndedWith (after n rule at k) a → EndsSomewhere n rule at a
unfolding after advance
ends_somewhere n rule at zero a w = absurd (not_zero a (ap number_in w.ended_so))
ends_somewhere n rule at (suc k) a w = go (after n rule at k) refl w (ends_somewhere n rule at k a)
  where
    go : (o : Outcome) → after n rule at k ≡ o → EndedWith (advance n rule at o) a → (EndedWith (after n rule at k) a → EndsSomewhere n rule at a) → EndsSomewhere n rule at a
    go (running s) e x again = record { steps = k; state = s; came = e; here = here n rule at s a x }
    go (ended b items c) e x again = again (record { items = x.items; rules = x.rules; ended_so = e ∙ x.ended_so })
    go stuck e x again = absurd (not_zero a (ap number_in x.ended_so))

-- ---- Ignore and NoMatch end with an empty queue

abbrev Emptied : Outcome → Type 0
Emptied (running s) = Unit {0}
Emptied (ended Answer.Ignore items k) = items ≡ []
Emptied (ended Answer.NoMatch items k) = items ≡ []
Emptied (ended Answer.Count items k) = Unit {0}
Emptied (ended Answer.CountPkt items k) = Unit {0}
Emptied stuck = Unit {0}

back_emptied : (calls : List ℕ) (p : ℕ) (items : List Item) (k : ℕ) → Emptied (comes_back calls p items k)
back_emptied [] p items k = tt
back_emptied (g ∷ calls) p items k = tt

drop_emptied : (to : ℕ) (t : Bool) (calls : List ℕ) (items : List Item) (k : ℕ) → Emptied (drops to t calls items k)
drop_emptied to t calls [] k = tt
drop_emptied to t calls (x ∷ items) k = tt

act_emptied : (a : Action) (r : Rule) (v i : ℕ) (calls : List ℕ) (items : List Item) (k : ℕ) → Emptied (act a r v i calls items k)
unfolding act
act_emptied Unknown r v i calls items k = tt
act_emptied Ignore r v i calls items k = refl
act_emptied NoMatch r v i calls items k = refl
act_emptied Count r v i calls items k = tt
act_emptied CountPkt r v i calls items k = tt
act_emptied Return r v i calls items k = back_emptied calls r.parameter items k
act_emptied (Gosub t) r v i calls items k = tt
act_emptied (Goto t) r v i calls items k = tt
act_emptied (PushRule t) r v i calls items k = tt
act_emptied (PushPkt t) r v i calls items k = tt
act_emptied (PopTo t) r v i calls items k = drop_emptied r.parameter t calls items k

either : (b : Bool) (x y : Outcome) → Emptied x → Emptied y → Emptied (cond b x y)
either true x y p q = p
either false x y p q = q

step_emptied : (n : ℕ) (rule : ℕ → Rule) (at : ℕ → ℕ) (s : MachineState) → Emptied (step n rule at s)
unfolding step fails
step_emptied n rule at s =
    either (has_rule n s.number) _ _
    (either (test_fails rule at s) _ _
    (either (ltb s.number n) (goes (s.number + 1) true s.calls s.items (s.rules + 1)) (ended Answer.NoMatch [] (s.rules + 1)) tt refl)
    (act_emptied (action_of (rule s.number).opcode) (rule s.number) (at (rule s.number).attribute) s.number s.calls s.items (s.rules + 1)))
    tt

after_emptied : (n : ℕ) (rule : ℕ → Rule) (at : ℕ → ℕ) (k : ℕ) → Emptied (after n rule at k)
unfolding after advance
after_emptied n rule at zero = tt
after_emptied n rule at (suc k) = go (after n rule at k) (after_emptied n rule at k)
  where
    go : (o : Outcome) → Emptied o → Emptied (advance n rule at o)
    go (running s) h = step_emptied n rule at s
    go (ended a items c) h = h
    go stuck h = tt

pub no_items : (n : ℕ) (rule : ℕ → Rule) (at : ℕ → ℕ) (k : ℕ) (a : MachineAnswer) (items : List Item) (c : ℕ) → after n rule at k ≡ ended a items c
    → (a ≡ Answer.Ignore) ⊎ (a ≡ Answer.NoMatch) → items ≡ []
no_items n rule at k a items c e w = go w (subst Emptied e (after_emptied n rule at k))
  where
    go : (a ≡ Answer.Ignore) ⊎ (a ≡ Answer.NoMatch) → Emptied (ended a items c) → items ≡ []
    go (inl i) h = subst (λ (b : MachineAnswer). Emptied (ended b items c)) i h
    go (inr m) h = subst (λ (b : MachineAnswer). Emptied (ended b items c)) m h
