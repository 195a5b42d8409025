-- What the machine does at single rules. Assumes nothing.
use Prim.Native.Nat.{ℕ, ◌+◌, ◌<◌}
use mathlib.Core.Path.{◌≡◌, refl}
use mathlib.Core.List.{List, [], ◌∷◌}
use mathlib.Core.Bool.{Bool, true, false}
use borrow.Author.Tests.{eq-eqb, lt-ltb}
use Rattle.rules.specs.declared.Rule.{Rule}
use Rattle.rules.specs.declared.Item.{Item}
use Rattle.rules.specs.declared.Action.TheVariants.{Count, CountPkt, Return, PushRule, PushPkt}
use Rattle.rules.specs.Machine.{MachineState, Outcome, running, ended, stuck, passes, goes, act, fails}

-- a test of Null always succeeds, whatever its mask and value
pub null_passes : (r : Rule) (v : ℕ) → r.attribute ≡ 0 → passes r v ≡ true
unfolding passes
null_passes r v e = rw (eq-eqb r.attribute 0 e)

-- Return takes off the newest number, goes to that plus its own parameter and turns the indicator off
pub return_untested : (r : Rule) (v i g : ℕ) (calls : List ℕ) (items : List Item) (k : ℕ)
    → act Return r v i (g ∷ calls) items k ≡ goes (g + r.parameter) false calls items k
unfolding act
return_untested r v i g calls items k = refl

-- with no call open it is stuck
pub return_stuck : (r : Rule) (v i : ℕ) (items : List Item) (k : ℕ) → act Return r v i [] items k ≡ stuck
unfolding act
return_stuck r v i items k = refl

-- a failed test goes to the next rule, with the indicator on and the rule counted
pub fails_on : (n : ℕ) (s : MachineState) → s.number < n → fails n s ≡ goes (s.number + 1) true s.calls s.items (s.rules + 1)
unfolding fails
fails_on n s h = rw (lt-ltb s.number n h)

-- ---- what is queued

abbrev items_in : Outcome → List Item
items_in (running s) = s.items
items_in (ended a items k) = items
items_in stuck = []

-- Count queues as PushRuleTo, CountPkt as PushPktTo
pub count_queues : (t : Bool) (r : Rule) (v i : ℕ) (calls : List ℕ) (items : List Item) (k : ℕ)
    → items_in (act Count r v i calls items k) ≡ items_in (act (PushRule t) r v i calls items k)
unfolding act
count_queues t r v i calls items k = refl

pub countpkt_queues : (t : Bool) (r : Rule) (v i : ℕ) (calls : List ℕ) (items : List Item) (k : ℕ)
    → items_in (act CountPkt r v i calls items k) ≡ items_in (act (PushPkt t) r v i calls items k)
unfolding act
countpkt_queues t r v i calls items k = refl
