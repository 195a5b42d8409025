-- Opcodes and their actions: laws over all of them at once. Assumes nothing.
use Prim.Native.Nat.{ℕ, zero, suc, ◌≤◌, ◌<◌}
use native.Mathlib.Omega.{arith}
use mathlib.Core.Path.{◌≡◌, refl, subst}
use mathlib.Core.Logic.{◌⊎◌, inl, inr}
use mathlib.Core.List.{List, [], ◌∷◌}
use mathlib.Core.Bool.{Bool, true, false, not, cond, ◌&&◌}
use lib.ListN.{get_or, get_or-eq_default}
use lib.Dec.{leb}
use borrow.Author.Tests.{not-false, leb-true, leb-false}
use Rattle.xdr.proofs.Tests.{and_parts}
use Rattle.rules.specs.declared.Action.{Action}
use Rattle.rules.specs.declared.Action.TheVariants.{Unknown, Ignore, NoMatch, Count, CountPkt, Return, Gosub, Goto, PushRule, PushPkt, PopTo}
use Rattle.rules.specs.Opcodes.{actions, action_of}
use Rattle.rules.specs.Checks.{any_up_to}
use Rattle.rules.proofs.Tests.{some_false}

-- ---- every opcode

-- a test that holds of 0, of 1 to 17 as they are computed, and of what lies beyond, holds of every opcode
pub every_opcode : (p : ℕ → Bool) → p 0 ≡ true → any_up_to (λ o. not (p o)) 17 ≡ false → ((o : ℕ) → 17 < o → p o ≡ true) → (o : ℕ) → p o ≡ true
every_opcode p z e f o = go (leb o 17) refl
  where
    here : (x : ℕ) → x ≤ 17 → p x ≡ true
    here zero h = z
    here (suc k) h = not-false _ (some_false (λ x. not (p x)) 17 e (suc k) (omega arith) h)

    go : (b : Bool) → leb o 17 ≡ b → p o ≡ true
    go true t = here o (leb-true _ _ t)
    go false t = f o (leb-false _ _ t)

-- an opcode beyond 17 has no action
pub no_action : (o : ℕ) → 17 < o → action_of o ≡ Unknown
unfolding action_of
no_action o h = get_or-eq_default actions Unknown h

-- ---- every action

-- an opcode of each action
abbrev pub opcode_for : Action → ℕ
opcode_for Unknown = 0
opcode_for Ignore = 1
opcode_for NoMatch = 2
opcode_for Count = 3
opcode_for CountPkt = 4
opcode_for Return = 5
opcode_for (Gosub t) = cond t 6 7
opcode_for (Goto t) = cond t 10 11
opcode_for (PushRule t) = cond t 12 13
opcode_for (PushPkt t) = cond t 14 15
opcode_for (PopTo t) = cond t 16 17

pub action_back : (a : Action) → action_of (opcode_for a) ≡ a
unfolding action_of
action_back Unknown = refl
action_back Ignore = refl
action_back NoMatch = refl
action_back Count = refl
action_back CountPkt = refl
action_back Return = refl
action_back (Gosub true) = refl
action_back (Gosub false) = refl
action_back (Goto true) = refl
action_back (Goto false) = refl
action_back (PushRule true) = refl
action_back (PushRule false) = refl
action_back (PushPkt true) = refl
action_back (PushPkt false) = refl
action_back (PopTo true) = refl
action_back (PopTo false) = refl

abbrev pub all : (Action → Bool) → List Action → Bool
all p [] = true
all p (a ∷ l) = p a && all p l

all_at : (p : Action → Bool) (l : List Action) → all p l ≡ true → p Unknown ≡ true → (i : ℕ) → p (get_or l i Unknown) ≡ true
all_at p [] e u i = u
all_at p (a ∷ l) e u zero = (and_parts (p a) (all p l) e).0
all_at p (a ∷ l) e u (suc i) = all_at p l (and_parts (p a) (all p l) e).1 u i

-- a test that holds of the opcodes' actions, as they are computed, holds of every action
pub every_action : (p : Action → Bool) → all p actions ≡ true → (a : Action) → p a ≡ true
unfolding action_of
every_action p e a = subst (λ (x : Action). p x ≡ true) (action_back a) (all_at p actions e (and_parts (p Unknown) _ e).0 (opcode_for a))

-- ---- one opcode

-- the opcodes of the actions that end, and of a Gosub
abbrev pub OpcodeOf : Action → ℕ → Type 0
OpcodeOf Unknown op = Unit {0}
OpcodeOf Ignore op = op ≡ 1
OpcodeOf NoMatch op = op ≡ 2
OpcodeOf Count op = op ≡ 3
OpcodeOf CountPkt op = op ≡ 4
OpcodeOf Return op = Unit {0}
OpcodeOf (Gosub t) op = (op ≡ 6) ⊎ (op ≡ 7)
OpcodeOf (Goto t) op = Unit {0}
OpcodeOf (PushRule t) op = Unit {0}
OpcodeOf (PushPkt t) op = Unit {0}
OpcodeOf (PopTo t) op = Unit {0}

pub opcode_of : (op : ℕ) → OpcodeOf (action_of op) op
unfolding action_of
opcode_of zero = tt
opcode_of (suc zero) = refl
opcode_of (suc (suc zero)) = refl
opcode_of (suc (suc (suc zero))) = refl
opcode_of (suc (suc (suc (suc zero)))) = refl
opcode_of (suc (suc (suc (suc (suc zero))))) = tt
opcode_of (suc (suc (suc (suc (suc (suc zero)))))) = inl refl
opcode_of (suc (suc (suc (suc (suc (suc (suc zero))))))) = inr refl
opcode_of (suc (suc (suc (suc (suc (suc (suc (suc zero)))))))) = tt
opcode_of (suc (suc (suc (suc (suc (suc (suc (suc (suc zero))))))))) = tt
opcode_of (suc (suc (suc (suc (suc (suc (suc (suc (suc (suc zero)))))))))) = tt
opcode_of (suc (suc (suc (suc (suc (suc (suc (suc (suc (suc (suc zero))))))))))) = tt
opcode_of (suc (suc (suc (suc (suc (suc (suc (suc (suc (suc (suc (suc zero)))))))))))) = tt
opcode_of (suc (suc (suc (suc (suc (suc (suc (suc (suc (suc (suc (suc (suc zero))))))))))))) = tt
opcode_of (suc (suc (suc (suc (suc (suc (suc (suc (suc (suc (suc (suc (suc (suc zero)))))))))))))) = tt
opcode_of (suc (suc (suc (suc (suc (suc (suc (suc (suc (suc (suc (suc (suc (suc (suc zero))))))))))))))) = tt
opcode_of (suc (suc (suc (suc (suc (suc (suc (suc (suc (suc (suc (suc (suc (suc (suc (suc zero)))))))))))))))) = tt
opcode_of (suc (suc (suc (suc (suc (suc (suc (suc (suc (suc (suc (suc (suc (suc (suc (suc (suc zero))))))))))))))))) = tt
opcode_of (suc (suc (suc (suc (suc (suc (suc (suc (suc (suc (suc (suc (suc (suc (suc (suc (suc (suc k)))))))))))))))))) = tt
