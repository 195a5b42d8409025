-- The flag rule against document 01's table of flags, the flags of the actions, and what the machine makes of them. Assumes nothing.
use Prim.Native.Nat.{ℕ, ◌%◌, ◌≤◌, ◌<◌}
use native.Mathlib.Omega.{arith}
use mathlib.Core.Path.{◌≡◌, refl, ap, sym, ◌∙◌}
use mathlib.Core.List.{List, [], ◌∷◌}
use mathlib.Core.Bool.{Bool, true, false, not, ◌&&◌, ◌||◌, beq}
use lib.Dec.{eqb, ltb, leb}
use borrow.Author.Tests.{not-false, eqb-true, ne_eqb, leb-true, leb-false, le-leb, lt-leb, lt-ltb}
use Rattle.xdr.proofs.Tests.{and_parts}
use Rattle.rules.specs.declared.Rule.{Rule}
use Rattle.rules.specs.declared.Item.{Item}
use Rattle.rules.specs.declared.Action.{Action}
use Rattle.rules.specs.declared.Action.TheVariants.{Unknown, Ignore, NoMatch, Count, CountPkt, Return, Gosub, Goto, PushRule, PushPkt, PopTo}
use Rattle.rules.specs.Opcodes.{action_of, goto_flag, test_flag, TestFlag, sets, ends, Flags, flagged, flags, flags_in, flags_of, FlagRule}
use Rattle.rules.specs.Machine.{comes_back, drops, act}
use Rattle.rules.specs.Checks.{any_up_to}
use Rattle.rules.specs.Demand.{ByFlags}
use Rattle.rules.proofs.Tests.{true_false, some_false}
use Rattle.rules.proofs.Opcodes.{every_opcode, no_action, opcode_for, action_back}

-- ---- flags that are the same

same_bool : (a b : Bool) → beq a b ≡ true → a ≡ b
same_bool true true e = refl
same_bool true false e = sym e
same_bool false true e = e
same_bool false false e = refl

abbrev same : TestFlag → TestFlag → Bool
same (sets a) (sets b) = beq a b
same (sets a) ends = false
same ends (sets b) = false
same ends ends = true

same_flag : (f g : TestFlag) → same f g ≡ true → f ≡ g
same_flag (sets a) (sets b) e = rw (same_bool a b e)
same_flag (sets a) ends e = true_false (sym e)
same_flag ends (sets b) e = true_false (sym e)
same_flag ends ends e = refl

-- ---- opcodes that are not in the table

abbrev up_to : ℕ → List Flags → Bool
up_to n [] = true
up_to n (f ∷ l) = leb f.opcode n && up_to n l

not_in : (n : ℕ) (l : List Flags) → up_to n l ≡ true → (o : ℕ) → n < o → flags_in l o ≡ flagged o false ends
not_in n [] e o h = refl
not_in n (f ∷ l) e o h =
    let t = and_parts (leb f.opcode n) (up_to n l) e in
    let d : (f.opcode ≡ o → ⊥) = λ q. omega (arith, leb-true f.opcode n t.0) in
    rw (ne_eqb f.opcode o d) (not_in n l t.1 o h)

no_flags : (o : ℕ) → 17 < o → flags_of o ≡ flagged o false ends
unfolding flags_of
no_flags o h = not_in 17 flags refl o h

-- ---- the flag rule

abbrev keeps_rule : ℕ → Bool
keeps_rule o = not (leb 6 o && leb o 17) || ((flags_of o).goto && same (flags_of o).test (sets (eqb (o % 2) 0)))

rule_kept : (o : ℕ) → keeps_rule o ≡ true
unfolding flags_of
rule_kept = every_opcode keeps_rule refl refl (λ o h. rw (lt-leb o 17 h, le-leb 6 o (omega arith)))

-- from opcode 6 up the goto flag is always set, and the test flag is on exactly for even numbers
pub flag_rule : FlagRule
flag_rule o l h =
    let k : (flags_of o).goto && same (flags_of o).test (sets (eqb (o % 2) 0)) ≡ true = rw (le-leb 6 o l, le-leb o 17 h) at (rule_kept o) in
    let t = and_parts _ _ k in
    (t.0, same_flag _ _ t.1)

abbrev goto_from6 : ℕ → Bool
goto_from6 o = beq (flags_of o).goto (leb 6 o && leb o 17)

-- and no other opcode has a goto flag
pub goto_exactly : (o : ℕ) → (flags_of o).goto ≡ leb 6 o && leb o 17
unfolding flags_of
goto_exactly o = same_bool _ _ (every_opcode goto_from6 refl refl (λ x h. rw (no_flags x h, lt-leb x 17 h, le-leb 6 x (omega arith))) o)

-- an opcode whose goto flag is set is one of 6 to 17
pub goto_between : (o : ℕ) → (flags_of o).goto ≡ true → (6 ≤ o) × (o ≤ 17)
goto_between o e =
    let t = and_parts (leb 6 o) (leb o 17) (sym (goto_exactly o) ∙ e) in
    (leb-true 6 o t.0, leb-true o 17 t.1)

-- ---- the actions have these flags

abbrev has_flags : ℕ → Bool
has_flags o = beq (goto_flag (action_of o)) (flags_of o).goto && same (test_flag (action_of o)) (flags_of o).test

pub actions_flagged : (o : ℕ) → (goto_flag (action_of o) ≡ (flags_of o).goto) × (test_flag (action_of o) ≡ (flags_of o).test)
unfolding action_of flags_of
actions_flagged o =
    let t = and_parts _ _ (every_opcode has_flags refl refl (λ x h. rw (no_flags x h, no_action x h)) o) in
    (same_bool _ _ t.0, same_flag _ _ t.1)

-- ---- actions by their flags

abbrev is_on : TestFlag → Bool
is_on (sets t) = t
is_on ends = false

-- opcodes from one up to before another have an action with their test flag
abbrev has_action : (Bool → Action) → ℕ → ℕ → ℕ → Bool
has_action action first next o = not (leb first o && ltb o next) || eqb (opcode_for (action (is_on (flags_of o).test))) (opcode_for (action_of o))

pub with_flag : (action : Bool → Action) (first next : ℕ) → any_up_to (λ o. not (has_action action first next o)) 17 ≡ false
    → (o : ℕ) → (flags_of o).goto ≡ true → first ≤ o → o < next → (t : Bool) → (flags_of o).test ≡ sets t → action t ≡ action_of o
with_flag action first next e o g f n t s =
    let b = goto_between o g in
    let k : eqb (opcode_for (action t)) (opcode_for (action_of o)) ≡ true =
    rw (le-leb first o f, lt-ltb o next n, s)
    at (not-false (has_action action first next o) (some_false (λ x. not (has_action action first next x)) 17 e o (omega (arith, b.0)) b.1)) in
    sym (action_back (action t)) ∙ ap action_of (eqb-true _ _ k) ∙ action_back (action_of o)

-- an opcode that has no goto flag and is none of 1 to 5
pub unknown : (o : ℕ) → (flags_of o).goto ≡ false → (o ≡ 1 → ⊥) → (o ≡ 2 → ⊥) → (o ≡ 3 → ⊥) → (o ≡ 4 → ⊥) → (o ≡ 5 → ⊥) → action_of o ≡ Unknown
unfolding action_of
unknown o g h1 h2 h3 h4 h5 = go (leb o 17) (leb 6 o) refl refl (sym (goto_exactly o) ∙ g)
  where
    go : (b c : Bool) → leb o 17 ≡ b → leb 6 o ≡ c → c && b ≡ false → action_of o ≡ Unknown
    go false c t u e = no_action o (leb-false _ _ t)
    go true true t u e = true_false e
    go true false t u e = let z : o ≡ 0 = omega (arith, leb-false 6 o u) in rw z

-- ---- and the machine goes by them

back_by_flags : (calls : List ℕ) (p : ℕ) (items : List Item) (k : ℕ) → ByFlags false (sets false) p (comes_back calls p items k)
back_by_flags [] p items k = tt
back_by_flags (g ∷ calls) p items k = (refl, λ e. true_false (sym e))

drop_by_flags : (t : Bool) (calls : List ℕ) (p : ℕ) (items : List Item) (k : ℕ) → ByFlags true (sets t) p (drops p t calls items k)
drop_by_flags t calls p [] k = tt
drop_by_flags t calls p (x ∷ items) k = (refl, λ e. refl)

action_by_flags : (a : Action) (r : Rule) (v i : ℕ) (calls : List ℕ) (items : List Item) (k : ℕ)
    → ByFlags (goto_flag a) (test_flag a) r.parameter (act a r v i calls items k)
unfolding act
action_by_flags Unknown r v i calls items k = tt
action_by_flags Ignore r v i calls items k = refl
action_by_flags NoMatch r v i calls items k = refl
action_by_flags Count r v i calls items k = refl
action_by_flags CountPkt r v i calls items k = refl
action_by_flags Return r v i calls items k = back_by_flags calls r.parameter items k
action_by_flags (Gosub t) r v i calls items k = (refl, λ e. refl)
action_by_flags (Goto t) r v i calls items k = (refl, λ e. refl)
action_by_flags (PushRule t) r v i calls items k = (refl, λ e. refl)
action_by_flags (PushPkt t) r v i calls items k = (refl, λ e. refl)
action_by_flags (PopTo t) r v i calls items k = drop_by_flags t calls r.parameter items k

-- the action of every opcode sets the indicator and goes on, or ends, as the table says
pub acts_by_flags : (o : ℕ) (r : Rule) (v i : ℕ) (calls : List ℕ) (items : List Item) (k : ℕ)
    → ByFlags (flags_of o).goto (flags_of o).test r.parameter (act (action_of o) r v i calls items k)
acts_by_flags o r v i calls items k = rw ((actions_flagged o).0, (actions_flagged o).1) at (action_by_flags (action_of o) r v i calls items k)
