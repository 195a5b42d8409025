-- What the check says of a rule set that it accepts. Assumes nothing.
use Prim.Native.Nat.{ℕ, zero, suc, ◌*◌, ◌%◌, ◌≤◌}
use native.Mathlib.Omega.{arith}
use mathlib.Core.Path.{◌≡◌, refl, sym}
use mathlib.Core.List.{List}
use mathlib.Core.Bool.{Bool, true, false, not, cond, ◌||◌}
use lib.ListN.{length}
use lib.Dec.{ltb, leb, eqb}
use borrow.Author.Tests.{leb-true, leb-false, ltb-false, eqb-false, eqb-true, not-false, lt-ltb}
use Rattle.std.specs.Prelude.{Ok, Err}
use Rattle.rules.specs.declared.Action.TheVariants.{Unknown}
use Rattle.rules.specs.declared.CheckRefusal.{CheckRefusal}
use Rattle.rules.specs.Opcodes.{action_of}
use Rattle.rules.specs.Records.{rule_count, record_of, rule_of, declared_of}
use Rattle.rules.specs.Checks.{accepted, refused, fine, RuleCheck, CheckAnswer, form_of, known, bad_opcode, alone_of, returns_nowhere, rule_check, named, or_answer, first_broken, bad_length, check}
use Rattle.rules.proofs.Tests.{true_false, or_false, fine_either, fine_both}
use Rattle.rules.proofs.Opcodes.{every_opcode, opcode_for}
use Rattle.rules.proofs.Invariant.{Sound, sound}

-- ---- the first rule that breaks one

named_fine : (r : RuleCheck) (i : ℕ) → named r i ≡ accepted → r ≡ fine
named_fine (Ok x) i e = refl
named_fine (Err why) i e = cc

both_accepted : (v w : CheckAnswer) → or_answer v w ≡ accepted → (v ≡ accepted) × (w ≡ accepted)
both_accepted (Ok x) w e = (refl, e)
both_accepted (Err r) w e = cc

pub all_fine : (f : ℕ → RuleCheck) (n : ℕ) → first_broken f n ≡ accepted → (i : ℕ) → 1 ≤ i → i ≤ n → f i ≡ fine
unfolding first_broken
all_fine f zero e i l h = absurd (omega arith)
all_fine f (suc k) e i l h = go (leb i k) refl (λ m. all_fine f k (both_accepted _ _ e).0 i l m)
  where
    go : (b : Bool) → leb i k ≡ b → (i ≤ k → f i ≡ fine) → f i ≡ fine
    go true t rest = rest (leb-true _ _ t)
    go false t rest =
        let m : i ≡ suc k = omega (arith, leb-false i k t) in
        rw m (named_fine (f (suc k)) (suc k) (both_accepted (first_broken f k) (named (f (suc k)) (suc k)) e).1)

-- ---- an opcode of 1 to 17 has an action

abbrev acts : ℕ → Bool
acts op = ltb 17 op || eqb op 0 || not (eqb (opcode_for (action_of op)) 0)

has_action : (op : ℕ) → eqb op 0 ≡ false → ltb 17 op ≡ false → action_of op ≡ Unknown → ⊥
unfolding action_of
has_action op z h e =
    let t : acts op ≡ true = every_opcode acts refl refl (λ o l. rw (lt-ltb 17 o l)) op in
    true_false (sym (rw (z, h, e) at t))

-- ---- an accepted rule set

pub record AcceptedSet (s : List ℕ) : Type 0 where
  pub whole : length s ≡ 16 * rule_count s
  pub some_rule : 1 ≤ rule_count s
  pub few : rule_count s ≤ 255
  pub rules : (i : ℕ) → 1 ≤ i → i ≤ rule_count s → rule_check s i ≡ fine

accepts : (b : Bool) (why : CheckRefusal) (i : ℕ) (v : CheckAnswer) → cond b (refused why i) v ≡ accepted → (b ≡ false) × (v ≡ accepted)
accepts true why i v f = cc
accepts false why i v f = (refl, f)

pub accepted_set : (s : List ℕ) → check s ≡ accepted → AcceptedSet s
unfolding check
accepted_set s e =
    let a = accepts (bad_length (length s)) _ 0 (first_broken (rule_check s) (rule_count s)) e in
    let o = or_false (eqb (length s) 0 || not (eqb (length s % 16) 0)) (ltb 4080 (length s)) a.0 in
    let p = or_false (eqb (length s) 0) (not (eqb (length s % 16) 0)) o.0 in
    let z : (length s ≡ 0 → ⊥) = eqb-false (length s) 0 p.0 in
    let m : length s % 16 ≡ 0 = eqb-true (length s % 16) 0 (not-false _ p.1) in
    let l : length s ≤ 4080 = ltb-false 4080 (length s) o.1 in
    record { whole = omega arith; some_rule = omega arith; few = omega arith; rules = all_fine (rule_check s) (rule_count s) a.1 }

-- every rule is sound, and every opcode has an action
pub rule_sound : (s : List ℕ) (i : ℕ) → rule_check s i ≡ fine → Sound (rule_count s) (rule_of s) (declared_of s) i × (action_of (rule_of s i).opcode ≡ Unknown → ⊥)
unfolding rule_check form_of
rule_sound s i e =
    let u = fine_both (form_of (record_of s i).mark (rule_of s i).attribute (rule_of s i).opcode) _ e in
    let v = fine_both (alone_of (rule_count s) i (rule_of s i) (declared_of s i)) _ u.1 in
    let w = fine_either (returns_nowhere (rule_count s) (rule_of s) (declared_of s) (rule_of s i) (declared_of s i)) _ _ v.1 in
    let c = fine_either (not (eqb (record_of s i).mark 21109)) _ _ u.0 in
    let d = fine_either (not (known (rule_of s i).attribute)) _ _ c.1 in
    let f = fine_either (bad_opcode (rule_of s i).opcode) _ _ d.1 in
    let op : ℕ = (rule_of s i).opcode in
    let o = or_false (eqb op 0 || ltb 17 op || eqb op 8) (eqb op 9) f.0 in
    let p = or_false (eqb op 0 || ltb 17 op) (eqb op 8) o.0 in
    let q = or_false (eqb op 0) (ltb 17 op) p.0 in
    (sound (rule_count s) (rule_of s) (declared_of s) i v.0 w.0 w.1, has_action op q.0 q.1)
