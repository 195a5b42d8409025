-- What a rule breaks, test by test, in the order of the refusals' numbers. Assumes nothing.
use Prim.Native.Nat.{ℕ}
use mathlib.Core.Path.{◌≡◌, refl, sym, ◌∙◌}
use mathlib.Core.List.{List}
use mathlib.Core.Bool.{Bool, true, false, ◌&&◌, ◌||◌}
use Rattle.std.specs.Prelude.{Ok, Err, is_err}
use Rattle.rules.specs.declared.RuleRecord.{RuleRecord}
use Rattle.rules.specs.declared.Action.{Action}
use Rattle.rules.specs.declared.Action.TheVariants.{Unknown, Ignore, NoMatch, Count, CountPkt, Return, Gosub, Goto, PushRule, PushPkt, PopTo}
use Rattle.rules.specs.declared.CheckRefusal.TheVariants.{Target, Successor}
use Rattle.rules.specs.Opcodes.{action_of, is_return}
use Rattle.rules.specs.Records.{rule_count, record_of, rule_of, declared_of}
use Rattle.rules.specs.Checks.{RuleCheck, fine, unless_broken, or_breaks, any_up_to, form_of, bad_queue, alone_of, returns_nowhere, next_differs, target_differs, return_differs, rest_of, rule_check}
use Rattle.rules.proofs.Tests.{true_false}
use Rattle.check_rules.proofs.Gosubs.{nowhere_from, otherwise_from}

-- what the record of rule i of n breaks by itself: 31 to 37, but for the Gosubs of a Return
abbrev pub by_record : ℕ → ℕ → RuleRecord → RuleCheck
by_record n i x = unless_broken (form_of x.mark x.rule.attribute x.rule.opcode) (alone_of n i x.rule x.declared)

pub no_error : (r : RuleCheck) → is_err r ≡ false → r ≡ fine
no_error (Ok t) e = refl
no_error (Err why) e = true_false e

else_joined : (a b c : RuleCheck) → unless_broken a (unless_broken b c) ≡ unless_broken (unless_broken a b) c
else_joined (Ok t) b c = refl
else_joined (Err why) b c = refl

return_queue : (a : Action) (held : ℕ) → is_return a ≡ true → bad_queue a held ≡ false
return_queue Return held e = refl
return_queue Unknown held e = refl
return_queue Ignore held e = refl
return_queue NoMatch held e = refl
return_queue Count held e = true_false (sym e)
return_queue CountPkt held e = true_false (sym e)
return_queue (Gosub t) held e = refl
return_queue (Goto t) held e = refl
return_queue (PushRule t) held e = true_false (sym e)
return_queue (PushPkt t) held e = true_false (sym e)
return_queue (PopTo t) held e = true_false (sym e)

or_true : (b : Bool) → b || true ≡ true
or_true true = refl
or_true false = refl

-- of a rule of n with this record
module _ (s : List ℕ) (n : ℕ) (x : RuleRecord) where
  -- a Return that comes back from each Gosub at some rule, and at one that declares the same; or no Return
  abbrev pub Kept : Type 0
  Kept =
      (returns_nowhere n (rule_of s) (declared_of s) x.rule x.declared ≡ false)
      × (return_differs n (rule_of s) (declared_of s) x.rule x.declared ≡ false)

  pub no_return : is_return (action_of x.rule.opcode) ≡ false → Kept
  unfolding returns_nowhere
  no_return f = (rw f refl, rw f refl)

  pub comes_back : any_up_to (nowhere_from s n x) n ≡ false → any_up_to (otherwise_from s n x) n ≡ false → Kept
  unfolding returns_nowhere
  comes_back f g = (go (is_return (action_of x.rule.opcode)) _ f, go (is_return (action_of x.rule.opcode)) _ g)
    where
      go : (b c : Bool) → c ≡ false → b && c ≡ false
      go true c h = h
      go false c h = refl

  -- of rule i
  module _ (i : ℕ) (count : n ≡ rule_count s) (e : x ≡ record_of s i) where
    parts : rule_check s i ≡ unless_broken (by_record n i x) (or_breaks (returns_nowhere n (rule_of s) (declared_of s) x.rule x.declared) Target (rest_of n (rule_of s) (declared_of s) i x.rule x.declared))
    unfolding rule_check
    parts = rw (count, e) (else_joined (form_of (record_of s i).mark (rule_of s i).attribute (rule_of s i).opcode) (alone_of (rule_count s) i (rule_of s i) (declared_of s i)) _)

    pub breaks_alone : (r : RuleCheck) → is_err r ≡ true → r ≡ by_record n i x → rule_check s i ≡ r
    breaks_alone (Ok t) e f = true_false (sym e)
    breaks_alone (Err why) e f = parts ∙ rw (sym f) refl

    pub goes_on : by_record n i x ≡ fine → returns_nowhere n (rule_of s) (declared_of s) x.rule x.declared ≡ false
        → rule_check s i ≡ rest_of n (rule_of s) (declared_of s) i x.rule x.declared
    goes_on f g = parts ∙ rw (f, g) refl

    pub breaks_target : by_record n i x ≡ fine → is_return (action_of x.rule.opcode) ≡ true → any_up_to (nowhere_from s n x) n ≡ true
        → rule_check s i ≡ Err Target
    unfolding returns_nowhere
    breaks_target f g h = parts ∙ rw (f, g, h) refl

    pub breaks_successor : by_record n i x ≡ fine → is_return (action_of x.rule.opcode) ≡ true → any_up_to (nowhere_from s n x) n ≡ false
        → any_up_to (otherwise_from s n x) n ≡ true → rule_check s i ≡ Err Successor
    unfolding returns_nowhere rest_of
    breaks_successor f g h k =
        goes_on f (rw (g, h) refl)
        ∙ rw (
          return_queue (action_of x.rule.opcode) x.declared.held g,
          g,
          k,
          or_true (next_differs n (rule_of s) (declared_of s) i x.rule x.declared || target_differs n (rule_of s) (declared_of s) x.rule x.declared),
        ) refl
