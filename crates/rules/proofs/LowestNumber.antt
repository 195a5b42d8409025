-- Of what a rule breaks the check tells the lowest number. Assumes nothing.
use Prim.Native.Nat.{ℕ, ◌<◌}
use native.Mathlib.Omega.{arith}
use mathlib.Core.Path.{◌≡◌, refl, sym, ap, ◌∙◌}
use mathlib.Core.Logic.{◌⊎◌, inl, inr, ◌↔◌}
use mathlib.Core.List.{List, [], ◌∷◌}
use mathlib.Core.Bool.{Bool, true, false, true≢false, ◌||◌}
use Rattle.std.specs.Prelude.{Ok, Err}
use Rattle.rules.specs.declared.CheckRefusal.{CheckRefusal}
use Rattle.rules.specs.declared.CheckRefusal.TheVariants.{Length, Mark, Attribute, Opcode, Limits, FirstRule, ReturnInMain, Target, Queue, Successor}
use Rattle.rules.specs.Opcodes.{action_of}
use Rattle.rules.specs.Records.{rule_count, rule_of, declared_of}
use Rattle.rules.specs.Checks.{fine, RuleCheck, check_number, or_breaks, unless_broken, form_of, bad_target, alone_of, returns_nowhere, rest_of, rule_check, breaks, BreaksNone, LowestBroken}

-- ---- tests one behind the other

-- the first of some refusals whose test says so
first_of : (CheckRefusal → Bool) → List CheckRefusal → RuleCheck
first_of t [] = fine
first_of t (w ∷ ws) = or_breaks (t w) w (first_of t ws)

abbrev Member : CheckRefusal → List CheckRefusal → Type 0
Member w [] = ⊥
Member w (x ∷ xs) = (w ≡ x) ⊎ Member w xs

-- their numbers increase, from above this one on
abbrev Increasing : ℕ → List CheckRefusal → Type 0
Increasing n [] = Unit {0}
Increasing n (x ∷ xs) = (n < check_number x) × Increasing (check_number x) xs

above : (n : ℕ) (xs : List CheckRefusal) → Increasing n xs → (w : CheckRefusal) → Member w xs → n < check_number w
above n [] i w m = absurd m
above n (x ∷ xs) i w (inl e) = rw e i.0
above n (x ∷ xs) i w (inr m) = omega (arith, i.0, above (check_number x) xs i.1 w m)

why_in : RuleCheck → CheckRefusal
why_in (Ok x) = Length
why_in (Err why) = why

module _ (t : CheckRefusal → Bool) where
  first_broken_is : (ws : List CheckRefusal) (why : CheckRefusal) → first_of t ws ≡ Err why → t why ≡ true
  unfolding first_of why_in
  first_broken_is [] why e = cc
  first_broken_is (x ∷ xs) why e = go (t x) refl e (first_broken_is xs why)
    where
      go : (b : Bool) → t x ≡ b → or_breaks b x (first_of t xs) ≡ Err why → (first_of t xs ≡ Err why → t why ≡ true) → t why ≡ true
      go true f h again = ap t (sym (ap why_in h)) ∙ f
      go false f h again = again h

  none_before : (n : ℕ) (ws : List CheckRefusal) → Increasing n ws → (why : CheckRefusal) → first_of t ws ≡ Err why
      → (w : CheckRefusal) → Member w ws → check_number w < check_number why → t w ≡ false
  unfolding first_of why_in
  none_before n [] i why e w m l = absurd m
  none_before n (x ∷ xs) i why e w m l = go (t x) refl e m (none_before (check_number x) xs i.1 why)
    where
      go : (b : Bool) → t x ≡ b → or_breaks b x (first_of t xs) ≡ Err why → (w ≡ x) ⊎ Member w xs
          → (first_of t xs ≡ Err why → (w : CheckRefusal) → Member w xs → check_number w < check_number why → t w ≡ false) → t w ≡ false
      go true f h (inl p) again = let q : x ≡ why = ap why_in h in let z : check_number w ≡ check_number why = ap check_number (p ∙ q) in absurd (omega (arith, l, z))
      go true f h (inr p) again =
          let q : x ≡ why = ap why_in h in
          let z : check_number x ≡ check_number why = ap check_number q in
          let k = above (check_number x) xs i.1 w p in
          absurd (omega (arith, l, z, k))
      go false f h (inl p) again = ap t p ∙ f
      go false f h (inr p) again = again h w p l

  first_is : (n : ℕ) (ws : List CheckRefusal) → Increasing n ws → (why : CheckRefusal) → Member why ws → t why ≡ true
      → ((w : CheckRefusal) → check_number w < check_number why → t w ≡ false) → first_of t ws ≡ Err why
  unfolding first_of
  first_is n [] i why m b l = absurd m
  first_is n (x ∷ xs) i why (inl e) b l = let f : t x ≡ true = ap t (sym e) ∙ b in rw (f, e)
  first_is n (x ∷ xs) i why (inr m) b l =
      let f : t x ≡ false = l x (above (check_number x) xs i.1 why m) in
      let again : first_of t xs ≡ Err why = first_is (check_number x) xs i.1 why m b l in
      rw (f, again)

  first_fine : (ws : List CheckRefusal) → first_of t ws ≡ fine → (w : CheckRefusal) → Member w ws → t w ≡ false
  unfolding first_of
  first_fine [] e w m = absurd m
  first_fine (x ∷ xs) e w m = go (t x) refl e m λ h. first_fine xs h w
    where
      go : (b : Bool) → t x ≡ b → or_breaks b x (first_of t xs) ≡ fine → (w ≡ x) ⊎ Member w xs → (first_of t xs ≡ fine → Member w xs → t w ≡ false)
          → t w ≡ false
      go true f h p again = cc
      go false f h (inl p) again = ap t p ∙ f
      go false f h (inr p) again = again h p

  fine_is : (ws : List CheckRefusal) → ((w : CheckRefusal) → t w ≡ false) → first_of t ws ≡ fine
  unfolding first_of
  fine_is [] h = refl
  fine_is (x ∷ xs) h = let f = h x in let again : first_of t xs ≡ fine = fine_is xs h in rw (f, again)

-- ---- the tests of a rule, from 31 up

abbrev order : List CheckRefusal
order = Mark ∷ Attribute ∷ Opcode ∷ Limits ∷ FirstRule ∷ ReturnInMain ∷ Target ∷ Queue ∷ Successor ∷ []

increasing : Increasing 30 order
increasing = (omega arith, (omega arith, (omega arith, (omega arith, (omega arith, (omega arith, (omega arith, (omega arith, (omega arith, tt)))))))))

member : (w : CheckRefusal) → (w ≡ Length) ⊎ Member w order
member Length = inl refl
member Mark = inr (inl refl)
member Attribute = inr (inr (inl refl))
member Opcode = inr (inr (inr (inl refl)))
member Limits = inr (inr (inr (inr (inl refl))))
member FirstRule = inr (inr (inr (inr (inr (inl refl)))))
member ReturnInMain = inr (inr (inr (inr (inr (inr (inl refl))))))
member Target = inr (inr (inr (inr (inr (inr (inr (inl refl)))))))
member Queue = inr (inr (inr (inr (inr (inr (inr (inr (inl refl))))))))
member Successor = inr (inr (inr (inr (inr (inr (inr (inr (inr (inl refl)))))))))

-- the tests of a rule are these in this order
in_order : (a b c d e f g h k l : Bool)
    → unless_broken (or_breaks a Mark (or_breaks b Attribute (or_breaks c Opcode fine)))
    (unless_broken (or_breaks d Limits (or_breaks e FirstRule (or_breaks f ReturnInMain (or_breaks g Target fine))))
    (or_breaks h Target (or_breaks k Queue (or_breaks l Successor fine))))
    ≡ or_breaks a Mark (or_breaks b Attribute (or_breaks c Opcode (or_breaks d Limits (or_breaks e FirstRule (or_breaks f ReturnInMain
    (or_breaks (g || h) Target (or_breaks k Queue (or_breaks l Successor fine))))))))
in_order true b c d e f g h k l = refl
in_order false true c d e f g h k l = refl
in_order false false true d e f g h k l = refl
in_order false false false true e f g h k l = refl
in_order false false false false true f g h k l = refl
in_order false false false false false true g h k l = refl
in_order false false false false false false true h k l = refl
in_order false false false false false false false h k l = refl

rule_check_is : (s : List ℕ) (i : ℕ) → rule_check s i ≡ first_of (breaks s i) order
unfolding first_of rule_check form_of alone_of rest_of
rule_check_is s i =
    in_order (breaks s i Mark) (breaks s i Attribute) (breaks s i Opcode) (breaks s i Limits) (breaks s i FirstRule) (breaks s i ReturnInMain)
    (bad_target (action_of (rule_of s i).opcode) (rule_count s) i (rule_of s i).parameter)
    (returns_nowhere (rule_count s) (rule_of s) (declared_of s) (rule_of s i) (declared_of s i)) (breaks s i Queue) (breaks s i Successor)

-- ---- a rule's refusal, exactly

module _ (s : List ℕ) (i : ℕ) where
  pub lowest_exactly : (why : CheckRefusal) → (rule_check s i ≡ Err why) ↔ LowestBroken s i why
  lowest_exactly why = (to, from)
    where
      to : rule_check s i ≡ Err why → LowestBroken s i why
      to e =
          let h : first_of (breaks s i) order ≡ Err why = sym (rule_check_is s i) ∙ e in
          record { broken = first_broken_is (breaks s i) order why h; none_lower = λ w l. lower h w (member w) l }
        where
          lower : first_of (breaks s i) order ≡ Err why → (w : CheckRefusal) → (w ≡ Length) ⊎ Member w order → check_number w < check_number why → breaks s i w ≡ false
          lower h w (inl z) l = ap (breaks s i) z
          lower h w (inr m) l = none_before (breaks s i) 30 order increasing why h w m l

      from : LowestBroken s i why → rule_check s i ≡ Err why
      from h = rule_check_is s i ∙ at (member why)
        where
          at : (why ≡ Length) ⊎ Member why order → first_of (breaks s i) order ≡ Err why
          at (inl z) = absurd (true≢false (sym h.broken ∙ ap (breaks s i) z))
          at (inr m) = first_is (breaks s i) 30 order increasing why m h.broken h.none_lower

  pub fine_exactly : (rule_check s i ≡ fine) ↔ BreaksNone s i
  fine_exactly = (to, λ h. rule_check_is s i ∙ fine_is (breaks s i) order h)
    where
      to : rule_check s i ≡ fine → BreaksNone s i
      to e w = at (member w)
        where
          at : (w ≡ Length) ⊎ Member w order → breaks s i w ≡ false
          at (inl z) = ap (breaks s i) z
          at (inr m) = first_fine (breaks s i) order (sym (rule_check_is s i) ∙ e) w m
