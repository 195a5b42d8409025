-- Exactly when the check accepts a rule set, and when it refuses it and names a rule. Assumes nothing.
use Prim.Native.Nat.{ℕ, zero, suc, ◌%◌, ◌≤◌, ◌<◌}
use native.Mathlib.Omega.{arith}
use mathlib.Core.Path.{◌≡◌, refl, ap, sym, ◌∙◌}
use mathlib.Core.Logic.{◌⊎◌, inl, inr, ◌≢◌, ◌↔◌}
use mathlib.Core.List.{List}
use mathlib.Core.Bool.{Bool, true, false, not, cond, ◌||◌}
use lib.ListN.{length}
use lib.Dec.{ltb, leb, eqb}
use borrow.Author.Tests.{leb-true, leb-false, eqb-true, eqb-false, ltb-true, eq-eqb, ne_eqb, lt-ltb}
use Rattle.std.specs.Prelude.{Ok, Err}
use Rattle.rules.specs.declared.CheckRefusal.{CheckRefusal}
use Rattle.rules.specs.declared.CheckRefusal.TheVariants.{Length}
use Rattle.rules.specs.Records.{rule_count}
use Rattle.rules.specs.Checks.{accepted, refused, fine, RuleCheck, CheckAnswer, rule_check, named, or_answer, first_broken, bad_length, check, FirstToBreak, AllFine}
use Rattle.rules.proofs.Accepted.{all_fine}
use Rattle.rules.proofs.LowestNumber.{lowest_exactly, fine_exactly}

-- ---- what a refusal holds

abbrev why_in : CheckAnswer → CheckRefusal
why_in (Ok x) = Length
why_in (Err r) = r.why

abbrev rule_number_in : CheckAnswer → ℕ
rule_number_in (Ok x) = 0
rule_number_in (Err r) = r.rule

-- ---- the first rule that breaks one

module _ (f : ℕ → RuleCheck) where
  -- what the rule behind a run of fine ones breaks
  named_breaks : (r : RuleCheck) (j : ℕ) (why : CheckRefusal) (i : ℕ) → named r j ≡ refused why i → (r ≡ Err why) × (j ≡ i)
  named_breaks (Ok x) j why i e = cc
  named_breaks (Err w) j why i e = (ap Err (ap why_in e), ap rule_number_in e)

  -- rule i of n is the first that breaks one
  abbrev First : ℕ → CheckRefusal → ℕ → Type 0
  First n why i = (1 ≤ i) × (i ≤ n) × (f i ≡ Err why) × ((j : ℕ) → 1 ≤ j → j < i → f j ≡ fine)

  first_named : (n : ℕ) (why : CheckRefusal) (i : ℕ) → first_broken f n ≡ refused why i → First n why i
  unfolding first_broken
  first_named zero why i e = cc
  first_named (suc k) why i e = go (first_broken f k) refl e (first_named k why i)
    where
      go : (v : CheckAnswer) → first_broken f k ≡ v → or_answer v (named (f (suc k)) (suc k)) ≡ refused why i → (first_broken f k ≡ refused why i → First k why i)
          → First (suc k) why i
      go (Ok u) q x again =
          let r = named_breaks (f (suc k)) (suc k) why i x in
          let l : i ≡ suc k = sym r.1 in
          (omega arith, omega arith, rw l r.0, λ j low below. all_fine f k q j low (omega (arith, l, below)))
      go (Err r) q x again = let a = again (q ∙ x) in (a.0, omega (arith, a.1), a.2, a.3)

  all_accepted : (n : ℕ) → ((i : ℕ) → 1 ≤ i → i ≤ n → f i ≡ fine) → first_broken f n ≡ accepted
  unfolding first_broken
  all_accepted zero h = refl
  all_accepted (suc k) h =
      let a : first_broken f k ≡ accepted = all_accepted k (λ i l m. h i l (omega (arith, m))) in
      let b : f (suc k) ≡ fine = h (suc k) (omega arith) (omega arith) in
      rw (a, b)

  named_first : (n : ℕ) (why : CheckRefusal) (i : ℕ) → First n why i → first_broken f n ≡ refused why i
  unfolding first_broken
  named_first zero why i h = absurd (omega (arith, h.0, h.1))
  named_first (suc k) why i h = go (leb i k) refl (named_first k why i)
    where
      go : (b : Bool) → leb i k ≡ b → (First k why i → first_broken f k ≡ refused why i) → or_answer (first_broken f k) (named (f (suc k)) (suc k)) ≡ refused why i
      go true t again =
          let a : first_broken f k ≡ refused why i = again (h.0, leb-true i k t, h.2, h.3) in
          rw a
      go false t again =
          let l : i ≡ suc k = omega (arith, leb-false i k t, h.1) in
          let a : first_broken f k ≡ accepted = all_accepted k (λ j low high. h.3 j low (omega (arith, l, high))) in
          let b : f (suc k) ≡ Err why = rw l at h.2 in
          rw (a, b, l)

-- ---- the check

module _ (s : List ℕ) where
  -- 30: the length is 0, not a multiple of 16, or that of over 255 rules
  pub bad_length_exactly : (bad_length (length s) ≡ true) ↔ ((length s ≡ 0) ⊎ (length s % 16 ≢ 0) ⊎ (255 < rule_count s))
  bad_length_exactly = (λ e. to (eqb (length s) 0) (eqb (length s % 16) 0) refl refl e, from)
    where
      to : (a b : Bool) → eqb (length s) 0 ≡ a → eqb (length s % 16) 0 ≡ b → a || not b || ltb 4080 (length s) ≡ true
          → (length s ≡ 0) ⊎ (length s % 16 ≢ 0) ⊎ (255 < rule_count s)
      to true b p q e = inl (eqb-true (length s) 0 p)
      to false false p q e = inr (inl (eqb-false (length s % 16) 0 q))
      to false true p q e = inr (inr (omega (arith, eqb-true (length s % 16) 0 q, ltb-true 4080 (length s) e)))

      or_right : (a : Bool) → a || true ≡ true
      or_right true = refl
      or_right false = refl

      from : (length s ≡ 0) ⊎ (length s % 16 ≢ 0) ⊎ (255 < rule_count s) → bad_length (length s) ≡ true
      from (inl z) = rw (eq-eqb (length s) 0 z)
      from (inr (inl m)) = rw (ne_eqb (length s % 16) 0 m, or_right (eqb (length s) 0))
      from (inr (inr l)) = rw (lt-ltb 4080 (length s) (omega (arith, l))) (or_right (eqb (length s) 0 || not (eqb (length s % 16) 0)))

  pub check_accepts_exactly : (check s ≡ accepted) ↔ ((bad_length (length s) ≡ false) × AllFine s)
  unfolding check
  check_accepts_exactly =
      (to (bad_length (length s)) refl, λ h. rw h.0 (all_accepted (rule_check s) (rule_count s) λ i low high. (fine_exactly s i).1 (h.1 i low high)))
    where
      to : (b : Bool) → bad_length (length s) ≡ b → cond b (refused Length 0) (first_broken (rule_check s) (rule_count s)) ≡ accepted
          → (bad_length (length s) ≡ false) × AllFine s
      to true t e = cc
      to false t e = (t, λ i low high. (fine_exactly s i).0 (all_fine (rule_check s) (rule_count s) e i low high))

  pub check_refuses_exactly : (why : CheckRefusal) (i : ℕ)
      → (check s ≡ refused why i)
      ↔ (((bad_length (length s) ≡ true) × (why ≡ Length) × (i ≡ 0)) ⊎ ((bad_length (length s) ≡ false) × FirstToBreak s why i))
  unfolding check
  check_refuses_exactly why i = (to (bad_length (length s)) refl, from)
    where
      to : (b : Bool) → bad_length (length s) ≡ b → cond b (refused Length 0) (first_broken (rule_check s) (rule_count s)) ≡ refused why i
          → ((bad_length (length s) ≡ true) × (why ≡ Length) × (i ≡ 0)) ⊎ ((bad_length (length s) ≡ false) × FirstToBreak s why i)
      to true t e = inl (t, sym (ap why_in e), sym (ap rule_number_in e))
      to false t e =
          let h = first_named (rule_check s) (rule_count s) why i e in
          inr (t, record { low = h.0; high = h.1; lowest = (lowest_exactly s i why).0 h.2; below = λ j low high. (fine_exactly s j).0 (h.3 j low high) })

      from : ((bad_length (length s) ≡ true) × (why ≡ Length) × (i ≡ 0)) ⊎ ((bad_length (length s) ≡ false) × FirstToBreak s why i) → check s ≡ refused why i
      from (inl (t, w, z)) = rw (t, w, z)
      from (inr (t, h)) =
          rw t
          (named_first (rule_check s) (rule_count s) why i
          (h.low, h.high, (lowest_exactly s i why).1 h.lowest, λ j low high. (fine_exactly s j).1 (h.below j low high)))
