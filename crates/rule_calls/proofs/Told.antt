-- What the functions of check and engine tell, in document 01's numbers, as it follows from their contracts. Assumes nothing.
use Prim.Native.Nat.{ℕ, ◌≤◌}
use native.Mathlib.Omega.{arith}
use mathlib.Core.Path.{◌≡◌, refl, ap, sym, ◌∙◌}
use mathlib.Core.Logic.{◌⊎◌, inl, inr, ◌↔◌}
use mathlib.Core.List.{List, [], ◌∷◌, ◌++◌}
use mathlib.Core.Bool.{true, false, true≢false, cond}
use lib.ListN.{length, get_or, replicate}
use lib.Dec.{eqb}
use Rattle.std.specs.Prelude.{Ok, Err}
use Rattle.rules.specs.declared.CheckRefusal.{CheckRefusal}
use Rattle.rules.specs.declared.CheckRefusal.TheVariants.{Length, Mark, Attribute, Opcode, Limits, FirstRule, ReturnInMain, Target, Queue, Successor}
use Rattle.rules.specs.declared.MachineAnswer.{MachineAnswer}
use Rattle.rules.specs.declared.MachineAnswer.TheVariants.{Ignore, NoMatch, Count, CountPkt}
use Rattle.rules.specs.Opcodes.{machine_number}
use Rattle.rules.specs.Records.{rule_count, rule_of}
use Rattle.rules.specs.Machine.{Outcome, running, ended, stuck, after}
use Rattle.rules.specs.Checks.{CheckAnswer, accepted, refused, check_number, bad_length, check, breaks, FirstToBreak}
use Rattle.rules.specs.Demand.{bound}
use Rattle.rules.proofs.Answers.{no_items}
use Rattle.rules.proofs.CheckAnswers.{check_accepts_exactly, check_refuses_exactly}
use Rattle.reader.specs.declared.sample.FlowSample.{FlowSample}
use Rattle.packet.specs.Attributes.{attributes_of, attribute}
use Rattle.engine.specs.declared.FlowKey.{FlowKey}
use Rattle.engine.specs.Results.{EngineAnswer, engine_number, key_in, zero_key, key_of, result_of, Sampled, flow, other, flow_in, of_sample, of_check, engine_of}
use Rattle.engine.proofs.Ends.{ends_there, ends_alike}
use Rattle.numbers.specs.Reports.{Report, report}
use Rattle.rule_calls.specs.RuleSets.{check_report, engine_report, CheckTold, RunTold}

-- ---- no two answers of the check are told alike

abbrev refusal_with : ℕ → CheckRefusal
refusal_with n =
    cond (eqb n 30) Length (cond (eqb n 31) Mark (cond (eqb n 32) Attribute (cond (eqb n 33) Opcode (cond (eqb n 34) Limits
    (cond (eqb n 35) FirstRule (cond (eqb n 36) ReturnInMain (cond (eqb n 37) Target (cond (eqb n 38) Queue Successor))))))))

abbrev answer_told : Report → CheckAnswer
answer_told t = cond (eqb t.number 0) accepted (refused (refusal_with t.number) (get_or t.numbers 0 0))

refusal_again : (why : CheckRefusal) (i : ℕ) (xs : List ℕ) → answer_told (report (check_number why) (i ∷ xs)) ≡ refused why i
refusal_again Length i xs = refl
refusal_again Mark i xs = refl
refusal_again Attribute i xs = refl
refusal_again Opcode i xs = refl
refusal_again Limits i xs = refl
refusal_again FirstRule i xs = refl
refusal_again ReturnInMain i xs = refl
refusal_again Target i xs = refl
refusal_again Queue i xs = refl
refusal_again Successor i xs = refl

told_again : (v : CheckAnswer) → answer_told (check_report v) ≡ v
told_again (Ok x) = refl
told_again (Err r) = refusal_again r.why r.rule []

told_once : (v w : CheckAnswer) → check_report v ≡ check_report w → v ≡ w
told_once v w e = sym (told_again v) ∙ ap answer_told e ∙ told_again w

-- ---- the check

module _ (s : List ℕ) where
  -- for what a refusal is given
  abbrev Given : CheckRefusal → ℕ → Type 0
  Given why i = ((bad_length (length s) ≡ true) × (why ≡ Length) × (i ≡ 0)) ⊎ ((bad_length (length s) ≡ false) × FirstToBreak s why i)

  for_length : (why : CheckRefusal) → Given why 0 → bad_length (length s) ≡ true
  for_length why (inl h) = h.0
  for_length why (inr h) = absurd (omega (arith, h.1.low))

  for_rule : (why : CheckRefusal) (i : ℕ) → 1 ≤ i → Given why i → (bad_length (length s) ≡ false) × FirstToBreak s why i
  for_rule why i l (inl h) = absurd (omega (arith, l, h.2))
  for_rule why i l (inr h) = h

  by_length : (check_report (check s) ≡ report 30 (0 ∷ [])) ↔ (bad_length (length s) ≡ true)
  by_length = (
    λ e. for_length Length ((check_refuses_exactly s Length 0).0 (told_once (check s) (refused Length 0) e)),
    λ b. ap check_report ((check_refuses_exactly s Length 0).1 (inl (b, refl, refl))),
  )

  by_rule : (why : CheckRefusal) (i : ℕ) → 1 ≤ i
      → (check_report (check s) ≡ report (check_number why) (i ∷ [])) ↔ ((bad_length (length s) ≡ false) × FirstToBreak s why i)
  by_rule why i l = (
    λ e. for_rule why i l ((check_refuses_exactly s why i).0 (told_once (check s) (refused why i) e)),
    λ h. ap check_report ((check_refuses_exactly s why i).1 (inr h)),
  )

  -- a refusal with 30 is for the length
  thirty : (why : CheckRefusal) → check_number why ≡ 30 → why ≡ Length
  thirty Length e = refl
  thirty Mark e = absurd (omega (arith, e))
  thirty Attribute e = absurd (omega (arith, e))
  thirty Opcode e = absurd (omega (arith, e))
  thirty Limits e = absurd (omega (arith, e))
  thirty FirstRule e = absurd (omega (arith, e))
  thirty ReturnInMain e = absurd (omega (arith, e))
  thirty Target e = absurd (omega (arith, e))
  thirty Queue e = absurd (omega (arith, e))
  thirty Successor e = absurd (omega (arith, e))

  length_alone : (v : CheckAnswer) → check s ≡ v → (check_report v).number ≡ 30 → bad_length (length s) ≡ true
  length_alone (Ok x) e n = absurd (omega (arith, n))
  length_alone (Err r) e n = go ((check_refuses_exactly s r.why r.rule).0 e)
    where
      go : Given r.why r.rule → bad_length (length s) ≡ true
      go (inl h) = h.0
      go (inr h) = absurd (true≢false (sym h.1.lowest.broken ∙ ap (breaks s r.rule) (thirty r.why n)))

  told_of_check : CheckTold s (check_report (check s))
  told_of_check =
      record {
        by_length = by_length;
        length_alone = length_alone (check s) refl;
        by_rule = by_rule;
        accepted = (λ e. (check_accepts_exactly s).0 (told_once (check s) accepted e), λ h. ap check_report ((check_accepts_exactly s).1 h));
      }

-- for every answer that meets the contract of the check
pub check_told : (s : List ℕ) (r : CheckAnswer) → r ≡ check s → CheckTold s (check_report r)
check_told s r e = rw e (told_of_check s)

-- ---- the engine

-- a refusal of the check is 30 or more, everything else is 18 or less, and what the machine ends with 4 or less
refusal_large : (why : CheckRefusal) → 30 ≤ check_number why
refusal_large Length = omega arith
refusal_large Mark = omega arith
refusal_large Attribute = omega arith
refusal_large Opcode = omega arith
refusal_large Limits = omega arith
refusal_large FirstRule = omega arith
refusal_large ReturnInMain = omega arith
refusal_large Target = omega arith
refusal_large Queue = omega arith
refusal_large Successor = omega arith

answer_small : (a : MachineAnswer) → machine_number a ≤ 4
answer_small Ignore = omega arith
answer_small NoMatch = omega arith
answer_small Count = omega arith
answer_small CountPkt = omega arith

outcome_small : (o : Outcome) → engine_number (result_of o) ≤ 18
outcome_small (running t) = omega arith
outcome_small (ended a items k) = omega (arith, answer_small a)
outcome_small stuck = omega arith

module _ (s x : List ℕ) where
  sample_small : (o : Sampled) → engine_number (of_sample s x o) ≤ 18
  sample_small (flow f) = outcome_small (after (rule_count s) (rule_of s) (attribute (attributes_of x f)) (bound (rule_count s)))
  sample_small other = omega arith

  refused_so : (why : CheckRefusal) (i : ℕ) → (v : CheckAnswer) → engine_report (of_check s x v) ≡ report (check_number why) (i ∷ 0 ∷ replicate 46 0) → v ≡ refused why i
  refused_so why i (Ok u) e =
      let n : engine_number (of_sample s x (flow_in x)) ≡ check_number why = ap (λ (t : Report). t.number) e in
      absurd (omega (arith, n, sample_small (flow_in x), refusal_large why))
  refused_so why i (Err r) e = sym (refusal_again r.why r.rule (0 ∷ replicate 46 0)) ∙ ap answer_told e ∙ refusal_again why i (0 ∷ replicate 46 0)

  accepted_so : (v : CheckAnswer) → engine_report (of_check s x v) ≡ report 18 (0 ∷ 0 ∷ replicate 46 0) → v ≡ accepted
  accepted_so (Ok u) e = refl
  accepted_so (Err r) e = let n : check_number r.why ≡ 18 = ap (λ (t : Report). t.number) e in absurd (omega (arith, n, refusal_large r.why))

  other_so : check s ≡ accepted → (o : Sampled) → engine_report (of_sample s x o) ≡ report 18 (0 ∷ 0 ∷ replicate 46 0) → o ≡ other
  other_so ok (flow f) e =
      let d = ends_there s ok (attribute (attributes_of x f)) in
      let n : machine_number d.answer ≡ 18 = sym (ap (λ (o : Outcome). engine_number (result_of o)) d.ended_so) ∙ ap (λ (t : Report). t.number) e in
      absurd (omega (arith, n, answer_small d.answer))
  other_so ok other e = refl

  no_flow_so : engine_report (of_check s x (check s)) ≡ report 18 (0 ∷ 0 ∷ replicate 46 0) → (check s ≡ accepted) × (flow_in x ≡ other)
  no_flow_so e =
      let ok = accepted_so (check s) e in
      (ok, other_so ok (flow_in x) (sym (ap (λ (v : CheckAnswer). engine_report (of_check s x v)) ok) ∙ e))

  -- ---- a key of zeros

  abbrev Low : ℕ → Type 0
  Low n = (n ≡ 1) ⊎ (n ≡ 2)

  low_small : {n : ℕ} → Low n → n ≤ 2
  low_small (inl e) = omega (arith, e)
  low_small (inr e) = omega (arith, e)

  low_answer : (a : MachineAnswer) → Low (machine_number a) → (a ≡ Ignore) ⊎ (a ≡ NoMatch)
  low_answer Ignore h = inl refl
  low_answer NoMatch h = inr refl
  low_answer Count h = absurd (omega (arith, low_small h))
  low_answer CountPkt h = absurd (omega (arith, low_small h))

  ended_key : (f : FlowSample) (k : ℕ) (o : Outcome) → after (rule_count s) (rule_of s) (attribute (attributes_of x f)) k ≡ o → Low (engine_number (result_of o))
      → key_in (result_of o) ≡ zero_key
  unfolding key_of
  ended_key f k (running t) e h = refl
  ended_key f k (ended a items c) e h =
      ap key_of (no_items (rule_count s) (rule_of s) (attribute (attributes_of x f)) k a items c e (low_answer a h))
  ended_key f k stuck e h = refl

  sample_key : (o : Sampled) → Low (engine_number (of_sample s x o)) → key_in (of_sample s x o) ≡ zero_key
  sample_key (flow f) h = ended_key f (bound (rule_count s)) _ refl h
  sample_key other h = refl

  run_key : (v : CheckAnswer) → Low (engine_number (of_check s x v)) → key_in (of_check s x v) ≡ zero_key
  run_key (Ok u) h = sample_key (flow_in x) h
  run_key (Err r) h = refl

told_of_run : (s x : List ℕ) → RunTold s x (engine_report (engine_of s x))
unfolding engine_of
told_of_run s x =
    record {
      refused = λ why i. (refused_so s x why i (check s), λ e. rw e);
      no_flow_sample = (no_flow_so s x, λ h. rw (h.0, h.1));
      run = λ e f h k answer items rules ends. rw (e, h, ends_alike s e (attribute (attributes_of x f)) k answer rules items ends);
      no_key = λ h. ap (λ (k : FlowKey). k.masks ++ k.values) (run_key s x (check s) h);
    }

-- for every result that meets the contract of the engine
pub run_told : (s x : List ℕ) (r : EngineAnswer) → r ≡ engine_of s x → RunTold s x (engine_report r)
run_told s x r e = rw e (told_of_run s x)
