-- What reading a sample finds, by its kind. Assumes nothing.
use Prim.Native.Nat.{ℕ, ◌≤◌}
use native.Mathlib.Omega.{arith}
use mathlib.Core.Path.{◌≡◌, refl, ap, ◌∙◌}
use mathlib.Core.Bool.{false, ◌||◌}
use mathlib.Core.List.{List}
use lib.Dec.{eqb}
use borrow.Author.Tests.{ne_eqb}
use Rattle.xdr.specs.Items.{word_at}
use Rattle.xdr.proofs.Reading.{word_read}
use Rattle.sflow.specs.declared.Refusal.{Refusal}
use Rattle.sflow.specs.declared.Refusal.TheVariants.{CutItem, SampleType}
use Rattle.sflow.specs.Decode.{found, refused, mapped, decode}
use Rattle.sflow.specs.Datagram.{flow_sample, counters_sample, sample_type}
use Rattle.sflow.proofs.Steps.{union_arm, union_bad, union_cut}
use Rattle.sflow.proofs.Ends.{end_is}
use Rattle.reader.specs.declared.sample.FlowSample.{FlowSample}
use Rattle.reader.specs.declared.sample.CountersSample.{CountersSample}
use Rattle.reader.specs.declared.sample.SampleValues.TheVariants.{Flow, Counters}
use Rattle.reader.specs.Samples.{flow_of, counters_of, sample_of}
use Rattle.fields.proofs.Answers.{read_told, read_refused}
use Rattle.fields.proofs.Compounds.{seen, wrapped}
use Rattle.std.specs.Prelude.{Ok, Err}
use Rattle.xdr.specs.Items.{cut}
use Rattle.std.specs.Prelude.{Ok, Err}
use Rattle.sflow.specs.Decode.{refused_at, as_read}

pub sample_cut : (s : List ℕ) (at p : ℕ) → word_at s at ≡ cut p → mapped (sample_of at) (decode sample_type s at) ≡ refused CutItem p
sample_cut s at p e = union_cut _ _ _ s at (sample_of at) p e

pub sample_other : (s : List ℕ) (at k start : ℕ) → word_at s at ≡ Ok (k, start) → (k ≡ 1 → ⊥) → (k ≡ 2 → ⊥)
    → mapped (sample_of at) (decode sample_type s at) ≡ refused SampleType at
sample_other s at k start e f g =
    let t : (eqb k 1 || (eqb k 2 || false)) ≡ false = rw (ne_eqb k 1 f, ne_eqb k 2 g) in
    union_bad _ _ _ s at (sample_of at) k start e t

module _ (s : List ℕ) (at k start : ℕ) (e : word_at s at ≡ Ok (k, start)) where
  -- a flow sample
  module _ (is : k ≡ 1) where
    arm_flow : mapped (sample_of at) (decode sample_type s at) ≡ mapped (λ w. Flow (flow_of start w)) (decode flow_sample s start)
    arm_flow =
        let w = word_read s at k start e in
        union_arm _ _ _ s at (sample_of at) 1 start (e ∙ ap (λ (n : ℕ). Ok (n, start)) is) refl ∙ rw w.next_is

    pub sample_flow : (flow : FlowSample) (next : ℕ) → as_read (mapped (flow_of start) (decode flow_sample s start)) ≡ Ok (flow, next)
        → mapped (sample_of at) (decode sample_type s at) ≡ found (Flow flow) next
    sample_flow flow next f =
        arm_flow ∙ wrapped Flow (flow_of start) (decode flow_sample s start) (found flow next) (read_told _ _ _ f)

    pub sample_flow_refused : (why : Refusal) (p : ℕ) → as_read (mapped (flow_of start) (decode flow_sample s start)) ≡ Err (refused_at why p)
        → mapped (sample_of at) (decode sample_type s at) ≡ refused why p
    sample_flow_refused why p f =
        arm_flow ∙ wrapped Flow (flow_of start) (decode flow_sample s start) (refused why p) (read_refused _ _ f)

    pub sample_flow_behind : (flow : FlowSample) (next : ℕ) → as_read (mapped (flow_of start) (decode flow_sample s start)) ≡ Ok (flow, next) → at ≤ next
    sample_flow_behind flow next f =
        let w = word_read s at k start e in
        let b = seen (flow_of start) _ flow next (read_told _ _ _ f) in
        let n = end_is flow_sample s start b.value next b.found_is in
        let m = w.next_is in
        omega arith

  -- a counter sample
  module _ (is : k ≡ 2) where
    arm_counters : mapped (sample_of at) (decode sample_type s at) ≡ mapped (λ w. Counters (counters_of start w)) (decode counters_sample s start)
    arm_counters =
        let w = word_read s at k start e in
        union_arm _ _ _ s at (sample_of at) 2 start (e ∙ ap (λ (n : ℕ). Ok (n, start)) is) refl ∙ rw w.next_is

    pub sample_counters : (x : CountersSample) (next : ℕ) → as_read (mapped (counters_of start) (decode counters_sample s start)) ≡ Ok (x, next)
        → mapped (sample_of at) (decode sample_type s at) ≡ found (Counters x) next
    sample_counters x next f =
        arm_counters ∙ wrapped Counters (counters_of start) (decode counters_sample s start) (found x next) (read_told _ _ _ f)

    pub sample_counters_refused : (why : Refusal) (p : ℕ) → as_read (mapped (counters_of start) (decode counters_sample s start)) ≡ Err (refused_at why p)
        → mapped (sample_of at) (decode sample_type s at) ≡ refused why p
    sample_counters_refused why p f =
        arm_counters ∙ wrapped Counters (counters_of start) (decode counters_sample s start) (refused why p) (read_refused _ _ f)

    pub sample_counters_behind : (x : CountersSample) (next : ℕ) → as_read (mapped (counters_of start) (decode counters_sample s start)) ≡ Ok (x, next)
        → at ≤ next
    sample_counters_behind x next f =
        let w = word_read s at k start e in
        let b = seen (counters_of start) _ x next (read_told _ _ _ f) in
        let n = end_is counters_sample s start b.value next b.found_is in
        let m = w.next_is in
        omega arith
