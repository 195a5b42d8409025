-- What reading a sample, and a step of the walk over the samples, answers, in numbers. (numbers/proofs/Exactly says what each number means.) Assumes nothing.
use Prim.Native.Nat.{ℕ}
use mathlib.Core.Path.{◌≡◌, refl, ap, ◌∙◌}
use mathlib.Core.List.{List}
use lib.ListN.{length}
use borrow.Author.Tests.{eq-eqb, ne_eqb, lt-ltb, le-ltb}
use Rattle.sflow.specs.Decode.{Decoded, found, refused, mapped, decode}
use Rattle.sflow.specs.Datagram.{sample_type}
use Rattle.reader.specs.declared.sample.SampleValues.{SampleValues}
use Rattle.reader.specs.declared.datagram.Cursor.{Cursor}
use Rattle.std.specs.Prelude.{Option}
use Rattle.reader.specs.declared.sample.Sample.{Sample}
use Rattle.reader.specs.Samples.{sample_of, as_sample}
use Rattle.reader.specs.Datagrams.{stepped, step_at}
use Rattle.numbers.specs.Reports.{decoded_report}
use Rattle.sample_calls.specs.SampleReports.{sample_report, step_report, numbers_between, sample_found, StepTold}
use Rattle.std.specs.Prelude.{Result}
use Rattle.sflow.specs.declared.Refused.{Refused}

view_told : (s : List ℕ) (at : ℕ) (d : Decoded SampleValues) → sample_report s (as_sample at d) ≡ decoded_report (numbers_between s at) d
view_told s at (found v next) = refl
view_told s at (refused why p) = refl

-- `reader::sample::read_sample`
pub sample_told : (s : List ℕ) (at : ℕ) (r : Result (Sample × ℕ) Refused) → r ≡ as_sample at (mapped (sample_of at) (decode sample_type s at)) → sample_report s r ≡ sample_found s at
sample_told s at r e = ap (sample_report s) e ∙ view_told s at (mapped (sample_of at) (decode sample_type s at))

-- ---- the walk

step_told : (s : List ℕ) (at left : ℕ) (d : Decoded SampleValues) → step_report s (stepped left (as_sample at d)) ≡ decoded_report (numbers_between s at) d
step_told s at left (found v next) = refl
step_told s at left (refused why p) = refl

-- `reader::datagram::next_sample`
pub next_sample_told : (s : List ℕ) (c : Cursor) (r : Result (Option (Sample × Cursor)) Refused) → r ≡ step_at s c → StepTold s c r
unfolding step_at
next_sample_told s c r e =
    record {
      a_sample =
          λ more. ap (step_report s) e
          ∙ rw (ne_eqb c.left 0 more) (step_told s c.at c.left (mapped (sample_of c.at) (decode sample_type s c.at)));
      the_end = λ none behind. ap (step_report s) e ∙ rw (eq-eqb c.left 0 none, le-ltb c.at (length s) behind) refl;
      trailing = λ none before. ap (step_report s) e ∙ rw (eq-eqb c.left 0 none, lt-ltb c.at (length s) before) refl;
    }
