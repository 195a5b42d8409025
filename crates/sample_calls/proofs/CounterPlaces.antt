-- The counters of a sample that was read stand behind a version word.
use Prim.Native.Nat.{ℕ, ◌+◌, ◌-◌, ◌≤◌}
use mathlib.Core.Bool.{Bool, true, false, cond}
use mathlib.Core.Path.{◌≡◌, refl, subst}
use mathlib.Core.List.{List, [], ◌∷◌}
use native.Mathlib.Omega.{arith}
use lib.Dec.{eqb}
use Rattle.sflow.specs.Grammar.{fixed, Value}
use Rattle.xdr.specs.Items.{items_at, numbers_at}
use Rattle.xdr.proofs.Runs.{items_read}
use Rattle.sflow.specs.Decode.{Decoded, found, refused, and_then, mapped, fixed_items, decode}
use Rattle.sflow.specs.Datagram.{flow_sample, counters_type, counters_sample, sample_type}
use Rattle.sflow.proofs.Steps.{then_is}
use Rattle.counter_data.specs.CounterBodies.{counters_found}
use Rattle.reader.specs.declared.sample.CountersSample.{CountersSample}
use Rattle.reader.specs.declared.sample.Sample.{Sample}
use Rattle.reader.specs.declared.sample.SampleValues.{SampleValues}
use Rattle.reader.specs.declared.sample.SampleValues.TheVariants.{Flow, Counters}
use Rattle.reader.specs.Samples.{counters_of, sample_by, sample_of, as_sample}
use Rattle.std.specs.Prelude.{Result, Ok, Err}
use Rattle.xdr.specs.declared.Cut.{Cut}
use Rattle.std.specs.Prelude.{Result, Ok, Err}
use Rattle.sflow.specs.declared.Refused.{Refused}

abbrev PlacedValues : SampleValues → Type 0
PlacedValues (Flow x) = Unit {0}
PlacedValues (Counters x) = 4 ≤ x.counters.at

abbrev Placed : Result (Sample × ℕ) Refused → Type 0
Placed (Ok r) = PlacedValues r.0.values
Placed (Err r) = Unit {0}

placed_by : (at : ℕ) (is1 is2 : Bool) (v : Value (cond is1 flow_sample (cond is2 counters_sample (fixed [])))) → PlacedValues (sample_by at is1 is2 v)
placed_by at true is2 v = tt
placed_by at false true v = omega arith
placed_by at false false v = omega arith

placed : (at : ℕ) (d : Decoded (Value sample_type)) → Placed (as_sample at (mapped (sample_of at) d))
placed at (found v next) = placed_by at (eqb v.0 1) (eqb v.0 2) v.1
placed at (refused why p) = tt

-- the version word's 4 octets lie before the first counter
pub version_word : (at : ℕ) (d : Decoded (Value sample_type)) (x : Sample) (next : ℕ) (c : CountersSample)
    → as_sample at (mapped (sample_of at) d) ≡ Ok (x, next) → x.values ≡ Counters c → 4 ≤ c.counters.at
version_word at d x next c e f = subst PlacedValues f (subst Placed e (placed at d))

-- ---- the counters that are reported are those of the sample that was found

-- the widths of the words before the version word
abbrev words : List ℕ
words = 4 ∷ 4 ∷ 4 ∷ []

abbrev Behind : List ℕ → ℕ → Decoded (Value counters_sample) → Type 0
Behind s at (found v end) = decode counters_type s (at + 12) ≡ found v.1 end
Behind s at (refused why p) = Unit {0}

fixed_is : (s : List ℕ) (at : ℕ) (ws : List ℕ) → decode (fixed ws) s at ≡ fixed_items (numbers_at s at ws) (items_at s at ws)
unfolding decode
fixed_is s at ws = refl

behind_words : (s : List ℕ) (at : ℕ) (vs : List ℕ) (d : Decoded (Value counters_type)) → decode counters_type s (at + 12) ≡ d
    → Behind s at (and_then d λ w end. found (vs, w) end)
behind_words s at vs (found w end) e = e
behind_words s at vs (refused why p) e = tt

behind_run : (s : List ℕ) (at : ℕ) (r : Result ℕ Cut) → items_at s at words ≡ r
    → Behind s at (and_then (fixed_items (numbers_at s at words) r) λ v next. and_then (decode counters_type s next) λ w end. found (v, w) end)
behind_run s at (Ok next) e =
    rw (items_read s at words next e).next_is (behind_words s at (numbers_at s at words) (decode counters_type s (at + 12)) refl)
behind_run s at (Err c) e = tt

behind : (s : List ℕ) (at : ℕ) → Behind s at (decode counters_sample s at)
behind s at = rw (then_is (fixed words) counters_type s at, fixed_is s at words) (behind_run s at (items_at s at words) refl)

pub counters_found_is : (s : List ℕ) (at : ℕ) (v : Value counters_sample) (end : ℕ) → decode counters_sample s at ≡ found v end
    → counters_found (decode counters_type s ((counters_of at v).counters.at - 4)) ≡ v.1.1
counters_found_is s at v end e =
    let h : decode counters_type s (at + 12) ≡ found v.1 end = subst (Behind s at) e (behind s at) in
    let k : at + 12 + 4 - 4 ≡ at + 12 = omega arith in
    rw (k, h) refl
