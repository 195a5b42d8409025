-- What the number that is reported of reading says of what it finds. Assumes nothing.
use Prim.Native.Nat.{ℕ, ◌≤◌}
use native.Mathlib.Omega.{arith}
use mathlib.Core.Path.{◌≡◌, refl, ap}
use mathlib.Core.Logic.{◌↔◌}
use mathlib.Core.List.{List, [], ◌∷◌}
use Rattle.sflow.specs.declared.Refusal.{Refusal}
use Rattle.sflow.specs.declared.Refusal.TheVariants.{CutItem, CutString, Version, AddressType, SampleType, PacketDataType, HeaderProtocol, HeaderLength, ExtendedDataType, SegmentType, UrlDirection, CountersVersion, Padding, Trailing, TooLong}
use Rattle.sflow.specs.Refusals.{refusal_number}
use Rattle.sflow.specs.Decode.{Decoded, found, refused}
use Rattle.numbers.specs.Reports.{Report, report, decoded_report}

-- the numbers of refusals are 1 to 14
pub refusals_within : (why : Refusal) → (1 ≤ refusal_number why) × (refusal_number why ≤ 14)
refusals_within CutItem = (omega arith, omega arith)
refusals_within CutString = (omega arith, omega arith)
refusals_within Version = (omega arith, omega arith)
refusals_within AddressType = (omega arith, omega arith)
refusals_within SampleType = (omega arith, omega arith)
refusals_within PacketDataType = (omega arith, omega arith)
refusals_within HeaderProtocol = (omega arith, omega arith)
refusals_within HeaderLength = (omega arith, omega arith)
refusals_within ExtendedDataType = (omega arith, omega arith)
refusals_within SegmentType = (omega arith, omega arith)
refusals_within UrlDirection = (omega arith, omega arith)
refusals_within CountersVersion = (omega arith, omega arith)
refusals_within Padding = (omega arith, omega arith)
refusals_within Trailing = (omega arith, omega arith)
refusals_within TooLong = (omega arith, omega arith)

module _ {A : Type 0} (f : A → ℕ → List ℕ) where
  -- 0 exactly where reading finds a value
  pub zero_exactly : (d : Decoded A) → ((decoded_report f d).number ≡ 0) ↔ ((v : A) × ((next : ℕ) × (d ≡ found v next)))
  zero_exactly d = (there d, back d)
    where
      there : (d : Decoded A) → (decoded_report f d).number ≡ 0 → (v : A) × ((next : ℕ) × (d ≡ found v next))
      there (found v next) e = (v, (next, refl))
      there (refused why p) e = let least = (refusals_within why).0 in absurd (omega (arith, e, least))

      back : (d : Decoded A) → ((v : A) × ((next : ℕ) × (d ≡ found v next))) → (decoded_report f d).number ≡ 0
      back d h = ap (λ (x : Decoded A). (decoded_report f x).number) h.1.1

  -- another number exactly where reading is refused with a meaning of that number; the refusal's offset stands beside it
  pub refusal_exactly : (n p : ℕ) → 1 ≤ n → (d : Decoded A)
      → (decoded_report f d ≡ report n (p ∷ [])) ↔ ((why : Refusal) × ((refusal_number why ≡ n) × (d ≡ refused why p)))
  refusal_exactly n p least d = (there d, back d)
    where
      there : (d : Decoded A) → decoded_report f d ≡ report n (p ∷ []) → (why : Refusal) × ((refusal_number why ≡ n) × (d ≡ refused why p))
      there (found v next) e = let none : 0 ≡ n = ap (λ (x : Report). x.number) e in absurd (omega arith)
      there (refused why q) e =
          let number : refusal_number why ≡ n = ap (λ (x : Report). x.number) e in
          let place : q ∷ [] ≡ p ∷ [] = ap (λ (x : Report). x.numbers) e in
          let same : q ≡ p = cc in
          (why, (number, ap (refused why) same))

      back : (d : Decoded A) → ((why : Refusal) × ((refusal_number why ≡ n) × (d ≡ refused why p))) → decoded_report f d ≡ report n (p ∷ [])
      back d h = rw (h.1.1, h.1.0) refl
