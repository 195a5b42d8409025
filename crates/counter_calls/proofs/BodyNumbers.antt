-- The counters that are found of a body, by what reading it answers, and what is put of them. Assumes nothing.
use Prim.Native.Nat.{ℕ, ◌+◌, ◌-◌, ◌≤◌, ◌<◌}
use native.Mathlib.Omega.{arith}
use mathlib.Core.Bool.{Bool, true, false, cond, ◌||◌}
use mathlib.Core.Path.{◌≡◌, refl, ap, ◌∙◌}
use mathlib.Core.List.{List, [], ◌∷◌}
use lib.ListN.{length, replicate}
use lib.Dec.{eqb}
use Rattle.xdr.specs.Items.{word_at, items_at, numbers_at, total_width}
use Rattle.xdr.proofs.Reading.{never, word_read}
use Rattle.xdr.proofs.Runs.{items_read, items_whole}
use Rattle.sflow.specs.declared.Refusal.TheVariants.{CountersVersion}
use Rattle.sflow.specs.Grammar.{Arm, case, listed, chosen, Value}
use Rattle.sflow.specs.Decode.{Decoded, found, refused, mapped, fixed_items, decode}
use Rattle.sflow.specs.Datagram.{counters_versions, counters_type}
use Rattle.sflow.proofs.Steps.{union_arm, union_bad, union_cut}
use Rattle.counter_data.specs.CounterBodies.{counters_found}
use Rattle.counter_data.proofs.Bodies.{widths_of, form_of}
use Rattle.numbers.specs.Reports.{filled, filled_behind}
use Rattle.numbers.proofs.Reports.{behind_behind}
use Rattle.counter_calls.specs.CounterReports.{value_numbers}
use Rattle.counter_calls.proofs.CounterRuns.{numbers_count}
use Rattle.std.specs.Prelude.{Result, Ok, Err}
use Rattle.xdr.specs.Items.{cut}
use Rattle.xdr.specs.declared.Cut.{Cut}

-- ---- the counters that are found

-- what is found, seen as it is
seen : (d : Decoded (Value counters_type)) → counters_found d ≡ counters_found (mapped (λ v. v) d)
seen (found v next) = refl
seen (refused why p) = refl

-- a version that is not listed has no counters
none_chosen : (arms : List (Arm (List ℕ))) (v : ℕ) → listed arms v ≡ false → chosen [] arms v ≡ []
none_chosen [] v h = refl
none_chosen (case n ws ∷ arms) v h = go (eqb v n) h (none_chosen arms v)
  where
    go : (b : Bool) → b || listed arms v ≡ false → (listed arms v ≡ false → chosen [] arms v ≡ []) → cond b ws (chosen [] arms v) ≡ []
    go true k rest = absurd (never (cc))
    go false k rest = rest k

-- the version word is cut short
pub version_cut : (s : List ℕ) (at p : ℕ) → word_at s at ≡ cut p → counters_found (decode counters_type s at) ≡ []
version_cut s at p e =
    seen (decode counters_type s at) ∙ ap counters_found (union_cut CountersVersion (listed counters_versions) form_of s at (λ v. v) p e)

module _ (s : List ℕ) (at v first : ℕ) (e : word_at s at ≡ Ok (v, first)) where
  abbrev counters : List ℕ
  counters = counters_found (decode counters_type s at)

  -- no version
  unlisted : listed counters_versions v ≡ false → counters ≡ []
  unlisted h =
      seen (decode counters_type s at) ∙ ap counters_found (union_bad CountersVersion (listed counters_versions) form_of s at (λ v. v) v first e h)

  -- a version: its counters are read
  version_read : listed counters_versions v ≡ true
      → counters ≡ counters_found (mapped (λ vs. (v, vs)) (fixed_items (numbers_at s first (widths_of v)) (items_at s first (widths_of v))))
  unfolding decode
  version_read h =
      seen (decode counters_type s at) ∙ ap counters_found (union_arm CountersVersion (listed counters_versions) form_of s at (λ v. v) v first e h)

  -- the version word is there
  pub version_within : first ≤ length s
  version_within = let r = word_read s at v first e in omega (arith, r.next_is, r.room)

  -- the counters are cut short
  pub counters_short : (size : ℕ) → size ≡ total_width (widths_of v) → length s - first < size → counters ≡ []
  counters_short size z k = go (listed counters_versions v) refl
    where
      run : (r : Result ℕ Cut) → items_at s first (widths_of v) ≡ r
          → counters_found (mapped (λ vs. (v, vs)) (fixed_items (numbers_at s first (widths_of v)) r)) ≡ []
      run (Ok next) f =
          let r = items_read s first (widths_of v) next f in
          let n : next ≡ first + total_width (widths_of v) = r.next_is in
          let m : next ≤ length s = r.within version_within in
          absurd (omega (arith, n, m, z))
      run (Err p) f = refl

      go : (b : Bool) → listed counters_versions v ≡ b → counters ≡ []
      go true t = version_read t ∙ run (items_at s first (widths_of v)) refl
      go false t = unlisted t

  -- the counters are there
  pub counters_room : (size : ℕ) → size ≡ total_width (widths_of v) → size ≤ length s - first → first + total_width (widths_of v) ≤ length s
  counters_room size z k = omega (arith, z, version_within)

  pub counters_there : first + total_width (widths_of v) ≤ length s → counters ≡ numbers_at s first (widths_of v)
  unfolding numbers_at
  counters_there h = go (listed counters_versions v) refl
    where
      go : (b : Bool) → listed counters_versions v ≡ b → counters ≡ numbers_at s first (widths_of v)
      go true t = version_read t ∙ rw (items_whole s first (widths_of v) h) refl
      go false t = unlisted t ∙ rw (none_chosen counters_versions v t) refl

-- ---- what is put

-- no counters: 38 zeros
pub none_put : (d e : List ℕ) → e ≡ filled_behind 0 (replicate (38 - 0) 0) d → e ≡ filled (value_numbers []) d
unfolding filled_behind
none_put d e h = h

-- how many counters there are, then the counters, then zeros up to 38 numbers
pub body_put : (s d m k e : List ℕ) (at count : ℕ) (ws : List ℕ) → count ≡ length ws → count ≤ 37
    → m ≡ filled_behind 0 (count ∷ []) d → k ≡ filled_behind 1 (numbers_at s at ws) m → e ≡ filled_behind (1 + count) (replicate (38 - (1 + count)) 0) k
    → e ≡ filled (value_numbers (numbers_at s at ws)) d
unfolding filled_behind
body_put s d m k e at count ws c h p q r =
    let z : 38 - (1 + count) ≡ 37 - count = omega arith in
    let n = numbers_count s at ws in
    let b : 1 + count ≡ 0 + length (count ∷ numbers_at s at ws) = rw (n, c) (omega arith) in
    rw (n, ← c)
    (behind_behind (count ∷ numbers_at s at ws) (replicate (37 - count) 0) d k e 0 (1 + count) b
    (behind_behind (count ∷ []) (numbers_at s at ws) d m k 0 1 refl p q) (rw (← z) r))
