-- What passing over counters finds, by what the reads of their items answer. Assumes nothing.
use Prim.Native.Nat.{ℕ, zero, suc, ◌+◌, ◌-◌, ◌≤◌, ◌<◌}
use native.Mathlib.Omega.{arith}
use mathlib.Core.Path.{◌≡◌, refl, sym, ap, ◌∙◌}
use mathlib.Core.Logic.{◌⊎◌, inl, inr, ⊎_elim}
use mathlib.Core.List.{List, [], ◌∷◌}
use mathlib.Core.Bool.{true, false}
use lib.ListN.{length}
use borrow.Author.Tests.{ne_eqb}
use Rattle.xdr.specs.Items.{word_at, total_width}
use Rattle.xdr.proofs.Reading.{word_read, tested}
use Rattle.sflow.specs.declared.Refusal.{Refusal}
use Rattle.sflow.specs.declared.Refusal.TheVariants.{CutItem, CountersVersion}
use Rattle.sflow.specs.Grammar.{Form, fixed, listed, chosen}
use Rattle.sflow.specs.Decode.{found, refused, mapped, decode}
use Rattle.sflow.specs.Datagram.{counters_versions, counters_type}
use Rattle.sflow.proofs.Steps.{union_arm, union_bad, union_cut, fixed_end}
use Rattle.fields.specs.Parts.{as_passed}
use Rattle.fields.proofs.Passing.{passed_next, passed_refused}
use Rattle.fields.proofs.Forms.{passed_whole, passed_item, passed_item_cut}
use Rattle.counter_data.specs.CounterBodies.{counter_body_of}
use Rattle.std.specs.Prelude.{Result, Ok, Err}
use Rattle.xdr.specs.Items.{cut}
use Rattle.std.specs.Prelude.{Result, Ok, Err}
use Rattle.sflow.specs.declared.Refused.{Refused}
use Rattle.sflow.specs.Decode.{refused_at}

-- ---- versions

-- the widths of the counters of a version, and their form
abbrev pub widths_of : ℕ → List ℕ
widths_of v = chosen [] counters_versions v

abbrev pub form_of : ℕ → Form
form_of v = fixed (widths_of v)

-- 1 to 7 are versions
pub version_listed : (v : ℕ) → 1 ≤ v → v ≤ 7 → listed counters_versions v ≡ true
version_listed zero l h = absurd (omega arith)
version_listed (suc zero) l h = refl
version_listed (suc (suc zero)) l h = refl
version_listed (suc (suc (suc zero))) l h = refl
version_listed (suc (suc (suc (suc zero)))) l h = refl
version_listed (suc (suc (suc (suc (suc zero))))) l h = refl
version_listed (suc (suc (suc (suc (suc (suc zero)))))) l h = refl
version_listed (suc (suc (suc (suc (suc (suc (suc zero))))))) l h = refl
version_listed (suc (suc (suc (suc (suc (suc (suc (suc v)))))))) l h = absurd (omega arith)

-- a number that is none of them is no version, and has no counters
module _ (v : ℕ) (alike : (v ≡ 1) ⊎ ((v ≡ 4) ⊎ (v ≡ 6)) → ⊥) (n2 : v ≡ 2 → ⊥) (n3 : v ≡ 3 → ⊥) (n5 : v ≡ 5 → ⊥) (n7 : v ≡ 7 → ⊥) where
  n1 : v ≡ 1 → ⊥
  n1 e = alike (inl e)

  n4 : v ≡ 4 → ⊥
  n4 e = alike (inr (inl e))

  n6 : v ≡ 6 → ⊥
  n6 e = alike (inr (inr e))

  pub not_listed : listed counters_versions v ≡ false
  not_listed = rw (ne_eqb v 1 n1, ne_eqb v 2 n2, ne_eqb v 3 n3, ne_eqb v 4 n4, ne_eqb v 5 n5, ne_eqb v 6 n6, ne_eqb v 7 n7)

  pub no_widths : widths_of v ≡ []
  no_widths = rw (ne_eqb v 1 n1, ne_eqb v 2 n2, ne_eqb v 3 n3, ne_eqb v 4 n4, ne_eqb v 5 n5, ne_eqb v 6 n6, ne_eqb v 7 n7)

-- 0, and what is above 7, is none of them
pub version_zero : (v : ℕ) → v < 1 → listed counters_versions v ≡ false
version_zero v h =
    not_listed v (⊎_elim (λ e. omega arith) (⊎_elim (λ e. omega arith) (λ e. omega arith)))
    (λ e. omega arith) (λ e. omega arith) (λ e. omega arith) (λ e. omega arith)

pub version_over : (v : ℕ) → 7 < v → listed counters_versions v ≡ false
version_over v h =
    not_listed v (⊎_elim (λ e. omega arith) (⊎_elim (λ e. omega arith) (λ e. omega arith)))
    (λ e. omega arith) (λ e. omega arith) (λ e. omega arith) (λ e. omega arith)

-- ---- runs

-- the octets of the counters of the version n are those of the version v, which is n
pub size_of : (v n : ℕ) → v ≡ n → total_width (widths_of n) ≡ total_width (widths_of v)
size_of v n e = ap (λ (m : ℕ). total_width (widths_of m)) (sym e)

-- a run of the widths of the version n passes over the counters of the version v, which is n
pub body_run : (s : List ℕ) (at v n : ℕ) (r : Result ℕ Refused) → v ≡ n → r ≡ as_passed (decode (form_of n) s at) → r ≡ as_passed (decode (form_of v) s at)
body_run s at v n r e f = f ∙ ap (λ (m : ℕ). as_passed (decode (form_of m) s at)) (sym e)

-- counters whose octets are all there
pub body_there : (s : List ℕ) (at size v : ℕ) → size ≡ total_width (widths_of v) → at ≤ length s → size ≤ length s - at
    → Ok (at + size) ≡ as_passed (decode (form_of v) s at)
body_there s at size v z h k =
    let room : at + total_width (widths_of v) ≤ length s = omega (arith, z) in
    rw z (sym (passed_whole s at (widths_of v) room))

-- they are, where one item of as many octets is passed over
pub body_in_one : (s : List ℕ) (at size v next : ℕ) → size ≡ total_width (widths_of v) → Ok next ≡ as_passed (decode (fixed (size ∷ [])) s at)
    → Ok next ≡ as_passed (decode (form_of v) s at)
body_in_one s at size v next z e =
    ⊎_elim
    (λ h. e ∙ passed_item s at size h.0 ∙ body_there s at size v z (omega (arith, h.0)) (omega (arith, h.0)))
    (λ h. let bad : Ok next ≡ Err (refused_at CutItem at) = e ∙ passed_item_cut s at size h.0 in cc)
    (tested (at + size) (length s) true false _ refl)

-- no counters, nothing to pass over
pub body_none : (s : List ℕ) (at : ℕ) (ws : List ℕ) → ws ≡ [] → Ok at ≡ as_passed (decode (fixed ws) s at)
body_none s at ws e = rw (e, fixed_end)

-- ---- counters

-- the version is cut short
pub body_cut : (s : List ℕ) (at p : ℕ) → word_at s at ≡ cut p → mapped (counter_body_of at) (decode counters_type s at) ≡ refused CutItem p
body_cut s at p e = union_cut _ _ _ s at (counter_body_of at) p e

-- no version
pub body_bad : (s : List ℕ) (at v first : ℕ) → word_at s at ≡ Ok (v, first) → listed counters_versions v ≡ false
    → mapped (counter_body_of at) (decode counters_type s at) ≡ refused CountersVersion at
body_bad s at v first e h = union_bad _ _ _ s at (counter_body_of at) v first e h

module _ (s : List ℕ) (at v first : ℕ) (e : word_at s at ≡ Ok (v, first)) (h : listed counters_versions v ≡ true) where
  -- behind the version
  body_arm : mapped (counter_body_of at) (decode counters_type s at) ≡ mapped (λ vs. counter_body_of at (v, vs)) (decode (form_of v) s first)
  body_arm = union_arm CountersVersion (listed counters_versions) form_of s at (counter_body_of at) v first e h

  -- counters that are all there
  pub body_found : (next : ℕ) → as_passed (decode (form_of v) s first) ≡ Ok next
      → mapped (counter_body_of at) (decode counters_type s at) ≡ found (record { version = v; at = first }) next
  body_found next f =
      let r = passed_next (decode (form_of v) s first) next f in
      body_arm ∙ rw (r.1, (word_read s at v first e).next_is)

  -- counters that are cut short
  pub body_refused : (why : Refusal) (p : ℕ) → as_passed (decode (form_of v) s first) ≡ Err (refused_at why p)
      → mapped (counter_body_of at) (decode counters_type s at) ≡ refused why p
  body_refused why p f = body_arm ∙ rw (passed_refused (decode (form_of v) s first) why p f)
