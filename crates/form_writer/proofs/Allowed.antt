-- Whether octets are exactly one value, or so many entries, by what reading them answers. Assumes nothing.
use Prim.Native.Nat.{ℕ}
use mathlib.Core.Path.{◌≡◌, ap, ◌∙◌}
use mathlib.Core.List.{List}
use mathlib.Core.Option.{none, some}
use lib.ListN.{length}
use borrow.Author.Tests.{eq-eqb, ne_eqb}
use Rattle.sflow.specs.declared.Refusal.{Refusal}
use Rattle.sflow.specs.Grammar.{Form, Value}
use Rattle.sflow.specs.Decode.{Decoded, found, entries, decode, ending_at, value_in, entries_in}
use Rattle.fields.specs.Parts.{as_passed}
use Rattle.fields.proofs.Passing.{passed_next, passed_refused}
use Rattle.std.specs.Prelude.{Ok, Err}
use Rattle.sflow.specs.Decode.{refused_at}

-- reading ends there, ends elsewhere, or is refused
module _ {A : Type 0} (d : Decoded A) (end : ℕ) where
  ends_there : (next : ℕ) → as_passed d ≡ Ok next → next ≡ end → (v : A) × (ending_at end d ≡ some v)
  ends_there next e f =
      let p = passed_next d next e in
      let q : ending_at end (found p.0 next) ≡ some p.0 = rw (eq-eqb next end f) in
      (p.0, ap (ending_at end) p.1 ∙ q)

  ends_elsewhere : (next : ℕ) → as_passed d ≡ Ok next → (next ≡ end → ⊥) → ending_at end d ≡ none
  ends_elsewhere next e f =
      let p = passed_next d next e in
      let q : ending_at end (found p.0 next) ≡ none = rw (ne_eqb next end f) in
      ap (ending_at end) p.1 ∙ q

  ends_nowhere : (why : Refusal) (p : ℕ) → as_passed d ≡ Err (refused_at why p) → ending_at end d ≡ none
  ends_nowhere why p e = ap (ending_at end) (passed_refused d why p e)

-- the same of one value, and of entries
module _ (g : Form) (xs : List ℕ) where
  pub value_there : (next : ℕ) → as_passed (decode g xs 0) ≡ Ok next → next ≡ length xs → (v : Value g) × (value_in g xs ≡ some v)
  unfolding value_in
  value_there = ends_there (decode g xs 0) (length xs)

  pub value_elsewhere : (next : ℕ) → as_passed (decode g xs 0) ≡ Ok next → (next ≡ length xs → ⊥) → value_in g xs ≡ none
  unfolding value_in
  value_elsewhere = ends_elsewhere (decode g xs 0) (length xs)

  pub value_nowhere : (why : Refusal) (p : ℕ) → as_passed (decode g xs 0) ≡ Err (refused_at why p) → value_in g xs ≡ none
  unfolding value_in
  value_nowhere = ends_nowhere (decode g xs 0) (length xs)

  module _ (count : ℕ) where
    pub entries_there : (next : ℕ) → as_passed (entries (decode g xs) count 0) ≡ Ok next → next ≡ length xs
        → (vs : List (Value g)) × (entries_in g count xs ≡ some vs)
    unfolding entries_in
    entries_there = ends_there (entries (decode g xs) count 0) (length xs)

    pub entries_elsewhere : (next : ℕ) → as_passed (entries (decode g xs) count 0) ≡ Ok next → (next ≡ length xs → ⊥) → entries_in g count xs ≡ none
    unfolding entries_in
    entries_elsewhere = ends_elsewhere (entries (decode g xs) count 0) (length xs)

    pub entries_nowhere : (why : Refusal) (p : ℕ) → as_passed (entries (decode g xs) count 0) ≡ Err (refused_at why p) → entries_in g count xs ≡ none
    unfolding entries_in
    entries_nowhere = ends_nowhere (entries (decode g xs) count 0) (length xs)
