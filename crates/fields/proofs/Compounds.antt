-- What is found, seen in another way: views of views, of one form behind another, of lists and of enumerations. Assumes nothing.
use Prim.Native.Nat.{ℕ, ◌+◌, ◌≤◌}
use native.Mathlib.Omega.{arith}
use mathlib.Core.Path.{◌≡◌, refl, ap, ◌∙◌}
use mathlib.Core.Bool.{true, false}
use mathlib.Core.List.{List}
use borrow.Author.Tests.{le-leb, lt-leb}
use Rattle.xdr.specs.Items.{word_at}
use mathlib.Core.Logic.{⊎_elim}
use Rattle.xdr.proofs.Reading.{word_read, tested}
use Rattle.sflow.specs.declared.Refusal.{Refusal}
use Rattle.sflow.specs.Grammar.{Form, list, ◌then◌, Value, one_to, enumeration}
use Rattle.sflow.specs.Decode.{Decoded, found, refused, mapped, entries, decode}
use Rattle.sflow.proofs.Steps.{union_arm, union_bad, list_word, then_found, then_refused, entries_count}
use Rattle.sflow.proofs.Ends.{end_is}
use Rattle.fields.specs.Parts.{size, entries_at, as_passed}
use Rattle.fields.proofs.Passing.{passed_next, passed_refused}
use Rattle.std.specs.Prelude.{Ok, Err}
use Rattle.std.specs.Prelude.{Ok, Err}
use Rattle.sflow.specs.Decode.{refused_at}

-- a view of a view
pub mapped_again : {A B C : Type 0} (f : B → C) (g : A → B) (d : Decoded A) → mapped (λ v. f (g v)) d ≡ mapped f (mapped g d)
mapped_again f g (found v next) = refl
mapped_again f g (refused why p) = refl

-- what a view shows, seen in another way
pub wrapped : {A B C : Type 0} (f : B → C) (g : A → B) (d : Decoded A) (e : Decoded B) → mapped g d ≡ e → mapped (λ v. f (g v)) d ≡ mapped f e
wrapped f g d e h = mapped_again f g d ∙ ap (mapped f) h

-- a value that was found, and its view
pub record Seen {A B : Type 0} (view : A → B) (d : Decoded A) (x : B) (next : ℕ) : Type 0 where
  pub value : A
  pub found_is : d ≡ found value next
  pub view_is : view value ≡ x

-- a view that was found is that of a value that was found
pub seen : {A B : Type 0} (view : A → B) (d : Decoded A) (x : B) (next : ℕ) → mapped view d ≡ found x next → Seen view d x next
seen view (found v n) x next e = let f : n ≡ next = cc in record { value = v; found_is = ap (found v) f; view_is = cc }
seen view (refused why p) x next e = let z : ◌≡◌ {A = ℕ} 0 1 = cc in absurd (omega arith)

-- a view does not change a refusal
pub seen_refused : {A B : Type 0} (view : A → B) (d : Decoded A) (why : Refusal) (p : ℕ) → mapped view d ≡ refused why p → d ≡ refused why p
seen_refused view (found v n) why p e = let z : ◌≡◌ {A = ℕ} 0 1 = cc in absurd (omega arith)
seen_refused view (refused w q) why p e = cc

-- ---- one form behind another

module _ (f g : Form) (s : List ℕ) (at : ℕ) {A B : Type 0} (first : Value f → B) where
  -- both are seen by the view of the first and the offset behind it
  pub then_seen : (both : B → ℕ → Value g → A) (x : B) (next : ℕ) → mapped first (decode f s at) ≡ found x next
      → mapped (λ v. both (first v.0) (at + size f v.0) v.1) (decode (f then g) s at) ≡ mapped (both x next) (decode g s next)
  then_seen both x next e =
      let r = seen first (decode f s at) x next e in
      then_found f g s at _ r.value next r.found_is ∙ rw (r.view_is, ← end_is f s at r.value next r.found_is)

  -- the first is refused
  pub then_unseen : (view : Value (f then g) → A) (why : Refusal) (p : ℕ) → mapped first (decode f s at) ≡ refused why p
      → mapped view (decode (f then g) s at) ≡ refused why p
  then_unseen view why p e = then_refused f g s at view why p (seen_refused first (decode f s at) why p e)

-- ---- lists

module _ (g : Form) (s : List ℕ) (at n first : ℕ) (e : word_at s at ≡ Ok (n, first)) where
  -- a list whose entries are all there
  pub list_seen : (next : ℕ) → as_passed (entries (decode g s) n first) ≡ Ok next
      → mapped (entries_at (at + 4)) (decode (list g) s at) ≡ found (record { at = first; count = n }) next
  list_seen next h =
      let r = passed_next (entries (decode g s) n first) next h in
      list_word g s at (entries_at (at + 4)) n first e
      ∙ rw (r.1, entries_count (decode g s) n first r.0 next r.1, (word_read s at n first e).next_is)

  -- a list with an entry that is refused
  pub list_unseen : {A : Type 0} (view : List (Value g) → A) (why : Refusal) (p : ℕ) → as_passed (entries (decode g s) n first) ≡ Err (refused_at why p)
      → mapped view (decode (list g) s at) ≡ refused why p
  list_unseen view why p h = list_word g s at view n first e ∙ rw (passed_refused (entries (decode g s) n first) why p h)

-- ---- enumerations

-- a value from 1 on, up to the last, and any other
pub one_to_in : (most v : ℕ) → 1 ≤ v → v ≤ most → one_to most v ≡ true
one_to_in most v low high = rw (le-leb 1 v low, le-leb v most high)

pub one_to_out : (most v : ℕ) → (1 ≤ v → v ≤ most → ⊥) → one_to most v ≡ false
one_to_out most v out =
    ⊎_elim
    (λ low. ⊎_elim (λ high. absurd (out low.0 high.0)) (λ high. rw (le-leb 1 v low.0, lt-leb v most high.0)) (tested v most true false _ refl))
    (λ low. rw (lt-leb 1 v low.0))
    (tested 1 v true false _ refl)

module _ (why : Refusal) (most : ℕ) (f : Form) (s : List ℕ) (at : ℕ) {A : Type 0} (view : Value (enumeration why most f) → A) (v next : ℕ) (e : word_at s at ≡ Ok (v, next)) where
  pub enumeration_in : one_to most v ≡ true → mapped view (decode (enumeration why most f) s at) ≡ mapped (λ w. view (v, w)) (decode f s next)
  enumeration_in t = union_arm _ _ _ s at view v next e t

  pub enumeration_out : one_to most v ≡ false → mapped view (decode (enumeration why most f) s at) ≡ refused why at
  enumeration_out t = union_bad _ _ _ s at view v next e t
