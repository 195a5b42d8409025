-- One record more.
use Rattle.std.specs.Prelude.{◌≡◌, ℕ, List, [], ◌∷◌, ◌++◌, length, take, Option, Result, Ok}
use Rattle.std.proofs.lemmas.Fn.{FoldsTo-push}
use Rattle.vector_io.specs.Records.{Given, EachRecord}
use mathlib.Core.Path.{refl, subst}
use denote.Ref.{Bor, MutBor}

pub one_more : {W E : Type 0} (calls : MutBor W → Bor (List ℕ) → Result (Unit {0}) E → MutBor W → Type 0)
    → (before : Option (List ℕ)) (w : W) (mid : Option (List ℕ)) (lent : MutBor W) (after : Option (List ℕ)) (left : MutBor W)
    → (n : ℕ) (buffer : List ℕ) (shown : Bor (List ℕ)) (r : Result (Unit {0}) E) (x : Unit {0})
    → EachRecord calls before w mid lent.now → length shown.now ≡ n → shown.now ≡ take n buffer → Given mid n (take n buffer) after → calls lent shown r left → r ≡ Ok x
    → EachRecord calls before w after left.now
one_more calls before w mid lent after left n buffer shown r x so_far long front given called ok = record {
  records = so_far.records ++ (shown.now ∷ []);
  called = FoldsTo-push _ (before, w) so_far.records (mid, lent.now) shown.now (after, left.now) so_far.called (
    rw (long, front) given,
    record {
      lent = lent;
      shown = shown;
      left = left;
      lent_is = refl;
      shown_is = refl;
      left_is = refl;
      called = subst (λ (o : _). calls lent shown o left) ok called;
    },
  );
}
