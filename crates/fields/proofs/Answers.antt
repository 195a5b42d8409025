-- What the answers of the reads of parts say of what was found. Assumes nothing.
use Prim.Native.Nat.{ℕ}
use native.Mathlib.Omega.{arith}
use mathlib.Core.Path.{◌≡◌, sym, ap, ◌∙◌}
use Rattle.std.specs.Prelude.{Result, Ok, Err, IsErrAnd}
use Rattle.std.proofs.lemmas.Result.{err_from_is_err_and}
use Rattle.xdr.proofs.Reading.{same_read}
use Rattle.sflow.specs.declared.Refused.{Refused}
use Rattle.sflow.specs.Decode.{Decoded, found, refused, refused_at, as_read, mapped}
use Rattle.fields.specs.Parts.{as_passed}
use Rattle.fields.proofs.Passing.{passed_mapped, refusing}

-- what a `?` passes up is the error that it was given, seen as its own
pub passed_up : {T E : Type 0} (r : Result T E) (e : E) → IsErrAnd r (λ y. y ≡ e) → r ≡ Err e
passed_up r e h = let p = err_from_is_err_and r h in p.1 ∙ ap Err p.2

-- the answer of a value tells what was found
pub read_told : {A : Type 0} (d : Decoded A) (v : A) (next : ℕ) → as_read d ≡ Ok (v, next) → d ≡ found v next
read_told (found w n) v next e = let s = same_read e in rw (s.0, s.1)
read_told (refused why p) v next e = let z : ◌≡◌ {A = ℕ} 0 1 = cc in absurd (omega arith)

-- the answer of a refusal tells that it was refused, and where
pub read_refused : {A : Type 0} (d : Decoded A) (r : Refused) → as_read d ≡ Err r → d ≡ refused r.why r.at
read_refused (found w n) r e = let z : ◌≡◌ {A = ℕ} 0 1 = cc in absurd (omega arith)
read_refused {A} (refused why p) r e = let s : refused_at why p ≡ r = cc in ap (refusing A) s

-- what an answer about a view says of passing over
pub passed_told : {A B : Type 0} (view : A → B) (d : Decoded A) (v : B) (next : ℕ) → as_read (mapped view d) ≡ Ok (v, next) → as_passed d ≡ Ok next
passed_told view d v next e = sym (passed_mapped view d) ∙ ap as_passed (read_told (mapped view d) v next e)

pub passing_refused : {A B : Type 0} (view : A → B) (d : Decoded A) (r : Refused) → as_read (mapped view d) ≡ Err r → as_passed d ≡ Err r
passing_refused view d r e = sym (passed_mapped view d) ∙ ap as_passed (read_refused (mapped view d) r e)
