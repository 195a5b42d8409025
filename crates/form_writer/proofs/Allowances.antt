-- What a writer answers of a value: the octets of one that its form allows, 22 of any other. Assumes nothing.
use Prim.Native.Nat.{ℕ}
use mathlib.Core.Path.{◌≡◌, ◌∙◌}
use mathlib.Core.Bool.{Bool, true, false}
use mathlib.Core.List.{List}
use mathlib.Core.Option.{Option, none, some}
use Rattle.std.specs.Prelude.{Result, Err}
use Rattle.xdr.specs.Writes.{afterwards}
use Rattle.sflow.specs.Grammar.{Form, Value, Valid, encode}
use Rattle.sflow.proofs.Allows.{valid_allowed, invalid_refused}
use Rattle.form_writer.specs.declared.parts.WriteRefusal.{WriteRefusal}
use Rattle.form_writer.specs.declared.parts.WriteRefusal.TheVariants.{BadValue}
use Rattle.form_writer.specs.Parts.{write_alone, write_value, write_given}

-- octets that are not allowed change nothing
pub refused_value : (allowed : Bool) (xs d : List ℕ) → allowed ≡ false → afterwards (Err BadValue) d ≡ write_value allowed xs d
refused_value allowed xs d e = rw e

-- octets that are allowed are written
pub allowed_value : (allowed : Bool) (xs ys d e : List ℕ) (r : Result ℕ WriteRefusal) → allowed ≡ true → ys ≡ xs → afterwards r e ≡ write_alone ys d
    → afterwards r e ≡ write_value allowed xs d
allowed_value allowed xs ys d e r t same f = f ∙ rw (t, same)

-- no value is given
pub none_given : (g : Form) (x : Option (Value g)) (d : List ℕ) → x ≡ none → afterwards (Err BadValue) d ≡ write_given g x d
none_given g x d e = rw e

-- a value that the form does not allow
pub not_allowed : (g : Form) (v : Value g) (d : List ℕ) → (Valid g v → ⊥) → afterwards (Err BadValue) d ≡ write_given g (some v) d
not_allowed g v d n = refused_value _ _ _ (invalid_refused g v n)

-- the same by a refusal that is handed on
pub not_allowed_so : (g : Form) (v : Value g) (d : List ℕ) (r : Result ℕ WriteRefusal) → r ≡ Err BadValue → (Valid g v → ⊥) → afterwards r d ≡ write_given g (some v) d
not_allowed_so g v d r e n = rw e (not_allowed g v d n)

-- a value that it allows, written as its octets
pub value_written : (g : Form) (v : Value g) (ys d e : List ℕ) (r : Result ℕ WriteRefusal) → Valid g v → ys ≡ encode g v → afterwards r e ≡ write_alone ys d
    → afterwards r e ≡ write_given g (some v) d
value_written g v ys d e r h same f = allowed_value _ _ _ _ _ _ (valid_allowed g v h) same f

-- the same of a value that was found to be given
pub given_written : (g : Form) (x : Option (Value g)) (v : Value g) (ys d e : List ℕ) (r : Result ℕ WriteRefusal) → x ≡ some v → Valid g v → ys ≡ encode g v
    → afterwards r e ≡ write_alone ys d → afterwards r e ≡ write_given g x d
given_written g x v ys d e r given h same f = rw given (value_written g v ys d e r h same f)
