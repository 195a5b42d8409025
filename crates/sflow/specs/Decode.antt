-- What reading a form finds: items from left to right, of each first that it is there and then its value.
use Rattle.std.specs.Prelude.{ℕ, zero, suc, cond, ◌≡◌, List, [], ◌∷◌, length, take, drop, leb, eqb, Result, Ok, Err}
use Rattle.std.proofs.Math.Option.{Option, none, some}
use Rattle.xdr.specs.Items.{word_at, items_at, numbers_at, padded_at}
use Rattle.xdr.specs.declared.Cut.{Cut}
use Rattle.xdr.specs.declared.Unpadded.{Unpadded}
use Rattle.xdr.specs.declared.Unpadded.TheVariants.{CutShort, NonzeroPadding}
use Rattle.sflow.specs.declared.Refused.{Refused}
use Rattle.sflow.specs.declared.Refusal.{Refusal}
use Rattle.sflow.specs.declared.Refusal.TheVariants.{CutItem, CutString, Padding}
use Rattle.sflow.specs.Grammar.{Limit, unlimited, at_most, Form, fixed, discriminated, opaque, list, ◌then◌, Value}

-- a value and the offset behind it, or a refusal with its place
pub data Decoded (A : Type 0) : Type 0 where
  found : A → ℕ → Decoded A
  refused : Refusal → ℕ → Decoded A

-- goes on with what was found; a refusal stays
abbrev pub and_then : {A B : Type 0} → Decoded A → (A → ℕ → Decoded B) → Decoded B
and_then (found v next) f = f v next
and_then (refused why p) f = refused why p

-- what is found, seen in another way; a refusal stays
abbrev pub mapped : {A B : Type 0} → (A → B) → Decoded A → Decoded B
mapped f (found v next) = found (f v) next
mapped f (refused why p) = refused why p

-- a refusal with its place
abbrev pub refused_at : Refusal → ℕ → Refused
refused_at why p = record { why = why; at = p }

-- what code answers: the value with the offset behind it, or the refusal with its place
abbrev pub as_read : {A : Type 0} → Decoded A → Result (A × ℕ) Refused
as_read (found v next) = Ok (v, next)
as_read (refused why p) = Err (refused_at why p)

-- ---- items

abbrev pub cut_refused : Cut → Refused
cut_refused cut = refused_at CutItem cut.at

abbrev pub word_item : Result (ℕ × ℕ) Cut → Decoded ℕ
word_item (Ok r) = found r.0 r.1
word_item (Err cut) = refused CutItem cut.at

abbrev pub fixed_items : List ℕ → Result ℕ Cut → Decoded (List ℕ)
fixed_items vs (Ok next) = found vs next
fixed_items vs (Err cut) = refused CutItem cut.at

abbrev pub unpadded_refused : Unpadded → Refused
unpadded_refused (CutShort p) = refused_at CutString p
unpadded_refused (NonzeroPadding p) = refused_at Padding p

abbrev pub string_item : List ℕ → Result ℕ Unpadded → Decoded (List ℕ)
string_item xs (Ok next) = found xs next
string_item xs (Err unpadded) = let r = unpadded_refused unpadded in refused r.why r.at

-- a string of a length whose length word stands at an offset: its limit comes before its octets
abbrev pub limited : {A : Type 0} → Limit → ℕ → ℕ → Decoded A → Decoded A
limited unlimited n at d = d
limited (at_most most why) n at d = cond (leb n most) d (refused why at)

-- ---- forms

-- so many entries, one behind the other
unfoldable pub entries : {A : Type 0} → (ℕ → Decoded A) → ℕ → ℕ → Decoded (List A)
entries f zero at = found [] at
entries f (suc n) at = and_then (f at) λ v next. and_then (entries f n next) λ vs end. found (v ∷ vs) end

-- a form at an offset
unfoldable pub decode : (g : Form) → List ℕ → ℕ → Decoded (Value g)
decode (fixed ws) s at = fixed_items (numbers_at s at ws) (items_at s at ws)
decode (discriminated why test arms) s at =
    and_then (word_item (word_at s at)) λ v next.
    cond (test v) (and_then (decode (arms v) s next) λ w end. found (v, w) end) (refused why at)
decode (opaque limit) s at =
    and_then (word_item (word_at s at)) λ n next.
    limited limit n at (string_item (take n (drop next s)) (padded_at s next n))
decode (list entry) s at = and_then (word_item (word_at s at)) λ n next. entries (decode entry s) n next
decode (f then g) s at = and_then (decode f s at) λ v next. and_then (decode g s next) λ w end. found (v, w) end

-- ---- octets that are exactly a value

-- what is found, where it ends at the end
abbrev pub ending_at : {A : Type 0} → ℕ → Decoded A → Option A
ending_at end (found v next) = cond (eqb next end) (some v) none
ending_at end (refused why p) = none

-- the value that octets are exactly the octets of, if there is one
unfoldable pub value_in : (g : Form) → List ℕ → Option (Value g)
value_in g xs = ending_at (length xs) (decode g xs 0)

-- the entries that octets are exactly the octets of, so many, if there are
unfoldable pub entries_in : (g : Form) → ℕ → List ℕ → Option (List (Value g))
entries_in g count xs = ending_at (length xs) (entries (decode g xs) count 0)

-- the values that a reader finds from an offset on lie end to end: each begins where the one before it ends, and the last ends at end
abbrev pub EndToEnd : {A : Type 0} → (ℕ → Decoded A) → ℕ → List A → ℕ → Type 0
EndToEnd f at [] end = at ≡ end
EndToEnd f at (v ∷ vs) end = (next : ℕ) × (f at ≡ found v next) × EndToEnd f next vs end
