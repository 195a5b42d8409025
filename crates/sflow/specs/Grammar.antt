-- Forms of XDR data (RFC 1832) as data: their values and the octets of a value.
use Rattle.std.specs.Prelude.{ℕ, ◌^◌, ◌≤◌, ◌<◌, Bool, true, false, cond, ◌&&◌, ◌||◌, length, T, eqb, ltb, leb}
use mathlib.Core.List.{List, [], ◌∷◌, ◌++◌, flat_map}
use Rattle.std.proofs.Math.Option.{Option, none, some}
use Rattle.xdr.specs.Numbers.{Octets, octets_of}
use Rattle.xdr.specs.Writes.{padded_octets}
use Rattle.sflow.specs.declared.Refusal.{Refusal}

-- how long a string may be: any length that a word holds, or at most so many octets with the refusal of a longer one
pub data Limit : Type 0 where
  unlimited : Limit
  at_most : ℕ → Refusal → Limit

pub data Form : Type 0 where
  -- items of these widths in octets, of any value: words, hypers, the octets of addresses
  fixed : List ℕ → Form
  -- a word that has to pass a test, or else the refusal, and what follows by its value: an enumeration, or a union and its discriminant
  discriminated : Refusal → (ℕ → Bool) → (ℕ → Form) → Form
  -- a string: a length word, the octets, zero octets up to a multiple of four
  opaque : Limit → Form
  -- a list: a count word and so many entries
  list : Form → Form
  -- one form behind another
  ◌then◌ : Form → Form → Form

infixr 20 ◌then◌
-- ---- values

-- the values of a form: a number for each fixed item, the discriminant with the value that follows it, the octets of a string,
-- the entries of a list
abbrev pub Value : Form → Type 0
Value (fixed ws) = List ℕ
Value (discriminated why test arms) = (v : ℕ) × Value (arms v)
Value (opaque limit) = List ℕ
Value (list entry) = List (Value entry)
Value (f then g) = Value f × Value g

-- each number fits its width, and there are as many as widths
abbrev pub Fits : List ℕ → List ℕ → Type 0
Fits [] [] = Unit {0}
Fits [] (v ∷ vs) = ⊥
Fits (w ∷ ws) [] = ⊥
Fits (w ∷ ws) (v ∷ vs) = (v < 256 ^ w) × Fits ws vs

-- a length is within a limit
abbrev pub Within : Limit → ℕ → Type 0
Within unlimited n = Unit {0}
Within (at_most most why) n = n ≤ most

-- every entry of a list has a property
abbrev pub Each : {A : Type 0} → (A → Type 0) → List A → Type 0
Each P [] = Unit {0}
Each P (x ∷ xs) = P x × Each P xs

-- the values that the form allows
abbrev pub Valid : (g : Form) → Value g → Type 0
Valid (fixed ws) vs = Fits ws vs
Valid (discriminated why test arms) v = (v.0 < 2 ^ 32) × T (test v.0) × Valid (arms v.0) v.1
Valid (opaque limit) xs = (length xs < 2 ^ 32) × Within limit (length xs) × Octets xs
Valid (list entry) vs = (length vs < 2 ^ 32) × Each (Valid entry) vs
Valid (f then g) v = Valid f v.0 × Valid g v.1

-- ---- the same as tests: a writer takes a value exactly where the form allows it (`allows_exactly`)

abbrev pub each_fits : List ℕ → List ℕ → Bool
each_fits [] [] = true
each_fits [] (v ∷ vs) = false
each_fits (w ∷ ws) [] = false
each_fits (w ∷ ws) (v ∷ vs) = ltb v (256 ^ w) && each_fits ws vs

abbrev pub within : Limit → ℕ → Bool
within unlimited n = true
within (at_most most why) n = leb n most

abbrev pub every : {A : Type 0} → (A → Bool) → List A → Bool
every test [] = true
every test (x ∷ xs) = test x && every test xs

-- a word holds the length of a string or the count of a list
abbrev pub countable : {A : Type 0} → List A → Bool
countable xs = ltb (length xs) (2 ^ 32)

abbrev pub octet : ℕ → Bool
octet x = ltb x 256

unfoldable pub allows : (g : Form) → Value g → Bool
allows (fixed ws) vs = each_fits ws vs
allows (discriminated why test arms) v = ltb v.0 (2 ^ 32) && (test v.0 && allows (arms v.0) v.1)
allows (opaque limit) xs = countable xs && (within limit (length xs) && every octet xs)
allows (list entry) vs = countable vs && every (allows entry) vs
allows (f then g) v = allows f v.0 && allows g v.1

-- ---- octets

-- the octets of numbers of these widths
unfoldable pub octets_of_each : List ℕ → List ℕ → List ℕ
octets_of_each [] vs = []
octets_of_each (w ∷ ws) [] = []
octets_of_each (w ∷ ws) (v ∷ vs) = octets_of w v ++ octets_of_each ws vs

-- the octets of a value
unfoldable pub encode : (g : Form) → Value g → List ℕ
encode (fixed ws) vs = octets_of_each ws vs
encode (discriminated why test arms) v = octets_of 4 v.0 ++ encode (arms v.0) v.1
encode (opaque limit) xs = octets_of 4 (length xs) ++ padded_octets xs
encode (list entry) vs = octets_of 4 (length vs) ++ flat_map (encode entry) vs
encode (f then g) v = encode f v.0 ++ encode g v.1

-- ---- a value that may be missing

-- a value is given, and the form allows it
abbrev pub allows_given : (g : Form) → Option (Value g) → Bool
allows_given g none = false
allows_given g (some v) = allows g v

abbrev pub encode_given : (g : Form) → Option (Value g) → List ℕ
encode_given g none = []
encode_given g (some v) = encode g v

-- ---- ways to write a form

-- a union's arm: a value of the discriminant, and what stands behind it
pub data Arm (A : Type 0) : Type 0 where
  case : ℕ → A → Arm A

abbrev pub listed : {A : Type 0} → List (Arm A) → ℕ → Bool
listed [] v = false
listed (case n x ∷ arms) v = eqb v n || listed arms v

-- the arm of a value; past all arms the default, which no value that is listed comes to
abbrev pub chosen : {A : Type 0} → A → List (Arm A) → ℕ → A
chosen default [] v = default
chosen default (case n x ∷ arms) v = cond (eqb v n) x (chosen default arms v)

-- a union whose discriminant is one of the arms', or else the refusal
abbrev pub one_of : Refusal → List (Arm Form) → Form
one_of why arms = discriminated why (listed arms) (chosen (fixed []) arms)

-- the same where every arm is a run of fixed items, given by their widths
abbrev pub one_of_fixed : Refusal → List (Arm (List ℕ)) → Form
one_of_fixed why arms = discriminated why (listed arms) (λ v. fixed (chosen [] arms v))

-- a word of one value, or else the refusal, and what follows it
abbrev pub constant : Refusal → ℕ → Form → Form
constant why n f = discriminated why (λ v. eqb v n) (λ v. f)

-- from 1 to a number
abbrev pub one_to : ℕ → ℕ → Bool
one_to most v = cond (leb 1 v) (leb v most) false

-- an enumeration from 1 to a number, or else the refusal, and what follows it
abbrev pub enumeration : Refusal → ℕ → Form → Form
enumeration why most f = discriminated why (one_to most) (λ v. f)
