-- What reading a form finds, step by step as code reads it: each law takes what an item read has answered. Assumes nothing.
use Prim.Native.Nat.{ℕ, zero, suc, ◌+◌, ◌*◌, ◌^◌, ◌≤◌, ◌<◌}
use native.Mathlib.Omega.{arith}
use mathlib.Core.Path.{◌≡◌, refl, sym, ap, ◌∙◌}
use mathlib.Core.List.{List, [], ◌∷◌}
use mathlib.Core.Bool.{Bool, true, false, cond}
use lib.ListN.{length, take, drop}
use borrow.Author.Tests.{le-leb, lt-leb}
use Rattle.xdr.specs.Numbers.{number_at, quad_number}
use Rattle.xdr.specs.Items.{word_at, quad_at, items_at, numbers_at, padded_at}
use Rattle.xdr.proofs.Octets.{number_join}
use Rattle.xdr.proofs.Reading.{WordsRead, word_read, word_cut, word_short, quad_read, quad_cut, quad_short}
use Rattle.sflow.specs.declared.Refusal.{Refusal}
use Rattle.sflow.specs.declared.Refusal.TheVariants.{CutItem}
use Rattle.sflow.specs.Grammar.{unlimited, at_most, Form, fixed, discriminated, opaque, list, ◌then◌, Value}
use Rattle.sflow.specs.Decode.{Decoded, found, refused, and_then, mapped, word_item, fixed_items, string_item, entries, decode}
use Rattle.std.specs.Prelude.{Result, Ok, Err, Option, Some, None}
use Rattle.xdr.specs.Items.{cut}
use Rattle.xdr.specs.declared.Cut.{Cut}
use Rattle.xdr.specs.declared.Quad.{Quad}
use Rattle.xdr.specs.declared.Unpadded.{Unpadded}
use Rattle.xdr.specs.declared.Unpadded.TheVariants.{CutShort, NonzeroPadding}

-- ---- fixed items

fixed_cons : (x : ℕ) (ns : List ℕ) (r : Result ℕ Cut) → fixed_items (x ∷ ns) r ≡ mapped (λ vs. x ∷ vs) (fixed_items ns r)
fixed_cons x ns (Ok next) = refl
fixed_cons x ns (Err p) = refl

-- an item of any width that is there, and one that is cut short
pub fixed_step : (s : List ℕ) (at w : ℕ) (ws : List ℕ) → at + w ≤ length s
    → decode (fixed (w ∷ ws)) s at ≡ mapped (λ vs. number_at s at w ∷ vs) (decode (fixed ws) s (at + w))
unfolding decode items_at numbers_at
fixed_step s at w ws h = rw (le-leb (at + w) (length s) h) (fixed_cons (number_at s at w) (numbers_at s (at + w) ws) (items_at s (at + w) ws))

pub fixed_stop : (s : List ℕ) (at w : ℕ) (ws : List ℕ) → length s < at + w → decode (fixed (w ∷ ws)) s at ≡ refused CutItem at
unfolding decode items_at numbers_at
fixed_stop s at w ws h = rw (lt-leb (at + w) (length s) h)

pub fixed_end : (s : List ℕ) (at : ℕ) → decode (fixed []) s at ≡ found [] at
unfolding decode items_at numbers_at
fixed_end s at = refl

pub fixed_word : (s : List ℕ) (at v next : ℕ) (ws : List ℕ) → word_at s at ≡ Ok (v, next)
    → decode (fixed (4 ∷ ws)) s at ≡ mapped (λ vs. v ∷ vs) (decode (fixed ws) s next)
fixed_word s at v next ws e = let r = word_read s at v next e in rw (r.value_is, r.next_is) (fixed_step s at 4 ws r.room)

pub fixed_word_cut : (s : List ℕ) (at p : ℕ) (ws : List ℕ) → word_at s at ≡ cut p → decode (fixed (4 ∷ ws)) s at ≡ refused CutItem p
fixed_word_cut s at p ws e = fixed_stop s at 4 ws (word_short s at p e) ∙ ap (refused CutItem) (sym (word_cut s at p e))

pub fixed_quad : (s : List ℕ) (at : ℕ) (q : Quad) (next : ℕ) (ws : List ℕ) → quad_at s at ≡ Ok (q, next)
    → decode (fixed (16 ∷ ws)) s at ≡ mapped (λ vs. quad_number q.a q.b q.c q.d ∷ vs) (decode (fixed ws) s next)
fixed_quad s at q next ws e =
    let r = quad_read s at q next e in
    let n : number_at s at 16 ≡ quad_number q.a q.b q.c q.d =
    number_join s at 4 12 ∙ rw (number_join s (at + 4) 4 8, number_join s (at + 4 + 4) 4 4) (quad_value r) in
    rw (← n, r.next_is) (fixed_step s at 16 ws r.room)
  where
    quad_value : WordsRead s at q next → number_at s at 4 * 256 ^ 12 + (number_at s (at + 4) 4 * 256 ^ 8 + (number_at s (at + 4 + 4) 4 * 256 ^ 4 + number_at s (at + 4 + 4 + 4) 4)) ≡ quad_number q.a q.b q.c q.d
    quad_value r =
        let e1 : at + 4 + 4 ≡ at + 8 = omega arith in
        let e2 : at + 8 + 4 ≡ at + 12 = omega arith in
        rw (e1, e2, r.value_is) (omega arith)

pub fixed_quad_cut : (s : List ℕ) (at p : ℕ) (ws : List ℕ) → quad_at s at ≡ cut p → decode (fixed (16 ∷ ws)) s at ≡ refused CutItem p
fixed_quad_cut s at p ws e = fixed_stop s at 16 ws (quad_short s at p e) ∙ ap (refused CutItem) (sym (quad_cut s at p e))

-- ---- unions

module _ (why : Refusal) (test : ℕ → Bool) (arms : ℕ → Form) (s : List ℕ) (at : ℕ) {A : Type 0} (view : Value (discriminated why test arms) → A) where
  pub union_cut : (p : ℕ) → word_at s at ≡ cut p → mapped view (decode (discriminated why test arms) s at) ≡ refused CutItem p
  unfolding decode
  union_cut p e = rw e

  pub union_bad : (v next : ℕ) → word_at s at ≡ Ok (v, next) → test v ≡ false → mapped view (decode (discriminated why test arms) s at) ≡ refused why at
  unfolding decode
  union_bad v next e f = rw (e, f)

  pub union_arm : (v next : ℕ) → word_at s at ≡ Ok (v, next) → test v ≡ true
      → mapped view (decode (discriminated why test arms) s at) ≡ mapped (λ w. view (v, w)) (decode (arms v) s next)
  unfolding decode
  union_arm v next e f = rw (e, f) (go (decode (arms v) s next))
    where
      go : (d : Decoded (Value (arms v))) → mapped view (and_then d λ w end. found (v, w) end) ≡ mapped (λ w. view (v, w)) d
      go (found w end) = refl
      go (refused why p) = refl

-- a union is a word that passes the test, and its arm
pub union_is : (why : Refusal) (test : ℕ → Bool) (arms : ℕ → Form) (s : List ℕ) (at : ℕ)
    → decode (discriminated why test arms) s at
    ≡ and_then (word_item (word_at s at)) λ v next.
    cond (test v) (and_then (decode (arms v) s next) λ w end. found (v, w) end) (refused why at)
unfolding decode
union_is why test arms s at = refl

-- ---- strings and lists

pub string_cut : (s : List ℕ) (at : ℕ) {A : Type 0} (view : List ℕ → A) (p : ℕ) → word_at s at ≡ cut p
    → mapped view (decode (opaque unlimited) s at) ≡ refused CutItem p
unfolding decode
string_cut s at view p e = rw e

pub string_word : (s : List ℕ) (at : ℕ) {A : Type 0} (view : List ℕ → A) (n next : ℕ) → word_at s at ≡ Ok (n, next)
    → mapped view (decode (opaque unlimited) s at) ≡ mapped view (string_item (take n (drop next s)) (padded_at s next n))
unfolding decode
string_word s at view n next e = rw e

-- a string with a limit
module _ (most : ℕ) (why : Refusal) (s : List ℕ) (at : ℕ) where
  pub limited_cut : (p : ℕ) → word_at s at ≡ cut p → decode (opaque (at_most most why)) s at ≡ refused CutItem p
  unfolding decode
  limited_cut p e = rw e

  pub limited_over : (n next : ℕ) → word_at s at ≡ Ok (n, next) → most < n → decode (opaque (at_most most why)) s at ≡ refused why at
  unfolding decode
  limited_over n next e h = rw (e, lt-leb n most h)

  pub limited_word : (n next : ℕ) → word_at s at ≡ Ok (n, next) → n ≤ most
      → decode (opaque (at_most most why)) s at ≡ string_item (take n (drop next s)) (padded_at s next n)
  unfolding decode
  limited_word n next e h = rw (e, le-leb n most h)

pub list_cut : (g : Form) (s : List ℕ) (at : ℕ) {A : Type 0} (view : List (Value g) → A) (p : ℕ) → word_at s at ≡ cut p
    → mapped view (decode (list g) s at) ≡ refused CutItem p
unfolding decode
list_cut g s at view p e = rw e

pub list_word : (g : Form) (s : List ℕ) (at : ℕ) {A : Type 0} (view : List (Value g) → A) (n next : ℕ) → word_at s at ≡ Ok (n, next)
    → mapped view (decode (list g) s at) ≡ mapped view (entries (decode g s) n next)
unfolding decode
list_word g s at view n next e = rw e

-- a list is its count and so many entries
pub list_is : (g : Form) (s : List ℕ) (at : ℕ) → decode (list g) s at ≡ and_then (word_item (word_at s at)) λ n next. entries (decode g s) n next
unfolding decode
list_is g s at = refl

-- ---- one form behind another

pub then_is : (f g : Form) (s : List ℕ) (at : ℕ)
    → decode (f then g) s at ≡ and_then (decode f s at) λ v next. and_then (decode g s next) λ w end. found (v, w) end
unfolding decode
then_is f g s at = refl

module _ (f g : Form) (s : List ℕ) (at : ℕ) {A : Type 0} (view : Value (f then g) → A) where
  pub then_refused : (why : Refusal) (p : ℕ) → decode f s at ≡ refused why p → mapped view (decode (f then g) s at) ≡ refused why p
  unfolding decode
  then_refused why p e = rw e

  pub then_found : (v : Value f) (next : ℕ) → decode f s at ≡ found v next
      → mapped view (decode (f then g) s at) ≡ mapped (λ w. view (v, w)) (decode g s next)
  unfolding decode
  then_found v next e = rw e (go (decode g s next))
    where
      go : (d : Decoded (Value g)) → mapped view (and_then d λ w end. found (v, w) end) ≡ mapped (λ w. view (v, w)) d
      go (found w end) = refl
      go (refused why p) = refl

-- ---- entries

abbrev Counted : {A : Type 0} → ℕ → Decoded (List A) → Type 0
Counted n (found vs next) = length vs ≡ n
Counted n (refused why p) = Unit {0}

counted : {A : Type 0} (f : ℕ → Decoded A) (n at : ℕ) → Counted n (entries f n at)
unfolding entries
counted f zero at = refl
counted {A} f (suc n) at = go (f at) (counted f n)
  where
    rest : (v : A) (d : Decoded (List A)) → Counted n d → Counted (suc n) (and_then d λ vs end. found (v ∷ vs) end)
    rest v (found vs end) h = ap suc h
    rest v (refused why p) h = tt

    go : (d : Decoded A) → ((next : ℕ) → Counted n (entries f n next))
        → Counted (suc n) (and_then d λ v next. and_then (entries f n next) λ vs end. found (v ∷ vs) end)
    go (found v next) more = rest v (entries f n next) (more next)
    go (refused why p) more = tt

-- what is found are as many as were asked for
pub entries_count : {A : Type 0} (f : ℕ → Decoded A) (n at : ℕ) (vs : List A) (next : ℕ) → entries f n at ≡ found vs next → length vs ≡ n
entries_count f n at vs next e = rw e at (counted f n at)
