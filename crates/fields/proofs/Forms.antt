-- Passing over forms, by what the reads of their items and the passing over their parts answer. Assumes nothing.
use Prim.Native.Nat.{ℕ, zero, suc, ◌+◌, ◌-◌, ◌≤◌, ◌<◌}
use native.Mathlib.Nat.{le_refl}
use native.Mathlib.Omega.{arith}
use mathlib.Core.Path.{◌≡◌, refl, sym, ap, ◌∙◌}
use mathlib.Core.Logic.{⊎_elim}
use mathlib.Core.Bool.{Bool, true, false}
use mathlib.Core.List.{List, [], ◌∷◌}
use lib.ListN.{length, take, drop, replicate}
use Rattle.xdr.specs.Numbers.{number_at}
use Rattle.xdr.specs.Items.{word_at, items_at, total_width, padded_at}
use Rattle.xdr.proofs.Reading.{tested}
use Rattle.xdr.proofs.Runs.{items_whole}
use Rattle.sflow.specs.declared.Refusal.{Refusal}
use Rattle.sflow.specs.declared.Refusal.TheVariants.{CutItem}
use Rattle.sflow.specs.Grammar.{Form, fixed, discriminated, opaque, unlimited, list, ◌then◌, Value}
use Rattle.sflow.specs.Decode.{Decoded, refused, mapped, string_item, entries, decode}
use Rattle.sflow.specs.Datagram.{word}
use Rattle.sflow.proofs.Steps.{fixed_step, fixed_stop, fixed_end, union_arm, union_cut, string_cut, string_word, list_cut, list_word, then_found, then_refused}
use Rattle.fields.specs.Parts.{as_passed}
use Rattle.fields.proofs.Passing.{passed_next, passed_refused, passed_mapped, passed_seen, passed_alike, passed_end, passed_step, passed_stop}
use Rattle.std.specs.Prelude.{Result, Ok, Err}
use Rattle.xdr.specs.Items.{cut}
use Rattle.std.specs.Prelude.{Result, Ok, Err}
use Rattle.sflow.specs.declared.Refused.{Refused}
use Rattle.sflow.specs.Decode.{refused_at}

-- what a view of a form shows says where the form ends
pub passed_view : (g : Form) (s : List ℕ) (at : ℕ) {A : Type 0} (view : Value g → A) (e : Decoded A) → mapped view (decode g s at) ≡ e
    → as_passed (decode g s at) ≡ as_passed e
passed_view g s at view e h = passed_seen view (decode g s at) e h

-- ---- runs of fixed items

-- the answer of reading a run
pub passed_run : (s : List ℕ) (at : ℕ) (ws : List ℕ) (next : ℕ) → items_at s at ws ≡ Ok next → as_passed (decode (fixed ws) s at) ≡ Ok next
unfolding decode
passed_run s at ws next e = rw e refl

pub passed_run_cut : (s : List ℕ) (at : ℕ) (ws : List ℕ) (p : ℕ) → items_at s at ws ≡ cut p → as_passed (decode (fixed ws) s at) ≡ Err (refused_at CutItem p)
unfolding decode
passed_run_cut s at ws p e = rw e refl

-- an item that is there, and one that is cut short
pub passed_item : (s : List ℕ) (at w : ℕ) → at + w ≤ length s → as_passed (decode (fixed (w ∷ [])) s at) ≡ Ok (at + w)
passed_item s at w h = rw (fixed_step s at w [] h, fixed_end)

pub passed_item_cut : (s : List ℕ) (at w : ℕ) → length s < at + w → as_passed (decode (fixed (w ∷ [])) s at) ≡ Err (refused_at CutItem at)
passed_item_cut s at w h = rw (fixed_stop s at w [] h)

-- a run whose octets are all there
pub passed_whole : (s : List ℕ) (at : ℕ) (ws : List ℕ) → at + total_width ws ≤ length s → as_passed (decode (fixed ws) s at) ≡ Ok (at + total_width ws)
passed_whole s at ws h = passed_run s at ws (at + total_width ws) (items_whole s at ws h)

-- a run of words is passed over as so many words are
words_run : (s : List ℕ) (n at : ℕ) → as_passed (decode (fixed (replicate n 4)) s at) ≡ as_passed (entries (decode word s) n at)
words_run s zero at = rw (fixed_end s at) (sym (passed_end (decode word s) 0 at (le_refl 0)))
words_run s (suc n) at =
    ⊎_elim
    (λ h.
    let less : suc n - 1 ≡ n = omega arith in
    rw (fixed_step s at 4 (replicate n 4) h.0) (passed_mapped (λ vs. number_at s at 4 ∷ vs) (decode (fixed (replicate n 4)) s (at + 4)))
    ∙ words_run s n (at + 4)
    ∙ rw (passed_step (decode word s) (suc n) at (at + 4) (omega arith) (passed_item s at 4 h.0), less) refl)
    (λ h.
    rw (fixed_stop s at 4 (replicate n 4) h.0)
    (sym (passed_stop (decode word s) (suc n) at CutItem at (omega arith) (passed_item_cut s at 4 h.0))))
    (tested (at + 4) (length s) true false _ refl)

pub passed_words : (s : List ℕ) (n at : ℕ) (r : Result ℕ Refused) → as_passed (entries (decode word s) n at) ≡ r → as_passed (decode (fixed (replicate n 4)) s at) ≡ r
passed_words s n at r e = words_run s n at ∙ e

-- ---- unions

module _ (why : Refusal) (test : ℕ → Bool) (arms : ℕ → Form) (s : List ℕ) (at : ℕ) where
  -- the discriminant is cut short
  pub passed_union_cut : (p : ℕ) → word_at s at ≡ cut p → as_passed (decode (discriminated why test arms) s at) ≡ Err (refused_at CutItem p)
  passed_union_cut p e = passed_view (discriminated why test arms) s at (λ v. v) (refused CutItem p) (union_cut why test arms s at (λ v. v) p e)

  -- it is a value that passes the test: that value's arm is left
  pub passed_arm : (v next : ℕ) → word_at s at ≡ Ok (v, next) → (n : ℕ) → v ≡ n → test n ≡ true
      → as_passed (decode (discriminated why test arms) s at) ≡ as_passed (decode (arms n) s next)
  passed_arm v next e n f t =
      passed_alike (λ v. v) (decode (discriminated why test arms) s at) (λ w. (n, w)) (decode (arms n) s next)
      (union_arm why test arms s at (λ v. v) n next (e ∙ ap (λ (m : ℕ). Ok (m, next)) f) t)

-- ---- strings and lists

pub passed_string_cut : (s : List ℕ) (at p : ℕ) → word_at s at ≡ cut p → as_passed (decode (opaque unlimited) s at) ≡ Err (refused_at CutItem p)
passed_string_cut s at p e = passed_view (opaque unlimited) s at (λ xs. xs) (refused CutItem p) (string_cut s at (λ xs. xs) p e)

pub passed_string : (s : List ℕ) (at n next : ℕ) → word_at s at ≡ Ok (n, next)
    → as_passed (decode (opaque unlimited) s at) ≡ as_passed (string_item (take n (drop next s)) (padded_at s next n))
passed_string s at n next e =
    passed_alike (λ xs. xs) (decode (opaque unlimited) s at) (λ xs. xs) (string_item (take n (drop next s)) (padded_at s next n))
    (string_word s at (λ xs. xs) n next e)

module _ (g : Form) (s : List ℕ) (at : ℕ) where
  pub passed_list_cut : (p : ℕ) → word_at s at ≡ cut p → as_passed (decode (list g) s at) ≡ Err (refused_at CutItem p)
  passed_list_cut p e = passed_view (list g) s at (λ vs. vs) (refused CutItem p) (list_cut g s at (λ vs. vs) p e)

  pub passed_list : (n next : ℕ) → word_at s at ≡ Ok (n, next) → as_passed (decode (list g) s at) ≡ as_passed (entries (decode g s) n next)
  passed_list n next e =
      passed_alike (λ vs. vs) (decode (list g) s at) (λ vs. vs) (entries (decode g s) n next) (list_word g s at (λ vs. vs) n next e)

-- ---- one form behind another

module _ (f g : Form) (s : List ℕ) (at : ℕ) where
  -- the first was passed over: the second is left
  pub passed_then : (next : ℕ) → as_passed (decode f s at) ≡ Ok next → as_passed (decode (f then g) s at) ≡ as_passed (decode g s next)
  passed_then next e =
      let r = passed_next (decode f s at) next e in
      passed_alike (λ v. v) (decode (f then g) s at) (λ w. (r.0, w)) (decode g s next)
      (then_found f g s at (λ v. v) r.0 next r.1)

  -- the first is refused
  pub passed_then_refused : (why : Refusal) (p : ℕ) → as_passed (decode f s at) ≡ Err (refused_at why p) → as_passed (decode (f then g) s at) ≡ Err (refused_at why p)
  passed_then_refused why p e =
      passed_view (f then g) s at (λ v. v) (refused why p)
      (then_refused f g s at (λ v. v) why p (passed_refused (decode f s at) why p e))
