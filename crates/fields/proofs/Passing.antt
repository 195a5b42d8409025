-- Passing over what is read: one value, entries one behind the other, words. Assumes nothing.
use Prim.Native.Nat.{ℕ, zero, suc, ◌+◌, ◌-◌, ◌*◌, ◌/◌, ◌≤◌, ◌<◌}
use native.Mathlib.Nat.{not-suc-le-zero}
use native.Mathlib.Omega.{arith}
use mathlib.Core.Path.{◌≡◌, refl, sym, ap, ◌∙◌}
use mathlib.Core.Bool.{Bool, true, false}
use mathlib.Core.List.{List, [], ◌∷◌}
use lib.ListN.{length}
use lib.Dec.{leb}
use borrow.Author.Tests.{leb-true, leb-false}
use Rattle.sflow.specs.declared.Refusal.{Refusal}
use Rattle.sflow.specs.declared.Refusal.TheVariants.{CutItem}
use Rattle.sflow.specs.Decode.{Decoded, found, refused, and_then, mapped, entries, decode}
use Rattle.sflow.specs.Datagram.{word}
use Rattle.sflow.proofs.Steps.{fixed_step, fixed_stop, fixed_end}
use Rattle.fields.specs.Parts.{as_passed, behind, pass_each}
use Rattle.std.specs.Prelude.{Result, Ok, Err}
use Rattle.sflow.specs.declared.Refused.{Refused}
use Rattle.sflow.specs.Decode.{refused_at}

-- a refusal with its place, as what is found
abbrev pub refusing : (A : Type 0) → Refused → Decoded A
refusing A r = refused r.why r.at

-- what a passing says of what was found
pub passed_next : {A : Type 0} (d : Decoded A) (next : ℕ) → as_passed d ≡ Ok next → (v : A) × (d ≡ found v next)
passed_next (found v n) next e = let f : n ≡ next = cc in (v, ap (found v) f)
passed_next (refused why p) next e = let z : ◌≡◌ {A = ℕ} 0 1 = cc in absurd (omega arith)

pub passed_refused : {A : Type 0} (d : Decoded A) (why : Refusal) (p : ℕ) → as_passed d ≡ Err (refused_at why p) → d ≡ refused why p
passed_refused (found v n) why p e = let z : ◌≡◌ {A = ℕ} 0 1 = cc in absurd (omega arith)
passed_refused {A} (refused w q) why p e = let r : refused_at w q ≡ refused_at why p = cc in ap (refusing A) r

-- a view of what was found does not change where it ends
pub passed_mapped : {A B : Type 0} (f : A → B) (d : Decoded A) → as_passed (mapped f d) ≡ as_passed d
passed_mapped f (found v next) = refl
passed_mapped f (refused why p) = refl

-- what a view shows says where it ends
pub passed_seen : {A B : Type 0} (f : A → B) (d : Decoded A) (e : Decoded B) → mapped f d ≡ e → as_passed d ≡ as_passed e
passed_seen f d e h = sym (passed_mapped f d) ∙ ap as_passed h

-- two of which views show the same end alike
pub passed_alike : {A B C : Type 0} (f : A → C) (d : Decoded A) (g : B → C) (e : Decoded B) → mapped f d ≡ mapped g e → as_passed d ≡ as_passed e
passed_alike f d g e h = passed_seen f d (mapped g e) h ∙ passed_mapped g e

-- ---- entries

pub passed_end : {A : Type 0} (f : ℕ → Decoded A) (n at : ℕ) → n ≤ 0 → as_passed (entries f n at) ≡ Ok at
unfolding entries
passed_end f zero at h = refl
passed_end f (suc n) at h = absurd (not-suc-le-zero h)

after : {A : Type 0} (d : Decoded A) (f : ℕ → Decoded (List A)) (next : ℕ) → as_passed d ≡ Ok next
    → as_passed (and_then d λ v n. and_then (f n) λ vs end. found (v ∷ vs) end) ≡ as_passed (f next)
after {A} (found v n) f next e = let g : n ≡ next = cc in rw g (go (f next))
  where
    go : (d : Decoded (List A)) → as_passed (and_then d λ vs end. found (v ∷ vs) end) ≡ as_passed d
    go (found vs end) = refl
    go (refused why p) = refl
after (refused why p) f next e = let z : ◌≡◌ {A = ℕ} 0 1 = cc in absurd (omega arith)

pub passed_step : {A : Type 0} (f : ℕ → Decoded A) (n at next : ℕ) → 0 < n → as_passed (f at) ≡ Ok next
    → as_passed (entries f n at) ≡ as_passed (entries f (n - 1) next)
unfolding entries
passed_step f zero at next h e = absurd (not-suc-le-zero h)
passed_step f (suc n) at next h e = let g : suc n - 1 ≡ n = omega arith in rw g (after (f at) (entries f n) next e)

pub passed_stop : {A : Type 0} (f : ℕ → Decoded A) (n at : ℕ) (why : Refusal) (p : ℕ) → 0 < n → as_passed (f at) ≡ Err (refused_at why p)
    → as_passed (entries f n at) ≡ Err (refused_at why p)
unfolding entries
passed_stop f zero at why p h e = absurd (not-suc-le-zero h)
passed_stop f (suc n) at why p h e = rw (passed_refused (f at) why p e)

-- ---- words

word_passed : (s : List ℕ) (at : ℕ) → at + 4 ≤ length s → as_passed (decode word s at) ≡ Ok (at + 4)
word_passed s at h = rw (fixed_step s at 4 [] h, fixed_end)

word_refused : (s : List ℕ) (at : ℕ) → length s < at + 4 → as_passed (decode word s at) ≡ Err (refused_at CutItem at)
word_refused s at h = rw (fixed_stop s at 4 [] h)

pub words_whole : (s : List ℕ) (n at : ℕ) → at + n * 4 ≤ length s → as_passed (entries (decode word s) n at) ≡ Ok (at + n * 4)
words_whole s zero at h = let e : at + 0 ≡ at = omega arith in passed_end (decode word s) 0 at (omega arith) ∙ ap Ok (sym e)
words_whole s (suc n) at h =
    let e : suc n - 1 ≡ n = omega arith in
    let f : at + 4 + n * 4 ≡ at + suc n * 4 = omega arith in
    passed_step (decode word s) (suc n) at (at + 4) (omega arith) (word_passed s at (omega arith))
    ∙ rw e (words_whole s n (at + 4) (omega arith)) ∙ ap Ok f

pub words_missing : (s : List ℕ) (n at : ℕ) → 0 < n → length s < at → as_passed (entries (decode word s) n at) ≡ Err (refused_at CutItem at)
words_missing s n at h l = passed_stop (decode word s) n at CutItem at h (word_refused s at (omega arith))

pub words_cut : (s : List ℕ) (n at : ℕ) → at ≤ length s → length s < at + n * 4
    → as_passed (entries (decode word s) n at) ≡ Err (refused_at CutItem (at + (length s - at) / 4 * 4))
words_cut s zero at h l = absurd (omega arith)
words_cut s (suc n) at h l = go (leb (at + 4) (length s)) refl (words_cut s n (at + 4))
  where
    go : (b : Bool) → leb (at + 4) (length s) ≡ b
        → (at + 4 ≤ length s → length s < at + 4 + n * 4 → as_passed (entries (decode word s) n (at + 4)) ≡ Err (refused_at CutItem (at + 4 + (length s - (at + 4)) / 4 * 4)))
        → as_passed (entries (decode word s) (suc n) at) ≡ Err (refused_at CutItem (at + (length s - at) / 4 * 4))
    go true t more =
        let room : at + 4 ≤ length s = leb-true _ _ t in
        let e : suc n - 1 ≡ n = omega arith in
        let f : at + 4 + (length s - (at + 4)) / 4 * 4 ≡ at + (length s - at) / 4 * 4 = omega arith in
        passed_step (decode word s) (suc n) at (at + 4) (omega arith) (word_passed s at room)
        ∙ rw e (more room (omega arith)) ∙ ap (λ (p : ℕ). Err (refused_at CutItem p)) f
    go false t more =
        let short : length s < at + 4 = leb-false _ _ t in
        let f : at ≡ at + (length s - at) / 4 * 4 = omega arith in
        passed_stop (decode word s) (suc n) at CutItem at (omega arith) (word_refused s at short) ∙ ap (λ (p : ℕ). Err (refused_at CutItem p)) f

-- ---- entries that a function passes over

-- where a function passes over one entry as the form says, so many of its steps pass over so many entries
pub each_passed : {A : Type 0} (f : ℕ → Decoded A) (n at : ℕ) → as_passed (entries f n at) ≡ pass_each (λ p. as_passed (f p)) n at
unfolding entries pass_each
each_passed f zero at = refl
each_passed {A} f (suc n) at = go (f at) (each_passed f n)
  where
    rest : (v : A) (d : Decoded (List A)) → as_passed (and_then d λ vs end. found (v ∷ vs) end) ≡ as_passed d
    rest v (found vs end) = refl
    rest v (refused why p) = refl

    go : (d : Decoded A) → ((next : ℕ) → as_passed (entries f n next) ≡ pass_each (λ p. as_passed (f p)) n next)
        → as_passed (and_then d λ v next. and_then (entries f n next) λ vs end. found (v ∷ vs) end)
        ≡ behind (as_passed d) (pass_each (λ p. as_passed (f p)) n)
    go (found v next) more = rest v (entries f n next) ∙ more next
    go (refused why p) more = refl

-- the steps of a loop over entries: none is left, the next is passed over, the next is refused
pub each_end : (entry : ℕ → Result ℕ Refused) (n at : ℕ) → n ≤ 0 → pass_each entry n at ≡ Ok at
unfolding pass_each
each_end entry zero at h = refl
each_end entry (suc n) at h = absurd (not-suc-le-zero h)

pub each_step : (entry : ℕ → Result ℕ Refused) (n at next : ℕ) → 0 < n → entry at ≡ Ok next → pass_each entry n at ≡ pass_each entry (n - 1) next
unfolding pass_each
each_step entry zero at next h e = absurd (not-suc-le-zero h)
each_step entry (suc n) at next h e = let g : suc n - 1 ≡ n = omega arith in rw (e, g)

pub each_stop : (entry : ℕ → Result ℕ Refused) (n at : ℕ) (r : Refused) → 0 < n → entry at ≡ Err r → pass_each entry n at ≡ Err r
unfolding pass_each
each_stop entry zero at r h e = absurd (not-suc-le-zero h)
each_stop entry (suc n) at r h e = rw e
