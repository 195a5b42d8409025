-- Items of fixed widths that are read one by one: what their reads say of the whole run. Assumes nothing.
use Prim.Native.Nat.{ℕ, ◌+◌}
use native.Mathlib.Omega.{arith}
use mathlib.Core.Path.{◌≡◌, refl, ◌∙◌}
use mathlib.Core.List.{List, [], ◌∷◌, ◌++◌}
use mathlib.Core.Bool.{true, false}
use mathlib.Core.Logic.{⊎_elim}
use lib.ListN.{length}
use Rattle.xdr.specs.Numbers.{number_at, quad_number}
use Rattle.xdr.specs.Items.{word_at, quad_at, items_at, numbers_at, total_width}
use Rattle.xdr.proofs.Reading.{tested}
use Rattle.xdr.proofs.Runs.{items_read}
use Rattle.sflow.specs.declared.Refusal.TheVariants.{CutItem}
use Rattle.sflow.specs.Grammar.{fixed}
use Rattle.sflow.specs.Decode.{Decoded, found, refused, and_then, mapped, fixed_items, decode}
use Rattle.fields.specs.Words.{words}
use Rattle.sflow.proofs.Steps.{fixed_step, fixed_stop, fixed_word, fixed_word_cut, fixed_quad, fixed_quad_cut, fixed_end}
use Rattle.std.specs.Prelude.{Result, Ok, Err}
use Rattle.xdr.specs.Items.{cut}
use Rattle.xdr.specs.declared.Cut.{Cut}
use Rattle.xdr.specs.declared.Quad.{Quad}
use lib.ListN.{replicate}
use Rattle.sflow.specs.declared.Refused.{Refused}
use Rattle.sflow.specs.Decode.{as_read}
use Rattle.fields.proofs.Answers.{read_told, read_refused}

-- a run of items, and another behind it
fixed_both : (s us ws : List ℕ) (at : ℕ)
    → decode (fixed (us ++ ws)) s at ≡ and_then (decode (fixed us) s at) λ vs next. mapped (λ rest. vs ++ rest) (decode (fixed ws) s next)
fixed_both s [] ws at = rw (fixed_end s at) (same (decode (fixed ws) s at))
  where
    same : (d : Decoded (List ℕ)) → d ≡ mapped (λ rest. [] ++ rest) d
    same (found vs next) = refl
    same (refused why p) = refl
fixed_both s (w ∷ us) ws at =
    ⊎_elim
    (λ h. rw (fixed_step s at w (us ++ ws) h.0, fixed_step s at w us h.0, fixed_both s us ws (at + w)) (behind (number_at s at w) (decode (fixed us) s (at + w))))
    (λ h. rw (fixed_stop s at w (us ++ ws) h.0, fixed_stop s at w us h.0))
    (tested (at + w) (length s) true false _ refl)
  where
    joined : (x : ℕ) (vs : List ℕ) (d : Decoded (List ℕ)) → mapped (λ ns. x ∷ ns) (mapped (λ rest. vs ++ rest) d) ≡ mapped (λ rest. x ∷ (vs ++ rest)) d
    joined x vs (found rest next) = refl
    joined x vs (refused why p) = refl

    behind : (x : ℕ) (d : Decoded (List ℕ))
        → mapped (λ ns. x ∷ ns) (and_then d λ vs next. mapped (λ rest. vs ++ rest) (decode (fixed ws) s next))
        ≡ and_then (mapped (λ ns. x ∷ ns) d) λ vs next. mapped (λ rest. vs ++ rest) (decode (fixed ws) s next)
    behind x (found vs next) = joined x vs (decode (fixed ws) s next)
    behind x (refused why p) = refl

-- reads of items of these widths, one behind the other from an offset on, and what they find: words, sixteen octets, so many words, and
-- no more items; or the first item that is cut short
pub data Reads (s : List ℕ) : ℕ → List ℕ → Decoded (List ℕ) → Type 0 where
  no_more : {at : ℕ} → Reads s at [] (found [] at)
  word_then : {at v next : ℕ} {ws : List ℕ} {d : Decoded (List ℕ)} → word_at s at ≡ Ok (v, next) → Reads s next ws d
      → Reads s at (4 ∷ ws) (mapped (λ vs. v ∷ vs) d)
  quad_then : {at : ℕ} {q : Quad} {next : ℕ} {ws : List ℕ} {r : Decoded (List ℕ)} → quad_at s at ≡ Ok (q, next) → Reads s next ws r
      → Reads s at (16 ∷ ws) (mapped (λ vs. quad_number q.a q.b q.c q.d ∷ vs) r)
  words_then : (n : ℕ) {at : ℕ} {vs : List ℕ} {next : ℕ} {ws : List ℕ} {r : Decoded (List ℕ)} → as_read (decode (words n) s at) ≡ Ok (vs, next)
      → Reads s next ws r → Reads s at (replicate n 4 ++ ws) (mapped (λ rest. vs ++ rest) r)
  word_cut : {at p : ℕ} {ws : List ℕ} → word_at s at ≡ cut p → Reads s at (4 ∷ ws) (refused CutItem p)
  quad_cut : {at p : ℕ} {ws : List ℕ} → quad_at s at ≡ cut p → Reads s at (16 ∷ ws) (refused CutItem p)
  words_cut : (n : ℕ) (ws : List ℕ) {at : ℕ} {r : Refused} → as_read (decode (words n) s at) ≡ Err r
      → Reads s at (replicate n 4 ++ ws) (refused r.why r.at)

-- what they find is what the run is
pub reads_found : {s : List ℕ} {at : ℕ} {ws : List ℕ} {d : Decoded (List ℕ)} → Reads s at ws d → decode (fixed ws) s at ≡ d
reads_found {s} (no_more {at}) = fixed_end s at
reads_found {s} (word_then {at} {v} {next} {ws} e r) = rw (fixed_word s at v next ws e, reads_found r)
reads_found {s} (quad_then {at} {q} {next} {ws} e r) = rw (fixed_quad s at q next ws e, reads_found r)
reads_found {s} (words_then n {at} {vs} {next} {ws} e r) =
    fixed_both s (replicate n 4) ws at ∙ rw (read_told (decode (words n) s at) vs next e, reads_found r)
reads_found {s} (word_cut {at} {p} {ws} e) = fixed_word_cut s at p ws e
reads_found {s} (quad_cut {at} {p} {ws} e) = fixed_quad_cut s at p ws e
reads_found {s} (words_cut n ws {at} {r} e) = fixed_both s (replicate n 4) ws at ∙ rw (read_refused (decode (words n) s at) r e)

-- a run of fixed items ends behind its widths
pub fixed_next : (s ws : List ℕ) (at : ℕ) (vs : List ℕ) (next : ℕ) → decode (fixed ws) s at ≡ found vs next → next ≡ at + total_width ws
unfolding decode
fixed_next s ws at vs next e = go (items_at s at ws) refl e
  where
    go : (r : Result ℕ Cut) → items_at s at ws ≡ r → fixed_items (numbers_at s at ws) r ≡ found vs next → next ≡ at + total_width ws
    go (Ok n) f g = let same : n ≡ next = cc in rw (← same) (items_read s at ws n f).next_is
    go (Err p) f g = let z : ◌≡◌ {A = ℕ} 0 1 = cc in absurd (omega arith)
