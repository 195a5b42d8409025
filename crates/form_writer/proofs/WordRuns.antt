-- Runs of words as octets. Assumes nothing.
use Prim.Native.Nat.{ℕ, ◌+◌, ◌*◌, ◌≤◌, ◌<◌}
use native.Mathlib.Omega.{arith}
use native.Mathlib.Numerals.{add-one}
use mathlib.Core.Path.{◌≡◌, refl, sym, ap, ◌∙◌}
use mathlib.Core.List.{List, [], ◌∷◌, ◌++◌, flat_map, append_assoc, append-nil}
use lib.ListN.{length, get_or, take, length-append, take-append-drop}
use lib.Seq.{take-suc, length-take-le}
use Rattle.xdr.specs.Numbers.{octets_of}
use Rattle.xdr.specs.Writes.{stored, write_at, afterwards}
use Rattle.xdr.proofs.Octets.{octets_length}
use Rattle.xdr.proofs.Writing.{stored_next, stored_length, wrote_fits}
use Rattle.form_writer.specs.Parts.{words_octets}
use Rattle.std.specs.Prelude.{Option}

pub words_length : (ws : List ℕ) → length (words_octets ws) ≡ length ws * 4
unfolding words_octets flat_map
words_length [] = refl
words_length (w ∷ ws) = rw (length-append, octets_length 4 w, words_length ws) (omega arith)

words_append : (ws vs : List ℕ) → words_octets (ws ++ vs) ≡ words_octets ws ++ words_octets vs
unfolding words_octets flat_map
words_append [] vs = refl
words_append (w ∷ ws) vs = rw (words_append ws vs) (sym (append_assoc (octets_of 4 w) (words_octets ws) (words_octets vs)))

words_one : (w : ℕ) → words_octets (w ∷ []) ≡ octets_of 4 w
unfolding words_octets flat_map
words_one w = append-nil (octets_of 4 w)

-- a store of nothing
pub stored_none : (d : List ℕ) (at : ℕ) → stored d at [] ≡ d
unfolding stored
stored_none d at = let z : at + 0 ≡ at = omega arith in rw z (take-append-drop at d)

pub stored_nothing : (d : List ℕ) (at : ℕ) → stored d at (words_octets []) ≡ d
unfolding stored words_octets flat_map
stored_nothing d at = let z : at + 0 ≡ at = omega arith in rw z (take-append-drop at d)

-- one word more
pub words_next : (d now : List ℕ) (at : ℕ) (ws : List ℕ) (i p : ℕ) (r : Option ℕ) (e : List ℕ) → at + length ws * 4 ≤ length d → i < length ws
    → p ≡ at + i * 4 → now ≡ stored d at (words_octets (take i ws)) → afterwards r e ≡ write_at now p (octets_of 4 (get_or ws i 0))
    → e ≡ stored d at (words_octets (take (i + 1) ws))
words_next d now at ws i p r e room h q same f' =
    let f : afterwards r e ≡ write_at (stored d at (words_octets (take i ws))) p (octets_of 4 (get_or ws i 0)) = rw same at f' in
    let w : ℕ = get_or ws i 0 in
    let before : List ℕ = words_octets (take i ws) in
    let long : length before ≡ i * 4 = words_length (take i ws) ∙ ap (λ (n : ℕ). n * 4) (length-take-le i ws (omega arith)) in
    let four : length (octets_of 4 w) ≡ 4 = octets_length 4 w in
    let kept : length (stored d at before) ≡ length d = stored_length d at before (omega arith) in
    let g = wrote_fits (stored d at before) p (octets_of 4 w) r e f (omega arith) in
    let more : words_octets (take (i + 1) ws) ≡ before ++ octets_of 4 w =
    rw (add-one, take-suc ws i 0 h) (words_append (take i ws) (w ∷ []) ∙ ap (λ (l : List ℕ). before ++ l) (words_one w)) in
    g.octets_are ∙ stored_next d at p before (octets_of 4 w) (omega arith) (omega arith) ∙ ap (stored d at) (sym more)
