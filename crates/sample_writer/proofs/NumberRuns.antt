-- Numbers of widths stored one behind the other, and five words in front of them. Assumes nothing.
use Prim.Native.Nat.{ℕ, suc, ◌+◌, ◌*◌, ◌^◌, ◌≤◌, ◌<◌}
use native.Mathlib.Numerals.{add-one}
use native.Mathlib.Omega.{arith}
use mathlib.Core.Path.{◌≡◌, refl, sym, ap, ◌∙◌}
use mathlib.Core.List.{List, ◌++◌, flat_map}
use mathlib.Core.Bool.{true, false}
use lib.ListN.{length, get_or, drop, length-append, drop_of_length-le}
use lib.Seq.{drop-cons}
use Rattle.std.specs.Prelude.{Result, Ok, Err}
use Rattle.xdr.specs.Numbers.{octets_of}
use Rattle.xdr.specs.Items.{total_width}
use Rattle.xdr.specs.Writes.{stored, write_at, afterwards}
use Rattle.xdr.proofs.Octets.{octets_length}
use Rattle.xdr.proofs.Writing.{stored_next, stored_length, wrote_fits, wrote_length}
use Rattle.sflow.specs.Grammar.{Fits, Each, each_fits, octets_of_each}
use Rattle.sflow.proofs.Items.{each_length}
use Rattle.form_writer.specs.declared.parts.WriteRefusal.{WriteRefusal}
use Rattle.form_writer.specs.declared.parts.WriteRefusal.TheVariants.{BadValue, NoRoom}
use Rattle.form_writer.specs.Parts.{write_alone, write_value, words_octets}
use Rattle.sample_writer.specs.CounterValues.{WordOrHyper}
use Rattle.form_writer.proofs.WordRuns.{words_length, stored_nothing}
use Rattle.form_writer.proofs.Stores.{alone_fits, alone_full}
use Rattle.sample_writer.proofs.FitTests.{first_width, fits_told, fits_length}
use Rattle.std.specs.Prelude.{Option}

-- Numbers stored up to the index i, and the offset p behind them: with those that are left, the buffer is as with all.
pub record Putting (d₀ : List ℕ) (at : ℕ) (ws ns d : List ℕ) (i p : ℕ) : Type 0 where
  pub within : i ≤ length ws
  pub many : length ns ≡ length ws
  pub kinds : Each WordOrHyper (drop i ws)
  pub fit : Fits (drop i ws) (drop i ns)
  pub long : length d ≡ length d₀
  pub room : p + total_width (drop i ws) ≤ length d₀
  pub all_are : stored d p (octets_of_each (drop i ws) (drop i ns)) ≡ stored d₀ at (octets_of_each ws ns)

-- no number yet
pub put_start : (d : List ℕ) (at : ℕ) (ws ns : List ℕ) → Each WordOrHyper ws → Fits ws ns → at + total_width ws ≤ length d → Putting d at ws ns d 0 at
put_start d at ws ns k f r =
    record { within = omega arith; many = fits_length ws ns f; kinds = k; fit = f; long = refl; room = r; all_are = refl }

-- What is left, taken apart: the number at the index i fits its width, a word's or a hyper's, and those behind it are left.
pub record Next (ws ns : List ℕ) (i : ℕ) : Type 0 where
  pub kind : WordOrHyper (get_or ws i 0)
  pub kinds : Each WordOrHyper (drop (i + 1) ws)
  pub fits : get_or ns i 0 < 256 ^ get_or ws i 0
  pub fit : Fits (drop (i + 1) ws) (drop (i + 1) ns)
  pub width_is : total_width (drop i ws) ≡ get_or ws i 0 + total_width (drop (i + 1) ws)
  pub octets_are : octets_of_each (drop i ws) (drop i ns) ≡ octets_of (get_or ws i 0) (get_or ns i 0) ++ octets_of_each (drop (i + 1) ws) (drop (i + 1) ns)

-- while numbers are left, the next one is such a number
pub put_next : (d₀ : List ℕ) (at : ℕ) (ws ns d : List ℕ) (i p : ℕ) → Putting d₀ at ws ns d i p → i < length ws → Next ws ns i
unfolding octets_of_each
put_next d₀ at ws ns d i p k h =
    let j : i < length ns = omega (arith, k.many) in
    let w = first_width ws i h k.kinds in
    let f : (get_or ns i 0 < 256 ^ get_or ws i 0) × Fits (drop (suc i) ws) (drop (suc i) ns) = rw (drop-cons ws i 0 h, drop-cons ns i 0 j) at k.fit in
    record {
      kind = w.0;
      kinds = w.1;
      fits = f.0;
      fit = rw add-one f.1;
      width_is = rw (add-one, drop-cons ws i 0 h);
      octets_are = rw (add-one, drop-cons ws i 0 h, drop-cons ns i 0 j);
    }

put_one : (d₀ : List ℕ) (at : ℕ) (ws ns d : List ℕ) (i p : ℕ) (r : Option ℕ) (e : List ℕ) → Putting d₀ at ws ns d i p → i < length ws
    → afterwards r e ≡ write_at d p (octets_of (get_or ws i 0) (get_or ns i 0))
    → Putting d₀ at ws ns e (i + 1) (p + get_or ws i 0)
put_one d₀ at ws ns d i p r e k h f =
    let n = put_next d₀ at ws ns d i p k h in
    let xs : List ℕ = octets_of (get_or ws i 0) (get_or ns i 0) in
    let ys : List ℕ = octets_of_each (drop (i + 1) ws) (drop (i + 1) ns) in
    let lx : length xs ≡ get_or ws i 0 = octets_length (get_or ws i 0) (get_or ns i 0) in
    let ly : length ys ≡ total_width (drop (i + 1) ws) = each_length (drop (i + 1) ws) (drop (i + 1) ns) n.fit in
    let whole : p + get_or ws i 0 + total_width (drop (i + 1) ws) ≤ length d₀ = omega (arith, k.room, n.width_is) in
    let same : length d ≡ length d₀ = k.long in
    let g = wrote_fits d p xs r e f (omega arith) in
    record {
      within = omega arith;
      many = k.many;
      kinds = n.kinds;
      fit = n.fit;
      long = wrote_length d p xs r e f ∙ same;
      room = whole;
      all_are =
          rw (g.octets_are, stored_next d p (p + get_or ws i 0) xs ys (omega arith) (omega arith))
          (ap (stored d p) (sym n.octets_are) ∙ k.all_are);
    }

-- one number more
pub put_step : (d₀ : List ℕ) (at : ℕ) (ws ns d : List ℕ) (i p : ℕ) (r : Option ℕ) (e : List ℕ) → Putting d₀ at ws ns d i p → i < length ws
    → (j w v : ℕ) → j ≡ i + 1 → w ≡ get_or ws i 0 → v ≡ get_or ns i 0
    → afterwards r e ≡ write_at d p (octets_of w v) → Putting d₀ at ws ns e j (p + w)
put_step d₀ at ws ns d i p r e k h j w v a b c f = rw (a, b) (put_one d₀ at ws ns d i p r e k h (rw (b, c) at f))

-- all numbers
pub put_end : (d₀ : List ℕ) (at : ℕ) (ws ns d : List ℕ) (i p : ℕ) → Putting d₀ at ws ns d i p → length ws ≤ i → d ≡ stored d₀ at (octets_of_each ws ns)
unfolding octets_of_each words_octets flat_map
put_end d₀ at ws ns d i p k h = sym (stored_nothing d p) ∙ rw (drop_of_length-le ws h) at k.all_are

-- ---- five words, and numbers behind them

-- the octets of five words
five_length : (head : List ℕ) → length head ≡ 5 → length (words_octets head) ≡ 20
five_length head e = words_length head ∙ ap (λ (n : ℕ). n * 4) e

-- the octets of all
all_length : (head ws ns : List ℕ) → length head ≡ 5 → Fits ws ns → 20 + total_width ws ≡ length (words_octets head ++ octets_of_each ws ns)
all_length head ws ns e f = sym (length-append (words_octets head) (octets_of_each ws ns) ∙ rw (five_length head e, each_length ws ns f))

-- What writing five words that fit leaves: a buffer of the same length.
pub record Headed (d head e : List ℕ) : Type 0 where
  pub octets_are : e ≡ stored d 0 (words_octets head)
  pub long : length e ≡ length d

-- five words that fit are stored
pub head_put : (d head : List ℕ) (r : Result ℕ WriteRefusal) (e : List ℕ) → length head ≡ 5 → 20 ≤ length d → afterwards r e ≡ write_alone (words_octets head) d
    → Headed d head e
head_put d head r e five room f =
    let l : length (words_octets head) ≡ 20 = five_length head five in
    let g = alone_fits (words_octets head) d (stored d 0 (words_octets head)) 20 (sym l) room refl in
    let o : e ≡ stored d 0 (words_octets head) = cc in
    record { octets_are = o; long = rw o (stored_length d 0 (words_octets head) (omega arith)) }

-- numbers that do not fit their widths change nothing
pub numbers_bad : (d xs ws ns : List ℕ) → each_fits ws ns ≡ false → afterwards (Err BadValue) d ≡ write_value (each_fits ws ns) xs d
numbers_bad d xs ws ns e = rw e

module _ (d head ws ns : List ℕ) (total : ℕ) (five : length head ≡ 5) (all : total ≡ 20 + total_width ws) where
  -- numbers without room change nothing
  pub numbers_full : each_fits ws ns ≡ true → length d < total
      → afterwards (Err NoRoom) d ≡ write_value (each_fits ws ns) (words_octets head ++ octets_of_each ws ns) d
  numbers_full e h = rw e (alone_full (words_octets head ++ octets_of_each ws ns) d total (all ∙ all_length head ws ns five (fits_told ws ns e)) h)

  -- numbers behind the words are stored
  pub numbers_done : (d1 d2 : List ℕ) → each_fits ws ns ≡ true → total ≤ length d → Headed d head d1 → d2 ≡ stored d1 20 (octets_of_each ws ns)
      → afterwards (Ok total) d2 ≡ write_value (each_fits ws ns) (words_octets head ++ octets_of_each ws ns) d
  numbers_done d1 d2 e room p q =
      let f : Fits ws ns = fits_told ws ns e in
      let l : length (words_octets head) ≡ 20 = five_length head five in
      let m : length (octets_of_each ws ns) ≡ total_width ws = each_length ws ns f in
      let s : d2 ≡ stored d 0 (words_octets head ++ octets_of_each ws ns) =
      q ∙ rw p.octets_are (stored_next d 0 20 (words_octets head) (octets_of_each ws ns) (omega arith) (omega arith)) in
      rw e (alone_fits (words_octets head ++ octets_of_each ws ns) d d2 total (all ∙ all_length head ws ns five f) room s)
