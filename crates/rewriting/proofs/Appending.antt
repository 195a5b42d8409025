-- The samples of a datagram appended one behind the other to its head: all of them where they fit the limit, else those that fit. Assumes nothing.
use Prim.Native.Nat.{ℕ, ◌+◌, ◌^◌, ◌≤◌, ◌<◌}
use native.Mathlib.Omega.{arith}
use Prim.{tt}
use mathlib.Core.Path.{◌≡◌, refl, sym, ap, subst, ◌∙◌}
use mathlib.Core.Bool.{Bool, true, false}
use mathlib.Core.List.{List, [], ◌∷◌, ◌++◌, map, flat_map, append_assoc, append-nil}
use mathlib.Core.Option.{Option, some}
use lib.ListN.{length, length-append}
use lib.Dec.{leb}
use borrow.Author.Tests.{leb-true, leb-false}
use Rattle.std.specs.Prelude.{Result, Err}
use Rattle.xdr.specs.Writes.{stored, Afterwards, afterwards}
use Rattle.sflow.specs.Grammar.{Value, Valid, Each, encode}
use Rattle.sflow.specs.Datagram.{sample_type, sample_datagram, samples}
use Rattle.form_writer.specs.declared.parts.WriteRefusal.{WriteRefusal}
use Rattle.form_writer.specs.declared.parts.WriteRefusal.TheVariants.{NoRoom}
use Rattle.fields.specs.declared.address.Address.{Address}
use Rattle.writer.specs.Datagrams.{limit_allowed, start_value, started, with_samples}
use Rattle.writer.proofs.Theorems.{holds, encoded_length, flat_append, flat_one, append_fits, append_full, start_short, start_holds}
use Rattle.rewriting.specs.Rewriting.{append_each, Stopped}

-- ---- parts of a list of samples

each_front : {A : Type 0} (Q : A → Type 0) (xs ys : List A) → Each Q (xs ++ ys) → Each Q xs
each_front Q [] ys e = tt
each_front Q (x ∷ xs) ys e = (e.0, each_front Q xs ys e.1)

each_next : {A : Type 0} (Q : A → Type 0) (xs : List A) (y : A) (ys : List A) → Each Q (xs ++ (y ∷ ys)) → Q y
each_next Q [] y ys e = e.0
each_next Q (x ∷ xs) y ys e = each_next Q xs y ys e.1

valid_front : (v : Value sample_datagram) (xs ys : List (Value sample_type)) → Valid sample_datagram (with_samples v (xs ++ ys))
    → Valid sample_datagram (with_samples v xs)
valid_front v xs ys h =
    let n : length (xs ++ ys) < 2 ^ 32 = h.2.1.1.0 in
    let l : length (xs ++ ys) ≡ length xs + length ys = length-append xs ys in
    let m : length xs < 2 ^ 32 = omega arith in
    (h.0, h.1, (h.2.0, (h.2.1.0, (m, each_front (Valid sample_type) xs ys h.2.1.1.1))))

-- with more samples behind, a datagram is longer by their octets
encoded_longer : (v : Value sample_datagram) (xs ys : List (Value sample_type))
    → length (encode sample_datagram (with_samples v (xs ++ ys))) ≡ length (encode sample_datagram (with_samples v xs)) + length (flat_map (encode sample_type) ys)
encoded_longer v xs ys =
    let a = encoded_length v (xs ++ ys) in
    let b = encoded_length v xs in
    let c : length (flat_map (encode sample_type) (xs ++ ys)) ≡ length (flat_map (encode sample_type) xs) + length (flat_map (encode sample_type) ys) =
    rw (flat_append (encode sample_type) xs ys) (length-append (flat_map (encode sample_type) xs) (flat_map (encode sample_type) ys)) in
    omega arith

first_length : (w : Value sample_type) (ws : List (Value sample_type))
    → length (flat_map (encode sample_type) (w ∷ ws)) ≡ length (encode sample_type w) + length (flat_map (encode sample_type) ws)
unfolding flat_map
first_length w ws = length-append (encode sample_type w) (flat_map (encode sample_type) ws)

-- ---- samples appended one behind the other

-- once there is no room, nothing more is written
stays_full : (limit : ℕ) (d : List ℕ) (xs : List (Option (Value sample_type))) → append_each limit (afterwards (Err NoRoom) d) xs ≡ afterwards (Err NoRoom) d
stays_full limit d [] = refl
stays_full limit d (x ∷ xs) = stays_full limit d xs

module _ (limit : ℕ) (d : List ℕ) (allowed : limit_allowed limit (length d) ≡ true) (v : Value sample_datagram) where
  -- what appending samples leaves behind those that are there
  abbrev appended_to : List (Value sample_type) → List (Value sample_type) → Afterwards (Result ℕ WriteRefusal)
  appended_to xs ws = append_each limit (holds d (with_samples v xs)) (map some ws)

  -- the octets of a datagram with these samples
  abbrev octets_with : List (Value sample_type) → List ℕ
  octets_with xs = encode sample_datagram (with_samples v xs)

  one_longer : (xs : List (Value sample_type)) (w : Value sample_type) → length (octets_with (xs ++ (w ∷ []))) ≡ length (octets_with xs) + length (encode sample_type w)
  one_longer xs w = encoded_longer v xs (w ∷ []) ∙ rw (flat_one (encode sample_type) w)

  module _ (xs : List (Value sample_type)) (w : Value sample_type) (ws : List (Value sample_type)) (h : Valid sample_datagram (with_samples v (xs ++ (w ∷ ws))))
      (small : length (octets_with xs) ≤ limit) where
    valid : Valid sample_type w
    valid = each_next (Valid sample_type) xs w ws h.2.1.1.1

    -- one more that fits
    one_fits : length (octets_with (xs ++ (w ∷ []))) ≤ limit → appended_to xs (w ∷ ws) ≡ appended_to (xs ++ (w ∷ [])) ws
    one_fits fits =
        let l = one_longer xs w in
        ap (λ (o : Afterwards (Result ℕ WriteRefusal)). append_each limit o (map some ws))
        (append_fits limit d allowed (with_samples v xs) (valid_front v xs (w ∷ ws) h) small w valid (omega arith))

    -- one that does not fit
    one_full : limit < length (octets_with (xs ++ (w ∷ []))) → appended_to xs (w ∷ ws) ≡ afterwards (Err NoRoom) (stored d 0 (octets_with xs))
    one_full full =
        let l = one_longer xs w in
        ap (λ (o : Afterwards (Result ℕ WriteRefusal)). append_each limit o (map some ws))
        (append_full limit d allowed (with_samples v xs) (valid_front v xs (w ∷ ws) h) small w valid (omega arith))
        ∙ stays_full limit (stored d 0 (octets_with xs)) (map some ws)

  -- where all fit, all are there
  append_all : (xs ws : List (Value sample_type)) → Valid sample_datagram (with_samples v (xs ++ ws)) → length (octets_with (xs ++ ws)) ≤ limit
      → appended_to xs ws ≡ holds d (with_samples v (xs ++ ws))
  append_all xs [] h fits = rw append-nil
  append_all xs (w ∷ ws) h fits =
      let assoc : (xs ++ (w ∷ [])) ++ ws ≡ xs ++ (w ∷ ws) = append_assoc xs (w ∷ []) ws in
      let l = encoded_longer v xs (w ∷ ws) in
      let m = first_length w ws in
      let n = one_longer xs w in
      one_fits xs w ws h (omega arith) (omega arith) ∙ rw assoc at (append_all (xs ++ (w ∷ [])) ws (rw assoc h) (rw assoc fits))

  -- where they do not all fit, one gets no room, and the samples before it are there
  record Full (xs ws : List (Value sample_type)) (o : Afterwards (Result ℕ WriteRefusal)) : Type 0 where
    before : List (Value sample_type)
    next : Value sample_type
    behind : List (Value sample_type)
    split : xs ++ ws ≡ before ++ (next ∷ behind)
    fits : length (octets_with before) ≤ limit
    full : limit < length (octets_with (before ++ (next ∷ [])))
    left : o ≡ afterwards (Err NoRoom) (stored d 0 (octets_with before))

  append_stops : (xs ws : List (Value sample_type)) → Valid sample_datagram (with_samples v (xs ++ ws)) → length (octets_with xs) ≤ limit
      → limit < length (octets_with (xs ++ ws)) → Full xs ws (appended_to xs ws)
  append_stops xs [] h small long =
      let l : length (octets_with (xs ++ [])) ≡ length (octets_with xs) = rw append-nil in
      absurd (omega arith)
  append_stops xs (w ∷ ws) h small long =
      go (leb (length (octets_with (xs ++ (w ∷ [])))) limit) refl (λ f. append_stops (xs ++ (w ∷ [])) ws (rw assoc h) f (rw assoc long))
    where
      assoc : (xs ++ (w ∷ [])) ++ ws ≡ xs ++ (w ∷ ws)
      assoc = append_assoc xs (w ∷ []) ws

      go : (b : Bool) → leb (length (octets_with (xs ++ (w ∷ [])))) limit ≡ b
          → (length (octets_with (xs ++ (w ∷ []))) ≤ limit → Full (xs ++ (w ∷ [])) ws (appended_to (xs ++ (w ∷ [])) ws))
          → Full xs (w ∷ ws) (appended_to xs (w ∷ ws))
      go true t rest =
          let f : length (octets_with (xs ++ (w ∷ []))) ≤ limit = leb-true _ _ t in
          let r = rest f in
          record {
            before = r.before;
            next = r.next;
            behind = r.behind;
            split = sym assoc ∙ r.split;
            fits = r.fits;
            full = r.full;
            left = one_fits xs w ws h small f ∙ r.left;
          }
      go false t rest =
          let f : limit < length (octets_with (xs ++ (w ∷ []))) = leb-false _ _ t in
          record { before = xs; next = w; behind = ws; split = refl; fits = small; full = f; left = one_full xs w ws h small f }

-- ---- a head started, and its samples appended

module _ (v : Value sample_datagram) (valid : Valid sample_datagram v) (limit : ℕ) (d : List ℕ) (allowed : limit_allowed limit (length d) ≡ true)
    (agent : Address) (sequence uptime : ℕ) (head : start_value agent sequence uptime ≡ with_samples v [])
    (given : List (Option (Value sample_type))) (all : given ≡ map some (samples v)) where
  start_valid : Valid sample_datagram (start_value agent sequence uptime)
  start_valid = subst (λ (x : Value sample_datagram). Valid sample_datagram x) (sym head) (valid_front v [] (samples v) valid)

  written_is : append_each limit (started limit agent sequence uptime d) given ≡ appended_to limit d allowed v [] (samples v)
  written_is =
      let t = start_holds limit d allowed agent sequence uptime start_valid ∙ ap (holds d) head in
      rw all (ap (λ (o : Afterwards (Result ℕ WriteRefusal)). append_each limit o (map some (samples v))) t)

  -- the same octets at the buffer's beginning where they fit the limit, and the rest of the buffer as it was
  pub all_written : length (encode sample_datagram v) ≤ limit → append_each limit (started limit agent sequence uptime d) given ≡ holds d v
  all_written fits = written_is ∙ append_all limit d allowed v [] (samples v) valid fits

  -- and otherwise no more than the samples that fit
  pub some_written : limit < length (encode sample_datagram v) → Stopped v limit d (append_each limit (started limit agent sequence uptime d) given)
  some_written more =
      let h = start_short limit d allowed agent sequence uptime start_valid in
      let k : length (encode sample_datagram (start_value agent sequence uptime)) ≡ length (encode sample_datagram (with_samples v [])) =
      ap (λ (x : Value sample_datagram). length (encode sample_datagram x)) head in
      let r = append_stops limit d allowed v [] (samples v) valid (omega arith) more in
      record { before = r.before; next = r.next; behind = r.behind; split = r.split; fits = r.fits; full = r.full; left_so = written_is ∙ r.left }
