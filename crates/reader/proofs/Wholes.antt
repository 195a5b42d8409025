-- A whole datagram: its head, and then its samples. Assumes nothing.
use Prim.Native.Nat.{ℕ, ◌+◌, ◌≤◌, ◌<◌}
use native.Mathlib.Omega.{arith}
use mathlib.Core.Path.{◌≡◌, refl, sym, ap, ◌∙◌}
use mathlib.Core.Bool.{Bool, true, false, cond}
use mathlib.Core.List.{List, [], ◌∷◌}
use lib.ListN.{length, take}
use lib.Seq.{get_or-take}
use lib.Dec.{ltb, eqb}
use borrow.Author.Tests.{ltb-false, le-ltb, lt-ltb}
use Rattle.xdr.specs.Items.{word_at}
use Rattle.sflow.specs.declared.Refusal.{Refusal}
use Rattle.sflow.specs.declared.Refusal.TheVariants.{Version, Trailing, TooLong}
use Rattle.sflow.specs.Grammar.{Form, fixed, list, ◌then◌, Value}
use Rattle.sflow.specs.Decode.{Decoded, found, refused, and_then, mapped, word_item, entries, decode}
use Rattle.sflow.specs.Datagram.{int, address, sample_type, sample_datagram_v4, sample_datagram}
use Rattle.sflow.specs.Reading.{longest, read_datagram}
use Rattle.xdr.proofs.Reading.{word_read}
use Rattle.sflow.proofs.Steps.{union_is, then_is, list_is, fixed_word_cut, entries_count}
use Rattle.reader.specs.declared.datagram.Head.{Head}
use Rattle.sflow.proofs.Ends.{end_is}
use Rattle.fields.specs.Parts.{item, size, as_passed}
use Rattle.reader.specs.Datagrams.{head_words, datagram_head, head_of, head_at, datagram_of, as_head}
use Rattle.fields.proofs.Passing.{passed_next, passed_refused, refusing}
use Rattle.fields.proofs.Compounds.{seen, seen_refused}
use Rattle.fields.proofs.FixedItems.{no_more, word_then, word_cut, reads_found, fixed_next}
use Rattle.std.specs.Prelude.{Result, Ok, Err}
use Rattle.xdr.specs.declared.Cut.{Cut}
use Rattle.std.specs.Prelude.{Result, Ok, Err}
use Rattle.sflow.specs.declared.Refused.{Refused}
use Rattle.sflow.specs.Decode.{refused_at}
use Rattle.sflow.specs.Decode.{refused_at}

-- a datagram's value, of its head's and its samples'
abbrev joined : Value datagram_head → List (Value sample_type) → Value sample_datagram
joined h es = (h.0, (h.1.0, (take 2 h.1.1, es)))

-- a pair of what stands before and what is found
paired : {A B : Type 0} (a : A) (d : Decoded B) → and_then {B = A × B} d (λ b end. found (a, b) end) ≡ mapped (λ b. (a, b)) d
paired a (found b end) = refl
paired a (refused why p) = refl

-- two words and a list are three words, the last of which is the count, and the entries
module _ (e : Form) (s : List ℕ) (at : ℕ) where
  Split : Type 0
  Split =
      decode (fixed (int ∷ int ∷ []) then list e) s at
      ≡ (and_then (decode (fixed head_words) s at) λ ws next. mapped (λ es. (take 2 ws, es)) (entries (decode e s) (item ws 2) next))

  split_3 : (a p1 b p2 : ℕ) → word_at s at ≡ Ok (a, p1) → word_at s p1 ≡ Ok (b, p2) → (r : Result (ℕ × ℕ) Cut) → word_at s p2 ≡ r → Split
  unfolding Split
  split_3 a p1 b p2 ea eb (Err c) ec =
      rw (
        then_is (fixed (int ∷ int ∷ [])) (list e) s at,
        reads_found (word_then ea (word_then eb no_more)),
        list_is e s p2,
        ec,
        reads_found (word_then ea (word_then eb (word_cut {ws = []} ec))),
      )
  split_3 a p1 b p2 ea eb (Ok (c, p3)) ec =
      rw (
        then_is (fixed (int ∷ int ∷ [])) (list e) s at,
        reads_found (word_then ea (word_then eb no_more)),
        list_is e s p2,
        ec,
        reads_found (word_then ea (word_then eb (word_then ec no_more))),
      )
      (paired (a ∷ b ∷ []) (entries (decode e s) c p3))

  split_2 : (a p1 : ℕ) → word_at s at ≡ Ok (a, p1) → (r : Result (ℕ × ℕ) Cut) → word_at s p1 ≡ r → Split
  unfolding Split
  split_2 a p1 ea (Err c) eb =
      rw (
        then_is (fixed (int ∷ int ∷ [])) (list e) s at,
        reads_found (word_then ea (word_cut {ws = []} eb)),
        reads_found (word_then ea (word_cut {ws = int ∷ []} eb)),
      )
  split_2 a p1 ea (Ok (b, p2)) eb = split_3 a p1 b p2 ea eb (word_at s p2) refl

  split_1 : (r : Result (ℕ × ℕ) Cut) → word_at s at ≡ r → Split
  unfolding Split
  split_1 (Err c) ea =
      rw (then_is (fixed (int ∷ int ∷ [])) (list e) s at, fixed_word_cut s at c.at (int ∷ []) ea, fixed_word_cut s at c.at (int ∷ int ∷ []) ea)
  split_1 (Ok (a, p1)) ea = split_2 a p1 ea (word_at s p1) refl

list_split : (e : Form) (s : List ℕ) (at : ℕ)
    → decode (fixed (int ∷ int ∷ []) then list e) s at
    ≡ (and_then (decode (fixed head_words) s at) λ ws next. mapped (λ es. (take 2 ws, es)) (entries (decode e s) (item ws 2) next))
unfolding Split
list_split e s at = split_1 e s at (word_at s at) refl

-- ---- the head, then the samples

-- what follows a head
abbrev samples_after : List ℕ → Value datagram_head → ℕ → Decoded (List (Value sample_type))
samples_after s h next = entries (decode sample_type s) (item h.1.1 2) next

-- a value of the parts behind the version
abbrev tagged : {A : Type 0} → ℕ → Decoded A → Decoded (ℕ × A)
tagged v d = and_then d λ x end. found (v, x) end

module _ (v : ℕ) (f : List ℕ → ℕ → Decoded (List (Value sample_type))) where
  after_words : (a : Value address) (d : Decoded (List ℕ))
      → tagged v (and_then {B = Value sample_datagram_v4} (and_then {B = List ℕ × List (Value sample_type)} d λ ws next. mapped (λ es. (take 2 ws, es)) (f ws next)) λ w end. found (a, w) end)
      ≡ and_then (tagged v (and_then {B = Value address × List ℕ} d λ ws end. found (a, ws) end)) λ h p. mapped (joined h) (f h.1.1 p)
  after_words a (refused why p) = refl
  after_words a (found ws next) = go (f ws next)
    where
      go : (d : Decoded (List (Value sample_type)))
          → tagged v (and_then {B = Value sample_datagram_v4} (mapped (λ es. (take 2 ws, es)) d) λ w end. found (a, w) end) ≡ mapped (joined (v, (a, ws))) d
      go (found es end) = refl
      go (refused why p) = refl

  after_address : (g : ℕ → Decoded (List ℕ)) (d : Decoded (Value address))
      → tagged v (and_then {B = Value sample_datagram_v4} d λ a p. and_then (and_then {B = List ℕ × List (Value sample_type)} (g p) λ ws next. mapped (λ es. (take 2 ws, es)) (f ws next)) λ w end. found (a, w) end)
      ≡ and_then (tagged v (and_then {B = Value address × List ℕ} d λ a p. and_then (g p) λ ws end. found (a, ws) end)) λ h p. mapped (joined h) (f h.1.1 p)
  after_address g (refused why p) = refl
  after_address g (found a p) = after_words a (g p)

whole_split : (s : List ℕ) → decode sample_datagram s 0 ≡ (and_then (decode datagram_head s 0) λ h p. mapped (joined h) (samples_after s h p))
whole_split s =
    union_is Version (λ v. eqb v 4) (λ v. sample_datagram_v4) s 0
    ∙ go (word_at s 0)
    ∙ ap (λ (d : Decoded (Value datagram_head)). and_then d λ h p. mapped (joined h) (samples_after s h p))
    (sym (union_is Version (λ v. eqb v 4) (λ v. address then fixed head_words) s 0))
  where
    arms : (v next : ℕ) → tagged v (decode sample_datagram_v4 s next)
        ≡ and_then (tagged v (decode (address then fixed head_words) s next)) λ h p. mapped (joined h) (samples_after s h p)
    arms v next =
        let f : List ℕ → ℕ → Decoded (List (Value sample_type)) = λ ws p. entries (decode sample_type s) (item ws 2) p in
        rw (then_is address (fixed (int ∷ int ∷ []) then list sample_type) s next, then_is address (fixed head_words) s next)
        (simp (list_split sample_type s) (after_address v f (decode (fixed head_words) s) (decode address s next)))

    test : (v next : ℕ) (b : Bool)
        → cond b (tagged v (decode sample_datagram_v4 s next)) (refused Version 0)
        ≡ and_then (cond b (tagged v (decode (address then fixed head_words) s next)) (refused Version 0)) λ h p. mapped (joined h) (samples_after s h p)
    test v next true = arms v next
    test v next false = refl

    go : (r : Result (ℕ × ℕ) Cut)
        → and_then {B = Value sample_datagram} (word_item r) (λ v next. cond (eqb v 4) (tagged v (decode sample_datagram_v4 s next)) (refused Version 0))
        ≡ and_then (and_then {B = Value datagram_head} (word_item r) (λ v next. cond (eqb v 4) (tagged v (decode (address then fixed head_words) s next)) (refused Version 0)))
        λ h p. mapped (joined h) (samples_after s h p)
    go (Ok (v, next)) = test v next (eqb v 4)
    go (Err c) = refl

-- ---- where the samples begin

abbrev HeadEnds : Decoded (Value datagram_head) → Type 0
HeadEnds (found v next) = next ≡ 16 + size address v.1.0
HeadEnds (refused why p) = Unit {0}

head_ends : (s : List ℕ) → HeadEnds (decode datagram_head s 0)
head_ends s = rw (union_is Version (λ v. eqb v 4) (λ v. address then fixed head_words) s 0) (go (word_at s 0) refl)
  where
    words : (v place : ℕ) → place ≡ 4 → (a : Value address) (p : ℕ) → decode address s place ≡ found a p
        → (d : Decoded (List ℕ)) → decode (fixed head_words) s p ≡ d
        → HeadEnds (tagged v (and_then {B = Value address × List ℕ} d λ ws end. found (a, ws) end))
    words v place w a p e (refused why q) f = tt
    words v place w a p e (found ws end) f =
        let m : p ≡ place + size address a = end_is address s place a p e in
        let n : end ≡ p + 12 = fixed_next s (int ∷ int ∷ int ∷ []) p ws end f in
        omega arith

    agent : (v place : ℕ) → place ≡ 4 → (d : Decoded (Value address)) → decode address s place ≡ d
        → HeadEnds (tagged v (and_then {B = Value address × List ℕ} d λ a p. and_then (decode (fixed head_words) s p) λ ws end. found (a, ws) end))
    agent v place w (refused why p) e = tt
    agent v place w (found a p) e = words v place w a p e (decode (fixed head_words) s p) refl

    test : (v place : ℕ) → place ≡ 4 → (b : Bool)
        → HeadEnds (cond b (tagged v (decode (address then fixed head_words) s place)) (refused Version 0))
    test v place w true = rw (then_is address (fixed head_words) s place) (agent v place w (decode address s place) refl)
    test v place w false = tt

    go : (r : Result (ℕ × ℕ) Cut) → word_at s 0 ≡ r
        → HeadEnds (and_then {B = Value datagram_head} (word_item r)
        (λ v next. cond (eqb v 4) (tagged v (decode (address then fixed head_words) s next)) (refused Version 0)))
    go (Ok (v, place)) e = let w = word_read s 0 v place e in test v place w.next_is (eqb v 4)
    go (Err c) e = tt

-- ---- a whole datagram, by what its head and its samples are

record HeadIs (s : List ℕ) (h : Head) : Type 0 where
  few : length s ≤ longest
  value : Value datagram_head
  read : decode datagram_head s 0 ≡ found value h.samples.at
  seen : head_of value ≡ h

head_is : (s : List ℕ) (h : Head) (next : ℕ) → head_at s ≡ found h next → HeadIs s h
unfolding head_at
head_is s h next e = go (ltb longest (length s)) refl e
  where
    go : (b : Bool) → ltb longest (length s) ≡ b → cond b (refused TooLong 0) (mapped head_of (decode datagram_head s 0)) ≡ found h next → HeadIs s h
    go true t f = let z : ◌≡◌ {A = ℕ} 0 1 = cc in absurd (omega arith)
    go false t f =
        let b = seen head_of (decode datagram_head s 0) h next f in
        let n : next ≡ 16 + size address b.value.1.0 = rw b.found_is at (head_ends s) in
        let m : 16 + size address b.value.1.0 ≡ h.samples.at = ap (λ (x : Head). x.samples.at) b.view_is in
        record { few = ltb-false longest (length s) t; value = b.value; read = b.found_is ∙ ap (found b.value) (n ∙ m); seen = b.view_is }

-- the datagram that a head and its samples are
abbrev ended : List ℕ → Value sample_datagram → ℕ → Decoded (Value sample_datagram)
ended s v end = cond (ltb end (length s)) (refused Trailing end) (found v end)

short_read : (s : List ℕ) → length s ≤ longest → read_datagram s ≡ and_then (decode sample_datagram s 0) (ended s)
unfolding read_datagram
short_read s h = rw (le-ltb longest (length s) h)

pub read_head_refused : (s : List ℕ) (why : Refusal) (p : ℕ) → head_at s ≡ refused why p → read_datagram s ≡ refused why p
unfolding head_at read_datagram
read_head_refused s why p e = go (ltb longest (length s)) e
  where
    go : (b : Bool) → cond b (refused TooLong 0) (mapped head_of (decode datagram_head s 0)) ≡ refused why p
        → cond b (refused TooLong 0) (and_then (decode sample_datagram s 0) (ended s)) ≡ refused why p
    go true f = cc
    go false f = rw (whole_split s, seen_refused head_of (decode datagram_head s 0) why p f)

module _ (s : List ℕ) (h : Head) (next : ℕ) (e : head_at s ≡ found h next) where
  -- reading goes on with the samples
  on_samples : (v : Value datagram_head) → decode datagram_head s 0 ≡ found v h.samples.at → head_of v ≡ h
      → (d : Decoded (List (Value sample_type))) → entries (decode sample_type s) h.samples.count h.samples.at ≡ d
      → decode sample_datagram s 0 ≡ mapped (joined v) d
  on_samples v r seen d f =
      let n : item v.1.1 2 ≡ h.samples.count = ap (λ (x : Head). x.samples.count) seen in
      whole_split s ∙ rw (r, n, f)

  pub read_samples_refused : (why : Refusal) (p : ℕ) → as_passed (entries (decode sample_type s) h.samples.count h.samples.at) ≡ Err (refused_at why p)
      → read_datagram s ≡ refused why p
  read_samples_refused why p f =
      let b = head_is s h next e in
      short_read s b.few
      ∙ rw (on_samples b.value b.read b.seen (refused why p) (passed_refused _ why p f))

  -- the samples of a datagram that was passed over, and its value
  pub record Samples (end : ℕ) : Type 0 where
    pub value : Value sample_datagram
    pub read : read_datagram s ≡ ended s value end
    pub seen : datagram_of value ≡ h

  pub read_samples : (end : ℕ) → as_passed (entries (decode sample_type s) h.samples.count h.samples.at) ≡ Ok end → Samples end
  read_samples end f =
      let b = head_is s h next e in
      let q = passed_next (entries (decode sample_type s) h.samples.count h.samples.at) end f in
      let many : length q.0 ≡ h.samples.count = entries_count (decode sample_type s) h.samples.count h.samples.at q.0 end q.1 in
      let same : item b.value.1.1 2 ≡ h.samples.count = ap (λ (x : Head). x.samples.count) b.seen in
      let first : item (take 2 b.value.1.1) 0 ≡ item b.value.1.1 0 = get_or-take 2 b.value.1.1 0 0 (omega arith) in
      let second : item (take 2 b.value.1.1) 1 ≡ item b.value.1.1 1 = get_or-take 2 b.value.1.1 1 0 (omega arith) in
      record {
        value = joined b.value q.0;
        read = short_read s b.few ∙ rw (on_samples b.value b.read b.seen (found q.0 end) q.1);
        seen = rw (first, second, many ∙ sym same) b.seen;
      }

  pub read_trailing : (end : ℕ) → as_passed (entries (decode sample_type s) h.samples.count h.samples.at) ≡ Ok end → end < length s
      → mapped datagram_of (read_datagram s) ≡ refused Trailing end
  read_trailing end f l = let r = read_samples end f in rw (r.read, lt-ltb end (length s) l)

  pub read_whole : (end : ℕ) → as_passed (entries (decode sample_type s) h.samples.count h.samples.at) ≡ Ok end → length s ≤ end
      → mapped datagram_of (read_datagram s) ≡ found h end
  read_whole end f l = let r = read_samples end f in rw (r.read, le-ltb end (length s) l, r.seen)

-- ---- the answer of reading, by the answers about its head and its samples

-- the answer of a head tells that it was found
head_found : (d : Decoded Head) (h : Head) → as_head d ≡ Ok h → (next : ℕ) × (d ≡ found h next)
head_found (found g next) h e = let f : g ≡ h = cc in (next, ap (λ (h : Head). found h next) f)
head_found (refused why p) h e = let z : ◌≡◌ {A = ℕ} 0 1 = cc in absurd (omega arith)

-- the answer of a refusal tells that it was refused
head_refused : (d : Decoded Head) (r : Refused) → as_head d ≡ Err r → d ≡ refused r.why r.at
head_refused (found g next) r e = let z : ◌≡◌ {A = ℕ} 0 1 = cc in absurd (omega arith)
head_refused (refused why p) r e = let s : refused_at why p ≡ r = cc in ap (refusing Head) s

module _ (s : List ℕ) where
  pub answer_head_refused : (r : Refused) → as_head (head_at s) ≡ Err r → as_head (mapped datagram_of (read_datagram s)) ≡ Err r
  answer_head_refused r e = rw (read_head_refused s r.why r.at (head_refused (head_at s) r e)) refl

  module _ (h : Head) (e : as_head (head_at s) ≡ Ok h) where
    pub answer_samples_refused : (r : Refused) → as_passed (entries (decode sample_type s) h.samples.count h.samples.at) ≡ Err r
        → as_head (mapped datagram_of (read_datagram s)) ≡ Err r
    answer_samples_refused r f = let t = head_found (head_at s) h e in rw (read_samples_refused s h t.0 t.1 r.why r.at f) refl

    pub answer_trailing : (end : ℕ) → as_passed (entries (decode sample_type s) h.samples.count h.samples.at) ≡ Ok end → end < length s
        → as_head (mapped datagram_of (read_datagram s)) ≡ Err (refused_at Trailing end)
    answer_trailing end f l = let t = head_found (head_at s) h e in rw (read_trailing s h t.0 t.1 end f l)

    pub answer_whole : (end : ℕ) → as_passed (entries (decode sample_type s) h.samples.count h.samples.at) ≡ Ok end → length s ≤ end
        → as_head (mapped datagram_of (read_datagram s)) ≡ Ok h
    answer_whole end f l = let t = head_found (head_at s) h e in rw (read_whole s h t.0 t.1 end f l)
