-- A capture that is listed part by part. Assumes nothing.
use Rattle.std.proofs.Common.{◌≡◌, ℕ, ◌+◌, ◌-◌, ◌<◌, ◌≤◌, List, [], ◌∷◌, ◌++◌, length, take, drop, sym, refl, ap, ◌∙◌, subst, append_assoc, append-nil, arith, drop-drop, length-drop, take_all, Option, None, Some, Err}
use Rattle.std.specs.List.{copy_within}
use Rattle.std.proofs.lemmas.List.{drop-take, length-take-le}
use lib.Seq.{take-append_seam}
use Rattle.xdr.specs.Numbers.{Octets}
use Rattle.sflow.proofs.Slices.{octets_drop}
use Rattle.xdr.specs.Writes.{afterwards}
use Rattle.std.specs.Io.KnownBytes.{Consumes, Appends, IsAtEnd}
use Rattle.std.proofs.KnownBytes.{Consumes-nil, Consumes-trans, Appends-nil, Appends-trans}
use Rattle.listing.specs.Captures.{frame_of, list_all}
use Rattle.listing.specs.Texts.{nothing_listed, end_text, text_within, text_from, capture_of, texts_of, behind_all}
use Rattle.listing.specs.declared.FrameFault.TheVariants.{Short, Wrong}
use Rattle.listing.specs.declared.State.{State}
use Rattle.listing.specs.declared.Place.{Place}
use Rattle.listing.proofs.Texts.{Fit, none, one, text_parts}
use Rattle.lister.specs.declared.Progress.{Progress}
use Rattle.lister.specs.declared.Rest.{Rest}
use Rattle.lister.specs.declared.Rest.TheVariants.{OutputFailed}
use Rattle.lister.specs.Held.{FitRecords, Lists, ListsAll}
use Rattle.lister.proofs.Parts.{take_split}
use Rattle.lister.proofs.Records.{Records, records_listed, short_says, capture_parts, texts_parts, behind_parts, fit_parts, wrong_says, wrong_stays}

fit_records : (xs : List (List ℕ)) → Fit xs → FitRecords xs
fit_records [] none = tt
fit_records (x ∷ xs) (one h f) = (h, fit_records xs f)

records_fit : (xs : List (List ℕ)) → FitRecords xs → Fit xs
records_fit [] f = none
records_fit (x ∷ xs) f = one f.0 (records_fit xs f.1)

-- ---- the octets held

-- octets s behind a state are listed up to an offset, and the writer took the lines
pub record So (begin : State) (s : List ℕ) (listed : ℕ) (state : State) (before after : Option (List ℕ)) : Type 0 where
  pub datagrams : List (List ℕ)
  pub fit : Fit datagrams
  pub records_are : s ≡ capture_of datagrams ++ drop listed s
  pub state_is : state ≡ behind_all begin datagrams
  pub lines_are : Appends before after (texts_of begin datagrams)

pub so_begins : (begin : State) (s : List ℕ) (w : Option (List ℕ)) → So begin s 0 begin w w
so_begins begin s w = record { datagrams = []; fit = none; records_are = refl; state_is = refl; lines_are = Appends-nil w }

pub so_lists : (begin : State) (s : List ℕ) (listed : ℕ) (state : State) (before after : Option (List ℕ)) (rest : Rest) → So begin s listed state before after
    → Lists begin s (record { listed = listed; state = state; rest = rest }) before after
so_lists begin s listed state before after rest h =
    record {
      datagrams = h.datagrams;
      fit = fit_records h.datagrams h.fit;
      records_are = h.records_are;
      state_is = h.state_is;
      lines_are = λ _. h.lines_are;
    }

module _ (begin : State) (s : List ℕ) (k : ℕ) (t : State) (before between : Option (List ℕ)) (h : So begin s k t before between)
    (q : Place) (e : List ℕ) (m : Records (drop k s) t q e) where
  abbrev both : List (List ℕ)
  both = h.datagrams ++ m.datagrams

  both_records : s ≡ capture_of both ++ drop (k + q.at) s
  both_records =
      h.records_are ∙ ap (λ (l : List ℕ). capture_of h.datagrams ++ l) (m.records_are ∙ ap (λ (l : List ℕ). capture_of m.datagrams ++ l) (drop-drop q.at k s))
      ∙ sym (append_assoc (capture_of h.datagrams) (capture_of m.datagrams) (drop (k + q.at) s))
      ∙ ap (λ (l : List ℕ). l ++ drop (k + q.at) s) (sym (capture_parts h.datagrams m.datagrams))

  both_counted : q.state ≡ behind_all begin both
  both_counted = m.state_is ∙ ap (λ (u : State). behind_all u m.datagrams) h.state_is ∙ sym (behind_parts begin h.datagrams m.datagrams)

  both_lines : texts_of begin h.datagrams ++ take q.out e ≡ texts_of begin both
  both_lines =
      ap (λ (l : List ℕ). texts_of begin h.datagrams ++ l) (m.lines_are ∙ ap (λ (u : State). texts_of u m.datagrams) h.state_is)
      ∙ sym (texts_parts begin h.datagrams m.datagrams)

  pub so_more : (after : Option (List ℕ)) → Appends between after (take q.out e) → So begin s (k + q.at) q.state before after
  so_more after w =
      record {
        datagrams = both;
        fit = fit_parts h.datagrams m.datagrams h.fit m.fit;
        records_are = both_records;
        state_is = both_counted;
        lines_are = subst (Appends before after) both_lines (Appends-trans before between after _ _ h.lines_are w);
      }

  pub lists_failed : (after : Option (List ℕ)) → Lists begin s (record { listed = k + q.at; state = q.state; rest = OutputFailed }) before after
  lists_failed after =
      record {
        datagrams = both;
        fit = fit_records both (fit_parts h.datagrams m.datagrams h.fit m.fit);
        records_are = both_records;
        state_is = both_counted;
        lines_are = λ f. absurd (f refl);
      }

-- a call lists the octets from an offset on
pub records_from : (d e s : List ℕ) (k : ℕ) (t : State) (q : Place) → k ≤ length s → Octets s → afterwards q e ≡ list_all d (take (length s - k) (drop k s)) t
    → Records (drop k s) t q e
records_from d e s k t q inside o h =
    let part : take (length s - k) (drop k s) ≡ drop k s = let l = length-drop k s in take_all (length s - k) (drop k s) (omega arith) in
    records_listed d e (drop k s) t q (octets_drop k s o) (h ∙ ap (λ (l : List ℕ). list_all d l t) part)

-- ---- the input

-- of what was read some records are listed, whose lines the writer took, and octets behind them are held
pub record Streamed (input left before after : Option (List ℕ)) (state : State) (held : List ℕ) : Type 0 where
  pub datagrams : List (List ℕ)
  pub fit : Fit datagrams
  pub state_is : state ≡ behind_all nothing_listed datagrams
  pub read : Consumes input left (capture_of datagrams ++ held)
  pub written : Appends before after (texts_of nothing_listed datagrams)

pub streamed_begins : (r w : Option (List ℕ)) (state : State) → state ≡ nothing_listed → Streamed r r w w state []
streamed_begins r w state e = record { datagrams = []; fit = none; state_is = e; read = Consumes-nil r; written = Appends-nil w }

module _ (input left before after : Option (List ℕ)) (state : State) (held : List ℕ) (h : Streamed input left before after state held) where
  pub streamed_read : (rest : Option (List ℕ)) (more : List ℕ) → Consumes left rest more → Streamed input rest before after state (held ++ more)
  streamed_read rest more c =
      record {
        datagrams = h.datagrams;
        fit = h.fit;
        state_is = h.state_is;
        read = subst (Consumes input rest) (append_assoc (capture_of h.datagrams) held more) (Consumes-trans input left rest _ _ h.read c);
        written = h.written;
      }

  pub streamed_listed : (p : Progress) (now : Option (List ℕ)) → Lists state held p after now → (p.rest ≡ OutputFailed → ⊥)
      → Streamed input left before now p.state (drop p.listed held)
  streamed_listed p now l f =
      record {
        datagrams = h.datagrams ++ l.datagrams;
        fit = fit_parts h.datagrams l.datagrams h.fit (records_fit l.datagrams l.fit);
        state_is = l.state_is ∙ ap (λ (u : State). behind_all u l.datagrams) h.state_is ∙ sym (behind_parts nothing_listed h.datagrams l.datagrams);
        read = subst (Consumes input left) records h.read;
        written = subst (Appends before now) lines (Appends-trans before after now _ _ h.written (l.lines_are f));
      }
    where
      records : capture_of h.datagrams ++ held ≡ capture_of (h.datagrams ++ l.datagrams) ++ drop p.listed held
      records =
          ap (λ (x : List ℕ). capture_of h.datagrams ++ x) l.records_are
          ∙ sym (append_assoc (capture_of h.datagrams) (capture_of l.datagrams) (drop p.listed held))
          ∙ ap (λ (x : List ℕ). x ++ drop p.listed held) (sym (capture_parts h.datagrams l.datagrams))

      lines : texts_of nothing_listed h.datagrams ++ texts_of state l.datagrams ≡ texts_of nothing_listed (h.datagrams ++ l.datagrams)
      lines =
          ap (λ (u : State). texts_of nothing_listed h.datagrams ++ texts_of u l.datagrams) h.state_is
          ∙ sym (texts_parts nothing_listed h.datagrams l.datagrams)

-- no record in front: the text is that of the end
text_short : (t : State) (s : List ℕ) → frame_of s ≡ Err Short → text_from t s ≡ end_text t s
unfolding text_from text_within
text_short t [] e = refl
text_short t (x ∷ s) e = rw e

text_wrong : (t : State) (s : List ℕ) → frame_of s ≡ Err Wrong → text_from t s ≡ end_text t s
unfolding text_from text_within
text_wrong t [] e = refl
text_wrong t (x ∷ s) e = rw e

end_same : (t : State) (s rest : List ℕ) → 4 ≤ length s → end_text t (s ++ rest) ≡ end_text t s
end_same t [] rest h = absurd (omega arith)
end_same t (x ∷ s) rest h = refl

-- at the end of the input
pub over_at_end : (input left before after now : Option (List ℕ)) (state : State) (held : List ℕ) → Streamed input left before after state held
    → IsAtEnd left → frame_of held ≡ Err Short → Appends after now (end_text state held) → ListsAll input before now
over_at_end None left before after now state held h e f w = tt
over_at_end (Some xs) None before after now state held h e f w = absurd h.read
over_at_end (Some xs) (Some ys) before after now state held h e f w =
    let all : xs ≡ capture_of h.datagrams ++ held =
    h.read ∙ ap (λ (l : List ℕ). (capture_of h.datagrams ++ held) ++ l) e ∙ append-nil (capture_of h.datagrams ++ held) in
    let text : text_from nothing_listed xs ≡ texts_of nothing_listed h.datagrams ++ end_text state held =
    ap (text_from nothing_listed) all ∙ text_parts nothing_listed h.datagrams held h.fit
    ∙ ap (λ (u : State). texts_of nothing_listed h.datagrams ++ text_from u held) (sym h.state_is)
    ∙ ap (λ (l : List ℕ). texts_of nothing_listed h.datagrams ++ l) (text_short state held f) in
    subst (Appends before now) (sym text) (Appends-trans before after now _ _ h.written w)

-- at a bad record
pub over_at_bad : (input left before after now : Option (List ℕ)) (state : State) (held : List ℕ) → Streamed input left before after state held
    → frame_of held ≡ Err Wrong → Appends after now (end_text state held) → ListsAll input before now
over_at_bad None left before after now state held h f w = tt
over_at_bad (Some xs) None before after now state held h f w = absurd h.read
over_at_bad (Some xs) (Some ys) before after now state held h f w =
    let all : xs ≡ capture_of h.datagrams ++ (held ++ ys) = h.read ∙ append_assoc (capture_of h.datagrams) held ys in
    let text : text_from nothing_listed xs ≡ texts_of nothing_listed h.datagrams ++ end_text state held =
    ap (text_from nothing_listed) all ∙ text_parts nothing_listed h.datagrams (held ++ ys) h.fit
    ∙ ap (λ (u : State). texts_of nothing_listed h.datagrams ++ text_from u (held ++ ys)) (sym h.state_is)
    ∙ ap (λ (l : List ℕ). texts_of nothing_listed h.datagrams ++ l) (text_wrong state (held ++ ys) (wrong_stays held ys f) ∙ end_same state held ys (wrong_says held f)) in
    subst (Appends before now) (sym text) (Appends-trans before after now _ _ h.written w)

-- ---- the buffer

-- octets read behind the held ones
pub after_read : (input left rest before after : Option (List ℕ)) (state : State) (old new : List ℕ) (held end : ℕ)
    → Streamed input left before after state (take held old) → held ≤ end → end ≤ length new → take held new ≡ take held old
    → Consumes left rest (take (end - held) (drop held new)) → Streamed input rest before after state (take end new)
after_read input left rest before after state old new held end h low high front c =
    let e : held + (end - held) ≡ end = omega (arith, low) in
    let inside : held ≤ length new = omega (arith, low, high) in
    let all : take held old ++ take (end - held) (drop held new) ≡ take end new =
    ap (λ (l : List ℕ). l ++ take (end - held) (drop held new)) (sym front) ∙ sym (take_split new held (end - held) inside) ∙ ap (λ (k : ℕ). take k new) e in
    subst (Streamed input rest before after state) all (streamed_read input left before after state (take held old) h rest _ c)

-- the octets between two offsets, as the rest of a front
pub rest_of_front : (s : List ℕ) (from end : ℕ) → from ≤ end → drop from (take end s) ≡ take (end - from) (drop from s)
rest_of_front s from end h =
    let e : end ≡ from + (end - from) = omega (arith, h) in
    ap (λ (k : ℕ). drop from (take k s)) e ∙ drop-take from (end - from) s

-- octets moved to the front
pub moved_to_front : (s : List ℕ) (from end : ℕ) → from ≤ end → end ≤ length s
    → take (end - from) (copy_within s from end 0) ≡ drop from (take end s)
moved_to_front s from end low high =
    let long : length (take (end - from) (drop from s)) ≡ end - from = length-take-le (end - from) (drop from s) (rw length-drop (omega (arith, low, high))) in
    ap (λ (k : ℕ). take k (copy_within s from end 0)) (sym long)
    ∙ take-append_seam (take (end - from) (drop from s)) (drop (0 + (end - from)) s) ∙ sym (rest_of_front s from end low)

-- octets that stand at the front already
pub stays_at_front : (s : List ℕ) (from end : ℕ) → from ≡ 0 → take (end - from) s ≡ drop from (take end s)
stays_at_front s from end e = let n : end - from ≡ end = omega (arith, e) in rw (n, e) refl

-- an unfinished record leaves room in a buffer that takes the longest
pub room_left : (s : List ℕ) (held : ℕ) → held ≤ length s → frame_of (take held s) ≡ Err Short → 65511 ≤ length s → held < length s
room_left s held h f room =
    let short : length (take held s) < 65511 = short_says (take held s) f in
    let long : length (take held s) ≡ held = length-take-le held s h in
    omega (arith, short, long, room)

-- nothing more was read, behind the held octets
pub ends_at_end : (input left before after now : Option (List ℕ)) (state : State) (new : List ℕ) (held end : ℕ) → Streamed input left before after state (take end new)
    → end ≡ held → IsAtEnd left → frame_of (take held new) ≡ Err Short → Appends after now (end_text state (take held new)) → ListsAll input before now
ends_at_end input left before after now state new held end h e at_end f w =
    over_at_end input left before after now state (take held new) (subst (λ (k : ℕ). Streamed input left before after state (take k new)) e h) at_end f w

-- a bad record stands in front of what is left
pub ends_at_bad : (input left before after now : Option (List ℕ)) (state : State) (new : List ℕ) (from end : ℕ) → Streamed input left before after state (drop from (take end new))
    → from ≤ end → frame_of (drop from (take end new)) ≡ Err Wrong → Appends after now (end_text state (take (end - from) (drop from new))) → ListsAll input before now
ends_at_bad input left before after now state new from end h low f w =
    over_at_bad input left before after now state (drop from (take end new)) h f
    (subst (λ (l : List ℕ). Appends after now (end_text state l)) (sym (rest_of_front new from end low)) w)
