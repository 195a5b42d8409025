-- What listing leaves of the octets held. Assumes nothing.
use Prim.Native.Nat.{ℕ, ◌+◌, ◌-◌, ◌≤◌, ◌<◌}
use native.Mathlib.Nat.{zero-add}
use native.Mathlib.Omega.{arith}
use mathlib.Core.Path.{◌≡◌, refl, sym, ap, ◌∙◌, subst}
use mathlib.Core.Logic.{⊎_elim}
use mathlib.Core.Bool.{Bool, true, false, cond}
use mathlib.Core.List.{List, ◌++◌, append_assoc}
use lib.ListN.{length, take, drop, length-take, length-drop, take-append-drop}
use Rattle.std.proofs.lemmas.List.{take-take}
use lib.Seq.{take-append_seam, take-append-add, length-take-le, take_all, drop-drop}
use lib.Dec.{leb}
use Rattle.xdr.specs.Numbers.{Octets}
use Rattle.sflow.proofs.Slices.{octets_drop, octets_take}
use Rattle.xdr.specs.Writes.{afterwards, stored}
use Rattle.listing.specs.declared.State.{State}
use Rattle.listing.specs.declared.Place.{Place}
use Rattle.record_lines.specs.Lines.{write_line}
use Rattle.record_lines.proofs.Room.{room_enough}
use Rattle.listing.specs.Captures.{frame_of, datagram_in, list_all, begins, StopsAt}
use Rattle.listing.specs.Texts.{text_from}
use Rattle.listing.specs.declared.FrameFault.TheVariants.{Short}
use Rattle.std.proofs.Common.{Err}
use Rattle.listing.specs.declared.Stop.{Stop}
use Rattle.listing.specs.declared.Stop.TheVariants.{GoesOn, NoRecord, Output, BadRecord}
use Rattle.listing.proofs.Captures.{frame_short}
use Rattle.listing.proofs.Inside.{listed_inside, stored_inside, some_or_nothing}
use Rattle.listing.proofs.Stops.{list_stops}
use Rattle.listing.proofs.Texts.{Told, list_all_told}
use Rattle.lister.specs.declared.Progress.{Progress}
use Rattle.lister.specs.declared.Rest.{Rest}
use Rattle.lister.specs.declared.Rest.TheVariants.{Unfinished, Bad}
use Rattle.lister.specs.Held.{LeftAs, Listed}
use Rattle.std.specs.Prelude.{Some, None}

-- ---- octets listed from an offset on

abbrev progress : ℕ → State → Rest → Progress
progress listed t rest = record { listed = listed; state = t; rest = rest }

-- octets s behind a state are listed up to an offset: some lines, and then the text of what is left behind the state there, are the text of all
abbrev pub Lines : State → List ℕ → ℕ → State → Type 0
Lines begin s listed t = (lines : List ℕ) × (text_from begin s ≡ lines ++ text_from t (drop listed s))

module _ (d e s : List ℕ) (k : ℕ) (t : State) (q : Place) (inside : k ≤ length s) (p : afterwards q e ≡ list_all d (take (length s - k) (drop k s)) t) where
  part_is : take (length s - k) (drop k s) ≡ drop k s
  part_is = take_all (length s - k) (drop k s) (rw length-drop (omega arith))

  listing_is : afterwards q e ≡ list_all d (drop k s) t
  listing_is = p ∙ ap (λ (l : List ℕ). list_all d l t) part_is

  left_is : drop q.at (drop k s) ≡ drop (k + q.at) s
  left_is = drop-drop q.at k s

  stops : StopsAt e (drop k s) q
  stops = list_stops d (drop k s) t q e listing_is

  -- it lies inside
  pub listed_part : k + q.at ≤ length s
  listed_part =
      let a = listed_inside d (drop k s) t q e listing_is in
      let m = length-drop k s in
      omega arith

  -- the lines are the lines up to there
  pub more_lines : (begin : State) → Lines begin s k t → Lines begin s (k + q.at) q.state
  more_lines begin (lines, h) =
      let a = subst (Told d (drop k s) (begins t)) (sym listing_is) (list_all_told d (drop k s) t) in
      let f : text_from t (drop k s) ≡ a.text ++ text_from q.state (drop (k + q.at) s) =
      a.text_is ∙ ap (λ (l : List ℕ). a.text ++ text_from q.state l) left_is in
      (lines ++ a.text, h ∙ ap (λ (l : List ℕ). lines ++ l) f ∙ sym (append_assoc lines a.text (text_from q.state (drop (k + q.at) s))))

  -- for whichever reason it stopped
  pub listed_there : (begin : State) → Lines begin s k t → (rest : Rest) → LeftAs rest (drop q.at (drop k s)) → Listed begin s (progress (k + q.at) q.state rest)
  listed_there begin h rest left =
      let l = more_lines begin h in
      record { inside = listed_part; lines = l.0; text_is = l.1; left = subst (LeftAs rest) left_is left }

  pub stops_bad : q.stop ≡ BadRecord → LeftAs Bad (drop q.at (drop k s))
  stops_bad = stops.bad_record.0

  pub stops_else : (q.stop ≡ Output → ⊥) → (q.stop ≡ BadRecord → ⊥) → LeftAs Unfinished (drop q.at (drop k s))
  stops_else a b = left_by q.stop refl
    where
      left_by : (x : Stop) → q.stop ≡ x → frame_of (drop q.at (drop k s)) ≡ Err Short
      left_by GoesOn e = absurd (stops.over e)
      left_by NoRecord e = stops.no_record.0 e
      left_by Output e = absurd (a e)
      left_by BadRecord e = absurd (b e)

  -- an output that takes every record's lines takes some before it is full
  pub some_listed : q.stop ≡ Output → 222796 ≤ length e → Octets s → 0 < q.at
  some_listed h room o =
      let n = stops.no_room.0 h in
      let x : List ℕ = datagram_in (drop q.at (drop k s)) n.len in
      let octets : Octets x =
      octets_take n.len (drop 4 (drop q.at (drop k s))) (octets_drop 4 (drop q.at (drop k s)) (octets_drop q.at (drop k s) (octets_drop k s o))) in
      let enough = room_enough x octets in
      let short = n.no_room in
      ⊎_elim (λ a. a) (λ a. absurd (omega (arith, a.1, enough, short, room))) (some_or_nothing d (drop k s) t q e listing_is)

-- what is left, by what is told of it
pub left_as : (begin : State) (s : List ℕ) (p : Progress) (rest : Rest) → Listed begin s p → p.rest ≡ rest → LeftAs rest (drop p.listed s)
left_as begin s p rest h e = subst (λ (r : Rest). LeftAs r (drop p.listed s)) e h.left

-- at the end no record is left
pub end_listed : (begin : State) (s : List ℕ) (k : ℕ) (t : State) → k ≤ length s → length s ≤ k → Lines begin s k t → Listed begin s (progress k t Unfinished)
end_listed begin s k t inside h l = record { inside = inside; lines = l.0; text_is = l.1; left = sym (frame_short s k (omega (arith, h))) }

-- ---- the last lines

-- lines written at the front lie inside
pub line_inside : (d e xs : List ℕ) (room n : ℕ) → afterwards (Some n) e ≡ write_line room d 0 xs → length e ≡ length d → n ≤ length d
unfolding write_line
line_inside d e xs room n h k = go (leb (0 + room) (length d)) h
  where
    go : (b : Bool) → afterwards (Some n) e ≡ cond b (afterwards (Some (0 + length xs)) (stored d 0 xs)) (afterwards None d) → n ≤ length d
    go true p =
        let i : n ≡ 0 + length xs = cc in
        let j : e ≡ stored d 0 xs = cc in
        let l = stored_inside d e xs j k in
        omega arith
    go false p = let z : ◌≡◌ {A = ℕ} 0 1 = cc in absurd (omega arith)

-- and are the front
pub line_front : (d e xs : List ℕ) (room n : ℕ) → afterwards (Some n) e ≡ write_line room d 0 xs → take n e ≡ xs
unfolding write_line stored
line_front d e xs room n h = go (leb (0 + room) (length d)) h
  where
    go : (b : Bool) → afterwards (Some n) e ≡ cond b (afterwards (Some (0 + length xs)) (stored d 0 xs)) (afterwards None d) → take n e ≡ xs
    go true p =
        let k : n ≡ 0 + length xs = cc in
        let i : n ≡ length xs = k ∙ zero-add (length xs) in
        let j : e ≡ xs ++ drop (0 + length xs) d = cc in
        rw (i, j) (take-append_seam xs (drop (0 + length xs) d))
    go false p = let z : ◌≡◌ {A = ℕ} 0 1 = cc in absurd (omega arith)

-- an offset inside the first octets is none of the others
pub front_inside : (n k : ℕ) (s : List ℕ) → n ≤ length (take k s) → n ≤ k
front_inside n k s h = let l = length-take k s in omega arith

-- ---- octets written

-- a front in two parts
pub take_split : (xs : List ℕ) (a b : ℕ) → a ≤ length xs → take (a + b) xs ≡ take a xs ++ take b (drop a xs)
take_split xs a b h =
    ap (λ (l : List ℕ). take (a + b) l) (sym (take-append-drop a xs))
    ∙ ap (λ (k : ℕ). take (k + b) (take a xs ++ drop a xs)) (sym (length-take-le a xs h))
    ∙ take-append-add (take a xs) (drop a xs) b

-- octets written behind those that were: the front of a part whose end is given
pub more_taken : (xs : List ℕ) (done n some : ℕ) → done ≤ n → n ≤ length xs → some ≤ length (take (n - done) (drop done xs))
    → take (done + some) xs ≡ take done xs ++ take some (take (n - done) (drop done xs))
more_taken xs done n some h k i =
    let l = length-take (n - done) (drop done xs) in
    let small : some ≤ n - done = omega (arith, i) in
    take_split xs done some (omega (arith, h, k)) ∙ ap (λ (l : List ℕ). take done xs ++ l) (sym (take-take some (n - done) (drop done xs) small))
