-- What holds at every step of the machine on n rules of which the check found nothing, and that it comes to an end. Assumes nothing.
use Prim.Native.Nat.{ℕ, zero, suc, ◌+◌, ◌≤◌, ◌<◌}
use native.Mathlib.Omega.{arith}
use mathlib.Core.Path.{◌≡◌, refl, ap, sym, ◌∙◌}
use mathlib.Core.List.{List, [], ◌∷◌}
use mathlib.Core.Bool.{Bool, true, false, not, cond, ◌&&◌, ◌||◌}
use lib.ListN.{length}
use lib.Dec.{ltb, leb, eqb}
use borrow.Author.Tests.{ltb-true, ltb-false, leb-true, eqb-true, eqb-false, not-false, le-leb, eq-eqb}
use Rattle.xdr.proofs.Tests.{and_parts}
use Rattle.rules.specs.declared.Rule.{Rule}
use Rattle.rules.specs.declared.Declared.{Declared}
use Rattle.rules.specs.declared.Item.{Item}
use Rattle.rules.specs.declared.Action.{Action}
use Rattle.rules.specs.declared.Action.TheVariants.{Unknown, Ignore, NoMatch, Count, CountPkt, Return, Gosub, Goto, PushRule, PushPkt, PopTo}
use Rattle.rules.specs.declared.MachineAnswer.TheVariants as Answer
use Rattle.rules.specs.Opcodes.{action_of, is_return, is_gosub, goto_flag}
use Rattle.rules.specs.Bits.{masked}
use Rattle.rules.specs.Machine.{MachineState, Outcome, running, ended, stuck, passes, goes, comes_back, drops, act, fails, step, advance, after}
use Rattle.rules.specs.Room.{Room}
use Rattle.rules.specs.Checks.{fine, any_up_to, differs, bad_target, alone_of, bad_queue, held_after, aims, comes_back_nowhere, comes_back_otherwise, returns_nowhere, next_differs, target_differs, return_differs, rest_of}
use Rattle.rules.specs.Demand.{bound, EndsAt}
use Rattle.rules.proofs.Tests.{or_false, and_false, fine_either, some_false, differs_false}
use Rattle.rules.proofs.Bits.{masked_zero}
use Rattle.rules.proofs.Measure.{left, left_start, left_on, left_call, left_back, left_pos}

module _ (n : ℕ) (rule : ℕ → Rule) (declared : ℕ → Declared) where
  abbrev act_of : ℕ → Action
  act_of i = action_of (rule i).opcode

  -- the goto target of rule i, whose action is a, declares otherwise
  abbrev goto_differs : Action → ℕ → Bool
  goto_differs a i =
      goto_flag a
      && cond (is_gosub a)
      (differs (declared (rule i).parameter) (rule i).parameter ((declared i).depth + 1) (declared i).held)
      (differs (declared (rule i).parameter) (declared i).home (declared i).depth (held_after a (declared i).held))

  -- Return i comes back from some Gosub at no rule, or at one that declares otherwise
  abbrev some_nowhere : ℕ → Bool
  some_nowhere i = any_up_to (comes_back_nowhere n rule declared (declared i).home (rule i).parameter) n

  abbrev some_otherwise : ℕ → Bool
  some_otherwise i = any_up_to (comes_back_otherwise n rule declared (declared i).home (rule i).parameter (declared i).held) n

  -- what the check has shown of rule i
  pub record Sound (i : ℕ) : Type 0 where
    pub deep : (declared i).depth ≤ 4
    pub full : (declared i).held ≤ 16
    pub first : eqb i 1 && differs (declared i) 0 0 0 ≡ false
    pub homed : is_return (act_of i) && eqb (declared i).home 0 ≡ false
    pub ahead : bad_target (act_of i) n i (rule i).parameter ≡ false
    pub back_there : is_return (act_of i) && some_nowhere i ≡ false
    pub queue : bad_queue (act_of i) (declared i).held ≡ false
    pub next : next_differs n rule declared i (rule i) (declared i) ≡ false
    pub target : goto_differs (act_of i) i ≡ false
    pub back : is_return (act_of i) && some_otherwise i ≡ false

  pub sound : (i : ℕ) → alone_of n i (rule i) (declared i) ≡ fine → returns_nowhere n rule declared (rule i) (declared i) ≡ false → rest_of n rule declared i (rule i) (declared i) ≡ fine → Sound i
  unfolding alone_of returns_nowhere rest_of
  sound i e x y =
      let a = fine_either _ _ _ e in
      let b = fine_either _ _ _ a.1 in
      let c = fine_either _ _ _ b.1 in
      let d = fine_either _ _ _ c.1 in
      let f = fine_either _ _ _ y in
      let g = fine_either _ _ _ f.1 in
      let o = or_false _ _ a.0 in
      let p = or_false (next_differs n rule declared i (rule i) (declared i) || target_differs n rule declared (rule i) (declared i)) (return_differs n rule declared (rule i) (declared i)) g.0 in
      let q = or_false (next_differs n rule declared i (rule i) (declared i)) (target_differs n rule declared (rule i) (declared i)) p.0 in
      record {
        deep = ltb-false _ _ o.0;
        full = ltb-false _ _ o.1;
        first = b.0;
        homed = c.0;
        ahead = d.0;
        back_there = x;
        queue = f.0;
        next = q.0;
        target = q.1;
        back = p.1;
      }

  -- the calls under which a rule with home h is come to, the newest first: each was made by a Gosub aimed at the home above it
  pub data Frames : ℕ → List ℕ → Type 0 where
    main : Frames 0 []
    sub : {g : ℕ} {cs : List ℕ} → 1 ≤ g → g ≤ n → is_gosub (act_of g) ≡ true → (declared g).depth ≡ length cs → Frames (declared g).home cs
        → Frames (rule g).parameter (g ∷ cs)

  pub record Inv (i : ℕ) (cs : List ℕ) (is : List Item) : Type 0 where
    pub low : 1 ≤ i
    pub high : i ≤ n
    pub depth : (declared i).depth ≡ length cs
    pub held : (declared i).held ≡ length is
    pub frames : Frames (declared i).home cs

  -- what one step from a place with m left comes to, the k-th rule
  abbrev pub Good : ℕ → ℕ → Outcome → Type 0
  Good m k (running s) = Inv s.number s.calls s.items × (left n s.number s.calls < m) × (s.rules ≡ k)
  Good m k (ended a is c) = (length is ≤ 16) × (c ≡ k)
  Good m k stuck = ⊥

  -- what holds after k steps
  abbrev pub Reached : ℕ → Outcome → Type 0
  Reached k (running s) = Inv s.number s.calls s.items × (left n s.number s.calls + k ≤ bound n) × (s.rules ≡ k)
  Reached k (ended a is c) = (length is ≤ 16) × (c ≤ k) × (c ≤ bound n)
  Reached k stuck = ⊥

  module _ (ok : (i : ℕ) → 1 ≤ i → i ≤ n → Sound i) (valid : (i : ℕ) → 1 ≤ i → i ≤ n → act_of i ≡ Unknown → ⊥) (at : ℕ → ℕ) where
    -- to a rule above, under the same calls
    moves : (i t : ℕ) (cs : List ℕ) (is js : List Item) (b : Bool) (k q : ℕ) → Inv i cs is → i < t → t ≤ n
        → differs (declared t) (declared i).home (declared i).depth q ≡ false → q ≡ length js
        → Good (left n i cs) k (running (record { number = t; testing = b; calls = cs; items = js; rules = k }))
    moves i t cs is js b k q v l h d e =
        let w = differs_false (declared t) (declared i).home (declared i).depth q d in
        (record { low = omega arith; high = h; depth = w.1 ∙ v.depth; held = w.2 ∙ e; frames = rw w.0 v.frames }, left_on n i t cs l h, refl)

    target : (i : ℕ) → not (ltb i (rule i).parameter && leb (rule i).parameter n) ≡ false → (i < (rule i).parameter) × ((rule i).parameter ≤ n)
    target i f = let t = and_parts _ _ (not-false _ f) in (ltb-true _ _ t.0, leb-true _ _ t.1)

    -- one more item fits
    fits : (i : ℕ) (cs : List ℕ) (is : List Item) → Inv i cs is → eqb (declared i).held 16 ≡ false → suc (length is) ≤ 16
    fits i cs is v f =
        let z : ((declared i).held ≡ 16 → ⊥) = eqb-false _ _ f in
        let y = (ok i v.low v.high).full in
        omega (arith, v.held)

    back : (i : ℕ) (hm : ℕ) (cs : List ℕ) (is : List Item) (k : ℕ) → Frames hm cs → (declared i).home ≡ hm → 1 ≤ i → i ≤ n → (declared i).held ≡ length is
        → eqb (declared i).home 0 ≡ false → eqb (rule i).parameter 0 ≡ false → some_nowhere i ≡ false → some_otherwise i ≡ false
        → Good (left n i cs) k (comes_back cs (rule i).parameter is k)
    back i hm cs is k main e l h q z f₇ x f₉ = absurd (eqb-false _ _ z e)
    back i hm cs is k (sub {g = g} {cs = ds} gl gh gs gd fr) e l h q z f₇ x f₉ =
        let p : ℕ = (rule i).parameter in
        let aim : aims n rule declared (declared i).home g ≡ true = rw gs (eq-eqb (rule g).parameter (declared i).home (sym e)) in
        let inn : g + p ≤ n = leb-true (g + p) n (not-false _ (and_false _ _ (some_false (comes_back_nowhere n rule declared (declared i).home p) n x g gl gh) aim)) in
        let w = differs_false (declared (g + p)) (declared g).home (declared g).depth (declared i).held (and_false _ _ (some_false (comes_back_otherwise n rule declared (declared i).home p (declared i).held) n f₉ g gl gh) aim) in
        let y : (p ≡ 0 → ⊥) = eqb-false p 0 f₇ in
        (record { low = omega arith; high = inn; depth = w.1 ∙ gd; held = w.2 ∙ q; frames = rw w.0 fr }, left_back n i g (g + p) ds (omega arith) h, refl)

    act_good : (a : Action) (i : ℕ) (cs : List ℕ) (is : List Item) (k : ℕ) → Inv i cs is → act_of i ≡ a
        → is_return a && eqb (declared i).home 0 ≡ false
        → bad_target a n i (rule i).parameter ≡ false → is_return a && some_nowhere i ≡ false → bad_queue a (declared i).held ≡ false → goto_differs a i ≡ false → is_return a && some_otherwise i ≡ false
        → Good (left n i cs) k (act a (rule i) (at (rule i).attribute) i cs is k)
    unfolding act
    act_good Ignore i cs is k v e h f₇ x f₈ f₉ r₉ = (omega arith, refl)
    act_good NoMatch i cs is k v e h f₇ x f₈ f₉ r₉ = (omega arith, refl)
    act_good Count i cs is k v e h f₇ x f₈ f₉ r₉ = (fits i cs is v f₈, refl)
    act_good CountPkt i cs is k v e h f₇ x f₈ f₉ r₉ = (fits i cs is v f₈, refl)
    act_good Return i cs is k v e h f₇ x f₈ f₉ r₉ = back i _ cs is k v.frames refl v.low v.high v.held h f₇ x r₉
    act_good Unknown i cs is k v e h f₇ x f₈ f₉ r₉ = valid i v.low v.high e
    act_good (Gosub t) i cs is k v e h f₇ x f₈ f₉ r₉ =
        let u = target i f₇ in
        let w = differs_false (declared (rule i).parameter) (rule i).parameter ((declared i).depth + 1) (declared i).held f₉ in
        let d = (ok (rule i).parameter (omega arith) u.1).deep in (
          record {
            low = omega arith;
            high = u.1;
            depth = w.1 ∙ omega (arith, v.depth);
            held = w.2 ∙ v.held;
            frames = rw w.0 (sub v.low v.high (ap is_gosub e) v.depth v.frames);
          },
          left_call n i _ cs (omega (arith, v.depth, w.1)) v.high (omega arith),
          refl,
        )
    act_good (Goto t) i cs is k v e h f₇ x f₈ f₉ r₉ = let u = target i f₇ in moves i _ cs is is t k _ v u.0 u.1 f₉ v.held
    act_good (PushRule t) i cs is k v e h f₇ x f₈ f₉ r₉ = let u = target i f₇ in moves i _ cs is _ t k _ v u.0 u.1 f₉ (omega (arith, v.held))
    act_good (PushPkt t) i cs is k v e h f₇ x f₈ f₉ r₉ = let u = target i f₇ in moves i _ cs is _ t k _ v u.0 u.1 f₉ (omega (arith, v.held))
    act_good (PopTo t) i cs is k v e h f₇ x f₈ f₉ r₉ = go is v
      where
        go : (js : List Item) → Inv i cs js → Good (left n i cs) k (drops (rule i).parameter t cs js k)
        go [] w = absurd (eqb-false _ _ f₈ w.held)
        go (x ∷ js) w = let u = target i f₇ in moves i _ cs (x ∷ js) js t k _ w u.0 u.1 f₉ (omega (arith, w.held))

    -- an action has what it takes
    room_for : (a : Action) (i : ℕ) (cs : List ℕ) (is : List Item) → Inv i cs is → act_of i ≡ a
        → is_return a && eqb (declared i).home 0 ≡ false → bad_target a n i (rule i).parameter ≡ false → bad_queue a (declared i).held ≡ false → goto_differs a i ≡ false → is_return a && some_otherwise i ≡ false
        → Room a (length cs) (length is)
    room_for Ignore i cs is v e h f₇ f₈ f₉ r₉ = tt
    room_for NoMatch i cs is v e h f₇ f₈ f₉ r₉ = tt
    room_for Count i cs is v e h f₇ f₈ f₉ r₉ = fits i cs is v f₈
    room_for CountPkt i cs is v e h f₇ f₈ f₉ r₉ = fits i cs is v f₈
    room_for Return i cs is v e h f₇ f₈ f₉ r₉ = go _ cs v.frames refl
      where
        go : (hm : ℕ) (ds : List ℕ) → Frames hm ds → (declared i).home ≡ hm → 1 ≤ length ds
        go hm ds main q = absurd (eqb-false (declared i).home 0 h q)
        go hm ds (sub gl gh gs gd fr) q = omega arith
    room_for Unknown i cs is v e h f₇ f₈ f₉ r₉ = valid i v.low v.high e
    room_for (Gosub t) i cs is v e h f₇ f₈ f₉ r₉ =
        let u = target i f₇ in
        let w = differs_false (declared (rule i).parameter) (rule i).parameter ((declared i).depth + 1) (declared i).held f₉ in
        let d = (ok (rule i).parameter (omega arith) u.1).deep in
        omega (arith, v.depth, w.1)
    room_for (Goto t) i cs is v e h f₇ f₈ f₉ r₉ = tt
    room_for (PushRule t) i cs is v e h f₇ f₈ f₉ r₉ = fits i cs is v f₈
    room_for (PushPkt t) i cs is v e h f₇ f₈ f₉ r₉ = fits i cs is v f₈
    room_for (PopTo t) i cs is v e h f₇ f₈ f₉ r₉ =
        let z : ((declared i).held ≡ 0 → ⊥) = eqb-false (declared i).held 0 f₈ in
        omega (arith, v.held)

    pub room : (i : ℕ) (cs : List ℕ) (is : List Item) → Inv i cs is → Room (act_of i) (length cs) (length is)
    room i cs is v =
        let o = ok i v.low v.high in
        room_for (act_of i) i cs is v refl o.homed o.ahead o.queue o.target o.back

    -- mask and value of a failed test are not both 0
    zeros : (i : ℕ) → passes (rule i) (at (rule i).attribute) ≡ false → not (eqb (rule i).mask 0 && eqb (rule i).value 0) ≡ true
    unfolding passes
    zeros i f = go _ refl
      where
        both : eqb (rule i).mask 0 && eqb (rule i).value 0 ≡ true → ⊥
        both t =
            let u = and_parts _ _ t in
            let o = or_false (eqb (rule i).attribute 0) (eqb (masked 32 (at (rule i).attribute) (rule i).mask) (rule i).value) f in
            eqb-false _ _ o.1
            (ap (masked 32 (at (rule i).attribute)) (eqb-true _ _ u.0) ∙ masked_zero 32 (at (rule i).attribute) ∙ sym (eqb-true _ _ u.1))

        go : (b : Bool) → eqb (rule i).mask 0 && eqb (rule i).value 0 ≡ b → not b ≡ true
        go true t = absurd (both t)
        go false t = refl

    -- a failed test goes on to the next rule
    fails_good : (s : MachineState) → Inv s.number s.calls s.items → passes (rule s.number) (at (rule s.number).attribute) ≡ false
        → Good (left n s.number s.calls) (s.rules + 1) (fails n s)
    unfolding fails
    fails_good s v f = go (ltb i n) refl
      where
        i : ℕ
        i = s.number

        go : (b : Bool) → ltb i n ≡ b
            → Good (left n i s.calls) (s.rules + 1)
            (cond b (goes (i + 1) true s.calls s.items (s.rules + 1)) (ended Answer.NoMatch [] (s.rules + 1)))
        go true t =
            let d : ltb i n && not (eqb (rule i).mask 0 && eqb (rule i).value 0) ≡ true = rw (t, zeros i f) in
            moves i (i + 1) s.calls s.items s.items true (s.rules + 1) (declared i).held v (omega arith) (omega (arith, ltb-true i n t))
            (and_false _ _ (ok i v.low v.high).next d) v.held
        go false t = (omega arith, refl)

    pub step_good : (s : MachineState) → Inv s.number s.calls s.items → Good (left n s.number s.calls) (s.rules + 1) (step n rule at s)
    unfolding step
    step_good s v = rw (le-leb 1 s.number v.low, le-leb s.number n v.high) (go s.testing (passes (rule s.number) (at (rule s.number).attribute)) refl)
      where
        acts : Good (left n s.number s.calls) (s.rules + 1)
            (act (act_of s.number) (rule s.number) (at (rule s.number).attribute) s.number s.calls s.items (s.rules + 1))
        acts =
            let o = ok s.number v.low v.high in
            act_good (act_of s.number) s.number s.calls s.items (s.rules + 1) v refl o.homed o.ahead o.back_there o.queue o.target o.back

        go : (b c : Bool) → passes (rule s.number) (at (rule s.number).attribute) ≡ c
            → Good (left n s.number s.calls) (s.rules + 1)
            (cond (b && not c) (fails n s)
            (act (act_of s.number) (rule s.number) (at (rule s.number).attribute) s.number s.calls s.items (s.rules + 1)))
        go true true f = acts
        go true false f = fails_good s v f
        go false c f = acts

    advance_reached : (k : ℕ) (o : Outcome) → Reached k o → Reached (suc k) (advance n rule at o)
    unfolding advance
    advance_reached k (running s) r = go (step n rule at s) (step_good s r.0)
      where
        go : (o : Outcome) → Good (left n s.number s.calls) (s.rules + 1) o → Reached (suc k) o
        go (running t) g = (g.0, omega arith, omega arith)
        go (ended a is c) g = (g.0, omega arith, omega (arith, left_pos n s.number s.calls r.0.high))
        go stuck g = g
    advance_reached k (ended a is c) r = (r.0, omega arith, r.2)
    advance_reached k stuck r = r

    -- where a Return comes back there is a rule
    pub back_within : (i g : ℕ) (cs : List ℕ) (is : List Item) → Inv i (g ∷ cs) is → act_of i ≡ Return → g + (rule i).parameter ≤ n
    unfolding act
    back_within i g cs is v e =
        let o = ok i v.low v.high in
        (act_good Return i (g ∷ cs) is 0 v e (rw e at o.homed) (rw e at o.ahead) (rw e at o.back_there) (rw e at o.queue) (rw e at o.target)
        (rw e at o.back)).0.high

    module _ (some_rule : 1 ≤ n) where
      pub reached : (k : ℕ) → Reached k (after n rule at k)
      unfolding after
      reached zero =
          let f = differs_false (declared 1) 0 0 0 (ok 1 (omega arith) some_rule).first in
          (record { low = omega arith; high = some_rule; depth = f.1; held = f.2; frames = rw f.0 main }, omega (arith, left_start n), refl)
      reached (suc k) = advance_reached k (after n rule at k) (reached k)

      -- it ends within the bound
      pub ends : EndsAt n rule at (bound n)
      ends = go (after n rule at (bound n)) refl (reached (bound n))
        where
          go : (o : Outcome) → after n rule at (bound n) ≡ o → Reached (bound n) o → EndsAt n rule at (bound n)
          go (running s) e r = absurd (omega (arith, left_pos n s.number s.calls r.0.high))
          go (ended a is c) e r = record { answer = a; items = is; rules = c; ended_so = e }
          go stuck e r = absurd r
