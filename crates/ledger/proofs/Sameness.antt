-- Sources are the same exactly where what identifies them is equal. Assumes nothing.
use Rattle.std.proofs.Common.{◌≡◌, ℕ, Bool, true, false, cond, ◌&&◌, ◌||◌, eqb, List, [], ◌∷◌, get_or, sym, refl, ap, ◌∙◌, eq-eqb, eqb-true}
use Rattle.xdr.proofs.Tests.{and_parts}
use Rattle.ledger.specs.Ledger.{Source, same}

-- two tests that pass together are the same
bool_iff : (a b : Bool) → (a ≡ true → b ≡ true) → (b ≡ true → a ≡ true) → a ≡ b
bool_iff true b f g = sym (f refl)
bool_iff false true f g = g refl
bool_iff false false f g = refl

-- what identifies a source: id, type, and the words of the address that count
abbrev key : Source → List ℕ
key s =
    s.id ∷ s.agent.kind ∷ s.agent.octets.a ∷ cond (eqb s.agent.kind 1) [] (s.agent.octets.b ∷ s.agent.octets.c ∷ s.agent.octets.d ∷ [])

-- the same sources have the same key
same_key : (s t : Source) → same s t ≡ true → key s ≡ key t
same_key s t e =
    let p = and_parts _ _ e in
    let q = and_parts _ _ p.1 in
    let r = and_parts _ _ q.1 in
    let id : s.id ≡ t.id = eqb-true _ _ p.0 in
    let kind : s.agent.kind ≡ t.agent.kind = eqb-true _ _ q.0 in
    let a : s.agent.octets.a ≡ t.agent.octets.a = eqb-true _ _ r.0 in
    rw (id, a) (rest kind (eqb s.agent.kind 1) refl r.1)
  where
    rest : s.agent.kind ≡ t.agent.kind → (b : Bool) → eqb s.agent.kind 1 ≡ b
        → (b || (eqb s.agent.octets.b t.agent.octets.b && (eqb s.agent.octets.c t.agent.octets.c && eqb s.agent.octets.d t.agent.octets.d))) ≡ true
        → t.id ∷ s.agent.kind ∷ t.agent.octets.a ∷ cond (eqb s.agent.kind 1) [] (s.agent.octets.b ∷ s.agent.octets.c ∷ s.agent.octets.d ∷ [])
        ≡ t.id ∷ t.agent.kind ∷ t.agent.octets.a ∷ cond (eqb t.agent.kind 1) [] (t.agent.octets.b ∷ t.agent.octets.c ∷ t.agent.octets.d ∷ [])
    rest kind true f g = rw (← kind, f)
    rest kind false f g =
        let u = and_parts _ _ g in
        let v = and_parts _ _ u.1 in
        rw (
          ← kind,
          f,
          eqb-true s.agent.octets.b t.agent.octets.b u.0,
          eqb-true s.agent.octets.c t.agent.octets.c v.0,
          eqb-true s.agent.octets.d t.agent.octets.d v.1,
        )

-- and sources with the same key are the same
key_same : (s t : Source) → key s ≡ key t → same s t ≡ true
key_same s t e =
    let id : s.id ≡ t.id = ap (λ (l : List ℕ). get_or l 0 0) e in
    let kind : s.agent.kind ≡ t.agent.kind = ap (λ (l : List ℕ). get_or l 1 0) e in
    let a : s.agent.octets.a ≡ t.agent.octets.a = ap (λ (l : List ℕ). get_or l 2 0) e in
    rw (eq-eqb s.id t.id id, eq-eqb s.agent.kind t.agent.kind kind, eq-eqb s.agent.octets.a t.agent.octets.a a)
    (rest kind (eqb s.agent.kind 1) refl)
  where
    rest : s.agent.kind ≡ t.agent.kind → (b : Bool) → eqb s.agent.kind 1 ≡ b
        → (b || (eqb s.agent.octets.b t.agent.octets.b && (eqb s.agent.octets.c t.agent.octets.c && eqb s.agent.octets.d t.agent.octets.d))) ≡ true
    rest kind true f = refl
    rest kind false f =
        let k : s.id ∷ s.agent.kind ∷ s.agent.octets.a ∷ s.agent.octets.b ∷ s.agent.octets.c ∷ s.agent.octets.d ∷ []
        ≡ t.id ∷ s.agent.kind ∷ t.agent.octets.a ∷ t.agent.octets.b ∷ t.agent.octets.c ∷ t.agent.octets.d ∷ [] = rw (← kind, f) at e in
        rw (
          eq-eqb s.agent.octets.b t.agent.octets.b (ap (λ (l : List ℕ). get_or l 3 0) k),
          eq-eqb s.agent.octets.c t.agent.octets.c (ap (λ (l : List ℕ). get_or l 4 0) k),
          eq-eqb s.agent.octets.d t.agent.octets.d (ap (λ (l : List ℕ). get_or l 5 0) k),
        )

-- what is the same as one of two sources that are the same is the same as the other
pub same_either : (s t u : Source) → same s t ≡ true → same u s ≡ same u t
same_either s t u e =
    let k = same_key s t e in
    bool_iff (same u s) (same u t) (λ f. key_same u t (same_key u s f ∙ k)) (λ f. key_same u s (same_key u t f ∙ sym k))

pub same_back : (s t : Source) → same s t ≡ same t s
same_back s t = bool_iff (same s t) (same t s) (λ f. key_same t s (sym (same_key s t f))) (λ f. key_same s t (sym (same_key t s f)))

pub same_self : (s : Source) → same s s ≡ true
same_self s = key_same s s refl
