-- Which values of packet data, extended data and path segments the grammar allows. Assumes nothing.
use Prim.Native.Nat.{ℕ, suc, ◌+◌, ◌*◌, ◌^◌, ◌≤◌, ◌<◌}
use native.Mathlib.Omega.{arith}
use native.Mathlib.Nat.{mul-le-mul_right, suc-mul}
use Prim.{tt}
use mathlib.Core.Logic.{◌⊎◌, inl, inr}
use mathlib.Core.Path.{◌≡◌, refl, sym, ap, subst}
use mathlib.Core.Bool.{Bool, true, false, cond, ◌||◌}
use mathlib.Core.List.{List, [], ◌∷◌}
use lib.ListN.{length, get_or}
use lib.Dec.{T, leb, eqb}
use borrow.Author.Tests.{leb-true, le-leb, eqb-true}
use Rattle.xdr.specs.Numbers.{Octets, quad_number}
use Rattle.xdr.proofs.Tests.{is_true}
use Rattle.sflow.specs.Grammar.{Fits, Each, Valid, listed, chosen, one_to}
use Rattle.sflow.specs.Datagram.{word, address_types, packet_data_type, as_path_type, extended_data_type}
use Rattle.xdr.specs.declared.Quad.{Quad}
use Rattle.fields.specs.declared.address.Address.{Address}
use Rattle.extended_data.specs.declared.Router.{Router}
use Rattle.form_writer.specs.Values.{router_value, words_value, quad_value, address_value, header_value, segment_value, user_value, url_value}

-- every element of a list fits a word
abbrev pub Words : List ℕ → Type 0
Words ws = (i : ℕ) → get_or ws i 0 < 2 ^ 32

-- ---- enumerations

-- a number that is from 1 to the most
pub one_to_told : (most v : ℕ) → T (one_to most v) → (1 ≤ v) × (v ≤ most)
one_to_told most v t = go (leb 1 v) refl t
  where
    go : (b : Bool) → leb 1 v ≡ b → T (cond b (leb v most) false) → (1 ≤ v) × (v ≤ most)
    go true e u = (leb-true 1 v e, leb-true v most (is_true (leb v most) u))
    go false e u = absurd u

pub one_to_holds : (most v : ℕ) → 1 ≤ v → v ≤ most → T (one_to most v)
one_to_holds most v l h = rw (le-leb 1 v l) (rw (le-leb v most h) tt)

-- a number below 1 or above the most is none of them
pub outside : (most v : ℕ) → (v < 1) ⊎ (most < v) → T (one_to most v) → ⊥
outside most v (inl l) t = let a = (one_to_told most v t).0 in omega arith
outside most v (inr l) t = let a = (one_to_told most v t).1 in omega arith

-- ---- lists of words

-- there are as many entries as words
pub words_count : (ws : List ℕ) → length (words_value ws) ≡ length ws
words_count [] = refl
words_count (w ∷ ws) = ap suc (words_count ws)

-- words whose every element fits are allowed entries
words_each : (ws : List ℕ) → Words ws → Each (Valid word) (words_value ws)
words_each [] h = tt
words_each (w ∷ ws) h = ((h 0, tt), words_each ws (λ i. h (suc i)))

pub words_valid : (ws : List ℕ) → length ws < 2 ^ 32 → Words ws → (length (words_value ws) < 2 ^ 32) × Each (Valid word) (words_value ws)
words_valid ws few h = let l : length (words_value ws) < 2 ^ 32 = rw (words_count ws) (omega arith) in (l, words_each ws h)

-- ---- packet data

module _ (protocol frame : ℕ) (xs : List ℕ) where
  pub header_other : (protocol < 1) ⊎ (13 < protocol) → Valid packet_data_type (header_value protocol frame xs) → ⊥
  header_other l h = outside 13 protocol l h.2.1

  pub header_long : 256 < length xs → Valid packet_data_type (header_value protocol frame xs) → ⊥
  header_long l h = let few = h.2.2.1.1 in omega arith

  pub header_valid : protocol < 2 ^ 32 → 1 ≤ protocol → protocol ≤ 13 → frame < 2 ^ 32 → length xs ≤ 256 → Octets xs
      → Valid packet_data_type (header_value protocol frame xs)
  header_valid p l m f few o = (omega arith, tt, (p, one_to_holds 13 protocol l m, ((f, tt), (omega arith, few, o))))

-- a number with one digit more
digit : (x y m n : ℕ) → x < m → y < n → x * n + y < m * n
digit x y m n h l =
    let k : suc x * n ≤ m * n = mul-le-mul_right n h in
    let e : suc x * n ≡ x * n + n = suc-mul x n in
    omega arith

-- sixteen octets that are four words
quad_fits : (a b c d : ℕ) → a < 2 ^ 32 → b < 2 ^ 32 → c < 2 ^ 32 → d < 2 ^ 32 → quad_number a b c d < 256 ^ 16
quad_fits a b c d i j k l =
    let ab : a * 2 ^ 32 + b < 2 ^ 32 * 2 ^ 32 = digit a b (2 ^ 32) (2 ^ 32) i j in
    let abc : (a * 2 ^ 32 + b) * 2 ^ 32 + c < 2 ^ 32 * 2 ^ 32 * 2 ^ 32 = digit (a * 2 ^ 32 + b) c (2 ^ 32 * 2 ^ 32) (2 ^ 32) ab k in
    digit ((a * 2 ^ 32 + b) * 2 ^ 32 + c) d (2 ^ 32 * 2 ^ 32 * 2 ^ 32) (2 ^ 32) abc l

pub ipv4_valid : (a b c d e f g h : ℕ) → a < 2 ^ 32 → b < 2 ^ 32 → c < 2 ^ 32 → d < 2 ^ 32 → e < 2 ^ 32 → f < 2 ^ 32 → g < 2 ^ 32 → h < 2 ^ 32
    → Valid packet_data_type (2, (a ∷ b ∷ c ∷ d ∷ e ∷ f ∷ g ∷ h ∷ []))
ipv4_valid a b c d e f g h i j k l m n o p = (omega arith, tt, (i, (j, (k, (l, (m, (n, (o, (p, tt)))))))))

-- every word of an address's octets fits
pub record QuadWords (q : Quad) : Type 0 where
  pub a : q.a < 2 ^ 32
  pub b : q.b < 2 ^ 32
  pub c : q.c < 2 ^ 32
  pub d : q.d < 2 ^ 32

quad_valid : (q : Quad) → QuadWords q → quad_value q < 256 ^ 16
quad_valid q w = quad_fits q.a q.b q.c q.d w.a w.b w.c w.d

pub ipv6_valid : (a b : ℕ) (s t : Quad) (e f g h : ℕ) → a < 2 ^ 32 → b < 2 ^ 32 → QuadWords s → QuadWords t → e < 2 ^ 32 → f < 2 ^ 32 → g < 2 ^ 32 → h < 2 ^ 32
    → Valid packet_data_type (3, (a ∷ b ∷ quad_value s ∷ quad_value t ∷ e ∷ f ∷ g ∷ h ∷ []))
ipv6_valid a b s t e f g h i j k l m n o p = (omega arith, tt, (i, (j, (quad_valid s k, (quad_valid t l, (m, (n, (o, (p, tt)))))))))

-- ---- extended data

pub switch_valid : (a b c d : ℕ) → a < 2 ^ 32 → b < 2 ^ 32 → c < 2 ^ 32 → d < 2 ^ 32 → Valid extended_data_type (1, (a ∷ b ∷ c ∷ d ∷ []))
switch_valid a b c d i j k l = (omega arith, tt, (i, (j, (k, (l, tt)))))

-- an address of type 1 or 2
pub address_valid : (x : Address) → x.kind < 2 ^ 32 → QuadWords x.octets → T (listed address_types x.kind)
    → (x.kind < 2 ^ 32) × T (listed address_types x.kind) × Fits (chosen [] address_types x.kind) (address_value x).1
address_valid x k w t = (k, t, go (eqb x.kind 1) (eqb x.kind 2) t)
  where
    go : (b c : Bool) → T (b || (c || false)) → Fits (cond b (4 ∷ []) (cond c (16 ∷ []) [])) (cond b x.octets.a (quad_value x.octets) ∷ [])
    go true c u = (w.a, tt)
    go false true u = (quad_valid x.octets w, tt)
    go false false u = absurd u

pub one_listed : (kind : ℕ) → kind ≡ 1 → T (listed address_types kind)
one_listed kind e = subst (λ (n : ℕ). T (listed address_types n)) (sym e) tt

pub two_listed : (kind : ℕ) → kind ≡ 2 → T (listed address_types kind)
two_listed kind e = subst (λ (n : ℕ). T (listed address_types n)) (sym e) tt

-- a type that is neither is not listed
pub other_listed : (kind : ℕ) → (kind ≡ 1 → ⊥) → (kind ≡ 2 → ⊥) → T (listed address_types kind) → ⊥
other_listed kind n m t = go (eqb kind 1) (eqb kind 2) refl refl t
  where
    go : (b c : Bool) → eqb kind 1 ≡ b → eqb kind 2 ≡ c → T (b || (c || false)) → ⊥
    go true c e f u = n (eqb-true kind 1 e)
    go false true e f u = m (eqb-true kind 2 f)
    go false false e f u = u

pub router_valid : (x : Router) → x.nexthop.kind < 2 ^ 32 → QuadWords x.nexthop.octets → T (listed address_types x.nexthop.kind)
    → x.src_mask < 2 ^ 32 → x.dst_mask < 2 ^ 32 → Valid extended_data_type (router_value x)
router_valid x k w t i j = (omega arith, tt, (address_valid x.nexthop k w t, (i, (j, tt))))

pub router_other : (x : Router) → (x.nexthop.kind ≡ 1 → ⊥) → (x.nexthop.kind ≡ 2 → ⊥) → Valid extended_data_type (router_value x) → ⊥
router_other x n m h = other_listed x.nexthop.kind n m h.2.0.1

module _ (kind : ℕ) (ns : List ℕ) where
  pub segment_other : (kind < 1) ⊎ (2 < kind) → Valid as_path_type (segment_value kind ns) → ⊥
  segment_other l h = outside 2 kind l h.1

  pub segment_many : (length ns < 2 ^ 32 → ⊥) → Valid as_path_type (segment_value kind ns) → ⊥
  segment_many l h = let few = h.2.0 in let same = words_count ns in l (omega arith)

  pub segment_valid : kind < 2 ^ 32 → 1 ≤ kind → kind ≤ 2 → length ns < 2 ^ 32 → Words ns → Valid as_path_type (segment_value kind ns)
  segment_valid k l m few h = (k, one_to_holds 2 kind l m, words_valid ns few h)

module _ (src dst : List ℕ) where
  pub source_long : (length src < 2 ^ 32 → ⊥) → Valid extended_data_type (user_value src dst) → ⊥
  source_long l h = l h.2.0.0

  pub destination_long : (length dst < 2 ^ 32 → ⊥) → Valid extended_data_type (user_value src dst) → ⊥
  destination_long l h = l h.2.1.0

  pub user_valid : length src < 2 ^ 32 → length dst < 2 ^ 32 → Octets src → Octets dst → Valid extended_data_type (user_value src dst)
  user_valid l m o p = (omega arith, tt, ((omega arith, tt, o), (omega arith, tt, p)))

module _ (direction : ℕ) (url : List ℕ) where
  pub url_other : (direction < 1) ⊎ (2 < direction) → Valid extended_data_type (url_value direction url) → ⊥
  url_other l h = outside 2 direction l h.2.1

  pub url_long : (length url < 2 ^ 32 → ⊥) → Valid extended_data_type (url_value direction url) → ⊥
  url_long l h = l h.2.2.0

  pub url_valid : direction < 2 ^ 32 → 1 ≤ direction → direction ≤ 2 → length url < 2 ^ 32 → Octets url
      → Valid extended_data_type (url_value direction url)
  url_valid d l m few o = (omega arith, tt, (d, one_to_holds 2 direction l m, (omega arith, tt, o)))
