-- The order in which the machine comes to rules, as a number that falls: the open calls, oldest first, and the present rule are a node of a tree five
-- levels deep in which every node has n children, and each step goes to a node that comes later. Assumes nothing.
use Prim.Native.Nat.{ℕ, zero, suc, ◌+◌, ◌*◌, ◌-◌, ◌^◌, ◌≤◌, ◌<◌}
use mathlib.Core.Path.{◌≡◌, refl, ap, ◌∙◌}
use native.Mathlib.Omega.{arith}
use native.Mathlib.Nat.{mul-le-mul_right, pow-suc, pow-zero, one-mul}
use mathlib.Core.List.{List, [], ◌∷◌}
use lib.ListN.{length}
use Rattle.rules.specs.Demand.{bound}

-- the nodes of a tree of k more levels, each node with n children
unfoldable pub size : ℕ → ℕ → ℕ
size n zero = 1
size n (suc k) = 1 + n * size n k

pub size_pos : (n k : ℕ) → 1 ≤ size n k
unfolding size
size_pos n zero = omega arith
size_pos n (suc k) = omega arith

-- what comes after the calls' subtrees, the newest call first
unfoldable pub later : ℕ → List ℕ → ℕ
later n [] = 0
later n (g ∷ s) = later n s + (n - g) * size n (4 - length s)

-- the nodes from rule p on, under the calls s
unfoldable pub left : ℕ → ℕ → List ℕ → ℕ
left n p s = later n s + (suc n - p) * size n (4 - length s)

-- a power with a numeral for its exponent, as a product
pow1 : (n : ℕ) → n ^ 1 ≡ n
pow1 n = pow-suc n 0 ∙ simp (pow-zero, one-mul)

powers : (n : ℕ) → (n ^ 2 ≡ n * n) × (n ^ 3 ≡ n * n * n) × (n ^ 4 ≡ n * n * n * n) × (n ^ 5 ≡ n * n * n * n * n)
powers n =
    let p2 : n ^ 2 ≡ n * n = pow-suc n 1 ∙ ap (λ (x : ℕ). x * n) (pow1 n) in
    let p3 : n ^ 3 ≡ n * n * n = pow-suc n 2 ∙ ap (λ (x : ℕ). x * n) p2 in
    let p4 : n ^ 4 ≡ n * n * n * n = pow-suc n 3 ∙ ap (λ (x : ℕ). x * n) p3 in
    (p2, p3, p4, pow-suc n 4 ∙ ap (λ (x : ℕ). x * n) p4)

pub left_start : (n : ℕ) → left n 1 [] ≡ bound n
unfolding left later size
left_start n =
    let e : suc n - 1 ≡ n = omega arith in
    rw e (omega (arith, powers n))

size_step : (n d : ℕ) → d < 4 → size n (4 - d) ≡ 1 + n * size n (4 - suc d)
size_step n d h =
    let e : 4 - d ≡ suc (4 - suc d) = omega arith in
    rw e (unfold size in refl)

-- a later rule under the same calls
pub left_on : (n p t : ℕ) (s : List ℕ) → p < t → t ≤ n → left n t s < left n p s
unfolding left
left_on n p t s h l =
    let c : ℕ = size n (4 - length s) in
    let a : suc (suc n - t) * c ≤ (suc n - p) * c = mul-le-mul_right c (omega arith) in
    omega (arith, size_pos n (4 - length s), a)

-- the first rule of a subroutine, under one call more
pub left_call : (n p t : ℕ) (s : List ℕ) → length s < 4 → p ≤ n → 1 ≤ t → left n t (p ∷ s) < left n p s
unfolding left later
left_call n p t s d h l =
    let c : ℕ = size n (4 - length s) in
    let c' : ℕ = size n (4 - suc (length s)) in
    let a : suc (n - p) * c ≤ (suc n - p) * c = mul-le-mul_right c (omega arith) in
    let b : (suc n - t) * c' ≤ n * c' = mul-le-mul_right c' (omega arith) in
    omega (arith, size_step n (length s) d, a, b)

-- back from a subroutine, to a rule above the call's
pub left_back : (n p g t : ℕ) (s : List ℕ) → g < t → p ≤ n → left n t s < left n p (g ∷ s)
unfolding left later
left_back n p g t s h k =
    let c : ℕ = size n (4 - length s) in
    let c' : ℕ = size n (4 - suc (length s)) in
    let a : (suc n - t) * c ≤ (n - g) * c = mul-le-mul_right c (omega arith) in
    let b : 1 * c' ≤ (suc n - p) * c' = mul-le-mul_right c' (omega arith) in
    omega (arith, size_pos n (4 - suc (length s)), a, b)

-- at a rule that exists something is left
pub left_pos : (n p : ℕ) (s : List ℕ) → p ≤ n → 1 ≤ left n p s
unfolding left
left_pos n p s h =
    let c : ℕ = size n (4 - length s) in
    let b : 1 * c ≤ (suc n - p) * c = mul-le-mul_right c (omega arith) in
    omega (arith, size_pos n (4 - length s), b)
