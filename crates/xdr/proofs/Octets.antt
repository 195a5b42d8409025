-- Numbers and their octets, taken apart into two widths. Assumes nothing.
use Prim.Native.Nat.{ℕ, zero, suc, ◌+◌, ◌*◌, ◌/◌, ◌%◌, ◌^◌, ◌<◌}
use native.Mathlib.Nat.{add-zero, add-suc, add_assoc, mul_assoc, mul_comm, pow-suc, div-div-eq-div-mul, div-add-mod'}
use native.Mathlib.Numerals.{add-one}
use native.Mathlib.Omega.{arith}
use mathlib.Core.Path.{◌≡◌, refl, sym, ◌∙◌}
use mathlib.Core.List.{List, [], ◌∷◌, ◌++◌, append_assoc, append-nil}
use lib.ListN.{length, get_or, length-append}
use Rattle.std.specs.Int.{byte_at, bytes_high_first}
use Rattle.xdr.specs.Numbers.{number_at, octets_of, quad_number}

-- The number in v octets and then w octets, from the numbers in each.
pub number_join : (s : List ℕ) (at v w : ℕ) → number_at s at (v + w) ≡ number_at s at v * 256 ^ w + number_at s (at + v) w
unfolding number_at
number_join s at v zero = rw (add-zero v) (omega arith)
number_join s at v (suc w) =
    rw (add-suc v w, number_join s at v w, pow-suc, ← mul_assoc, ← add_assoc at v w) (omega arith)

-- The number in one octet.
pub octet_number : (s : List ℕ) (at : ℕ) → number_at s at 1 ≡ get_or s at 0
unfolding number_at
octet_number s at = rw (add-zero at) (omega arith)

-- The number in two octets, octet by octet.
pub pair_number : (s : List ℕ) (at : ℕ) → number_at s at 2 ≡ get_or s at 0 * 256 + get_or s (at + 1) 0
unfolding number_at
pair_number s at = rw (add-zero at) (omega arith)

-- The number in four octets, octet by octet.
pub word_number : (s : List ℕ) (at : ℕ)
    → number_at s at 4 ≡ get_or s at 0 * 16777216 + get_or s (at + 1) 0 * 65536 + get_or s (at + 2) 0 * 256 + get_or s (at + 3) 0
unfolding number_at
word_number s at = rw (add-zero at) (omega arith)

-- A number of w octets has w octets.
pub octets_length : (w x : ℕ) → length (octets_of w x) ≡ w
unfolding octets_of
octets_length zero x = refl
octets_length (suc w) x = rw (length-append, octets_length w (x / 256)) (add-one w)

-- The octets of a number in v + w octets: those of what stands above the lower w, and then the lower w.
pub octets_join : (v w x : ℕ) → octets_of (v + w) x ≡ octets_of v (x / 256 ^ w) ++ octets_of w x
unfolding octets_of
octets_join v zero x = let e : x / 1 ≡ x = omega arith in rw (add-zero v, e) (sym (append-nil (octets_of v x)))
octets_join v (suc w) x =
    let e : x / 256 / 256 ^ w ≡ x / 256 ^ suc w = div-div-eq-div-mul x 256 (256 ^ w) ∙ rw (mul_comm, ← pow-suc) in
    rw (add-suc v w, octets_join v w (x / 256), e)
    (append_assoc (octets_of v (x / 256 ^ suc w)) (octets_of w (x / 256)) (x % 256 ∷ []))

-- What stands above the lower w octets does not change them.
octets_above : (w y x : ℕ) → octets_of w (y * 256 ^ w + x) ≡ octets_of w x
unfolding octets_of
octets_above zero y x = refl
octets_above (suc w) y x =
    let k : ℕ = y * 256 ^ w in
    let e : y * 256 ^ suc w ≡ k * 256 = rw pow-suc (sym (mul_assoc y (256 ^ w) 256)) in
    let quotient : (k * 256 + x) / 256 ≡ k + x / 256 = omega arith in
    let remainder : (k * 256 + x) % 256 ≡ x % 256 = omega arith in
    rw (e, quotient, remainder, octets_above w y (x / 256))

-- The lower w octets of a number are those of its remainder.
pub octets_low : (w x : ℕ) → octets_of w (x % 256 ^ w) ≡ octets_of w x
octets_low w x = sym (octets_above w (x / 256 ^ w) (x % 256 ^ w)) ∙ rw (div-add-mod' x (256 ^ w))

-- The octets of a number with a word below it: those of the number, and those of the word.
word_below : (v y x : ℕ) → x < 2 ^ 32 → octets_of (v + 4) (y * 2 ^ 32 + x) ≡ octets_of v y ++ octets_of 4 x
word_below v y x h =
    let n : ℕ = y * 2 ^ 32 + x in
    let high : n / 256 ^ 4 ≡ y = omega arith in
    let low : n % 256 ^ 4 ≡ x = omega arith in
    octets_join v 4 n ∙ rw (high, ← octets_low 4 n, low)

-- The sixteen octets of four words are those of each word.
pub quad_octets : (a b c d : ℕ) → b < 2 ^ 32 → c < 2 ^ 32 → d < 2 ^ 32
    → octets_of 16 (quad_number a b c d) ≡ octets_of 4 a ++ (octets_of 4 b ++ (octets_of 4 c ++ octets_of 4 d))
quad_octets a b c d hb hc hd =
    word_below 12 ((a * 2 ^ 32 + b) * 2 ^ 32 + c) d hd
    ∙ rw (word_below 8 (a * 2 ^ 32 + b) c hc, word_below 4 a b hb) (simp append_assoc)

-- The four octets of a word, one by one.
pub word_octets : (v : ℕ) → v < 4294967296 → octets_of 4 v ≡ v / 16777216 ∷ v / 65536 % 256 ∷ v / 256 % 256 ∷ v % 256 ∷ []
unfolding octets_of
word_octets v h =
    let a : v / 256 / 256 / 256 % 256 ≡ v / 16777216 = omega arith in
    let b : v / 256 / 256 % 256 ≡ v / 65536 % 256 = omega arith in
    rw (a, b)

-- A byte of a number, counted from the lowest, is what stands above the bytes below it.
byte_above : (w v : ℕ) → byte_at w v ≡ v / 256 ^ w % 256
byte_above zero v = omega arith
byte_above (suc w) v = refl

-- The octets of a number are the library's bytes of it.
pub bytes_octets : (w v : ℕ) → bytes_high_first w v ≡ octets_of w v
unfolding octets_of
bytes_octets zero v = refl
bytes_octets (suc w) v =
    let more : 1 + w ≡ suc w = omega arith in
    rw (bytes_octets w v, byte_above w v) (sym (octets_join 1 w v) ∙ rw more)
