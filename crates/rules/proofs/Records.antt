-- Rule records as their octets are read. Assumes nothing.
use Prim.Native.Nat.{ℕ, ◌+◌, ◌*◌, ◌-◌, ◌≤◌, ◌<◌}
use native.Mathlib.Omega.{arith}
use mathlib.Core.Path.{◌≡◌, ◌∙◌}
use mathlib.Core.List.{List, [], ◌∷◌}
use lib.ListN.{get_or}
use borrow.Author.Tests.{le-leb, lt-leb}
use Rattle.xdr.specs.Numbers.{number_at}
use Rattle.xdr.specs.Items.{numbers_at}
use Rattle.xdr.proofs.Octets.{octet_number, pair_number, word_number}
use Rattle.rules.specs.declared.RuleRecord.{RuleRecord}
use Rattle.rules.specs.Records.{record_widths, rule_in, declared_in, record_in, no_record, rule_count, record_of}

-- the numbers of a record, each at its offset
fields_are : (s : List ℕ) (p : ℕ) → numbers_at s p record_widths
    ≡ number_at s p 2 ∷ number_at s (p + 2) 1 ∷ number_at s (p + 3) 1 ∷ number_at s (p + 4) 4 ∷ number_at s (p + 8) 4 ∷ number_at s (p + 12) 1
    ∷ number_at s (p + 13) 1 ∷ number_at s (p + 14) 1 ∷ number_at s (p + 15) 1 ∷ []
unfolding numbers_at
fields_are s p =
    let a : p + 2 + 1 ≡ p + 3 = omega arith in
    let b : p + 3 + 1 ≡ p + 4 = omega arith in
    let c : p + 4 + 4 ≡ p + 8 = omega arith in
    let d : p + 8 + 4 ≡ p + 12 = omega arith in
    let e : p + 12 + 1 ≡ p + 13 = omega arith in
    let f : p + 13 + 1 ≡ p + 14 = omega arith in
    let g : p + 14 + 1 ≡ p + 15 = omega arith in
    rw (a, b, c, d, e, f, g)

module _ (s : List ℕ) (p : ℕ) where
  pub rule_read : (mask value : ℕ) → mask ≡ get_or s (p + 4) 0 * 16777216 + get_or s (p + 5) 0 * 65536 + get_or s (p + 6) 0 * 256 + get_or s (p + 7) 0
      → value ≡ get_or s (p + 8) 0 * 16777216 + get_or s (p + 9) 0 * 65536 + get_or s (p + 10) 0 * 256 + get_or s (p + 11) 0
      → (parameter : ℕ) → parameter ≡ get_or s (p + 12) 0
      → record { attribute = get_or s (p + 2) 0; opcode = get_or s (p + 3) 0; mask = mask; value = value; parameter = parameter } ≡ rule_in (numbers_at s p record_widths)
  rule_read mask value m v parameter e =
      let a : p + 4 + 1 ≡ p + 5 = omega arith in
      let b : p + 4 + 2 ≡ p + 6 = omega arith in
      let c : p + 4 + 3 ≡ p + 7 = omega arith in
      let d : p + 8 + 1 ≡ p + 9 = omega arith in
      let f : p + 8 + 2 ≡ p + 10 = omega arith in
      let g : p + 8 + 3 ≡ p + 11 = omega arith in
      rw
      (fields_are s p, octet_number s (p + 2), octet_number s (p + 3), octet_number s (p + 12), word_number s (p + 4), word_number s (p + 8), a, b, c, d, f, g, m, v, e)

  pub declared_read : (home : ℕ) → home ≡ get_or s (p + 13) 0
      → record { home = home; depth = get_or s (p + 14) 0; held = get_or s (p + 15) 0 } ≡ declared_in (numbers_at s p record_widths)
  declared_read home e = rw (fields_are s p, octet_number s (p + 13), octet_number s (p + 14), octet_number s (p + 15), e)

  pub mark_read : get_or s p 0 * 256 + get_or s (p + 1) 0 ≡ get_or (numbers_at s p record_widths) 0 0
  mark_read = rw (fields_are s p, pair_number s p)

-- ---- records that are there, and that are not

module _ (s : List ℕ) (i : ℕ) where
  pub no_zeroth : i < 1 → no_record ≡ record_of s i
  unfolding record_of
  no_zeroth h = rw (lt-leb 1 i h)

  pub none_behind : 1 ≤ i → rule_count s < i → no_record ≡ record_of s i
  unfolding record_of
  none_behind l h = rw (le-leb 1 i l, lt-leb i (rule_count s) h)

  pub record_there : 1 ≤ i → i ≤ rule_count s → record_in (numbers_at s (16 * (i - 1)) record_widths) ≡ record_of s i
  unfolding record_of
  record_there l h = rw (le-leb 1 i l, le-leb i (rule_count s) h)

  -- a record put together from its parts
  pub record_joined : 1 ≤ i → i ≤ rule_count s → (r : RuleRecord) → r.mark ≡ get_or (numbers_at s (16 * (i - 1)) record_widths) 0 0
      → r.rule ≡ rule_in (numbers_at s (16 * (i - 1)) record_widths) → r.declared ≡ declared_in (numbers_at s (16 * (i - 1)) record_widths)
      → r ≡ record_of s i
  record_joined l h r a b c = (λ j. record { mark = a j; rule = b j; declared = c j }) ∙ record_there l h
