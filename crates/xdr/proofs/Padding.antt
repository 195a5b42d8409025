-- Strings with their padding: what a read answers, and what each answer says of the octets. Assumes nothing.
use Prim.Native.Nat.{ℕ, zero, suc, ◌+◌, ◌-◌, ◌≤◌, ◌<◌}
use native.Mathlib.Nat.{not-suc-le-zero, eq-or-lt_of_le}
use native.Mathlib.Omega.{arith}
use mathlib.Core.Path.{◌≡◌, refl}
use mathlib.Core.Logic.{◌⊎◌, inl, inr, ⊎_elim}
use mathlib.Core.Bool.{Bool, true, false, cond}
use mathlib.Core.List.{List}
use lib.ListN.{length, get_or}
use lib.Dec.{eqb}
use borrow.Author.Tests.{le-leb, lt-leb, eq-eqb, ne_eqb, eqb-true, eqb-false}
use Rattle.std.specs.Prelude.{Option, Some, None, Ok, Err}
use Rattle.xdr.specs.Items.{nonzero_at, padded, with_padding, padded_at}
use Rattle.xdr.specs.declared.Unpadded.TheVariants.{CutShort, NonzeroPadding}
use Rattle.xdr.proofs.Reading.{never, tested_yes}

-- No octets are all zero.
pub zeros_end : (s : List ℕ) (at n : ℕ) → n ≤ 0 → nonzero_at s at n ≡ None
unfolding nonzero_at
zeros_end s at zero h = refl
zeros_end s at (suc n) h = absurd (not-suc-le-zero h)

-- Where the first octet is zero, the answer is that of the rest.
pub zeros_step : (s : List ℕ) (at n : ℕ) → 0 < n → get_or s at 0 ≡ 0 → nonzero_at s at n ≡ nonzero_at s (at + 1) (n - 1)
unfolding nonzero_at
zeros_step s at zero h e = absurd (not-suc-le-zero h)
zeros_step s at (suc n) h e = let f : suc n - 1 ≡ n = omega arith in simp (eq-eqb _ _ e, f)

-- Where the first octet is not zero, the answer is its offset.
pub zeros_stop : (s : List ℕ) (at n : ℕ) → 0 < n → (get_or s at 0 ≡ 0 → ⊥) → nonzero_at s at n ≡ Some at
unfolding nonzero_at
zeros_stop s at zero h e = absurd (not-suc-le-zero h)
zeros_stop s at (suc n) h e = simp (ne_eqb _ _ e)

-- An answer that goes by whether an octet is zero.
zero_tested : (v : ℕ) (x y z : Option ℕ) → cond (eqb v 0) x y ≡ z → ((v ≡ 0) × (x ≡ z)) ⊎ ((v ≡ 0 → ⊥) × (y ≡ z))
zero_tested v x y z e = go (eqb v 0) refl e
  where
    go : (b : Bool) → eqb v 0 ≡ b → cond b x y ≡ z → ((v ≡ 0) × (x ≡ z)) ⊎ ((v ≡ 0 → ⊥) × (y ≡ z))
    go true h q = inl (eqb-true v 0 h, q)
    go false h q = inr (eqb-false v 0 h, q)

-- Zero octets behind a zero octet, as zero octets from that one on.
zeros_from : (s : List ℕ) (at end : ℕ) → get_or s at 0 ≡ 0 → ((i : ℕ) → at + 1 ≤ i → i < end → get_or s i 0 ≡ 0)
    → (i : ℕ) → at ≤ i → i < end → get_or s i 0 ≡ 0
zeros_from s at end z f i a b =
    ⊎_elim (λ e. rw e at z) (λ l. let h : at + 1 ≤ i = omega arith in f i h b) (eq-or-lt_of_le a)

-- What all zero says: every one of the octets is zero.
pub zeros_read : (s : List ℕ) (at n : ℕ) → nonzero_at s at n ≡ None → (i : ℕ) → at ≤ i → i < at + n → get_or s i 0 ≡ 0
unfolding nonzero_at
zeros_read s at zero e = λ i a b. absurd (omega arith)
zeros_read s at (suc n) e =
    ⊎_elim
    (λ h. zeros_from s at (at + suc n) h.0
    (λ i a b. let c : i < at + 1 + n = omega arith in zeros_read s (at + 1) n h.1 i a c))
    (λ h. absurd (never (let q = h.1 in cc)))
    (zero_tested (get_or s at 0) _ _ _ e)

-- A string that is there with zero padding is read.
pub padded_whole : (s : List ℕ) (at n : ℕ) → at + padded n ≤ length s → nonzero_at s (at + n) (padded n - n) ≡ None
    → padded_at s at n ≡ Ok (at + padded n)
unfolding padded_at
padded_whole s at n h e = rw (le-leb _ _ h, e)

-- A string that is there with an octet in its padding that is not zero is refused at that octet.
pub padded_not : (s : List ℕ) (at n p : ℕ) → at + padded n ≤ length s → nonzero_at s (at + n) (padded n - n) ≡ Some p
    → padded_at s at n ≡ Err (NonzeroPadding p)
unfolding padded_at
padded_not s at n p h e = rw (le-leb _ _ h, e)

-- A string with octets or padding missing is cut at its own offset.
pub padded_missing : (s : List ℕ) (at n : ℕ) → length s < at + padded n → padded_at s at n ≡ Err (CutShort at)
unfolding padded_at
padded_missing s at n h = rw (lt-leb _ _ h)

-- What an answer that goes by the padding says of it.
padding_zero : (next end : ℕ) (z : Option ℕ) → with_padding end z ≡ Ok next → (z ≡ None) × (next ≡ end)
padding_zero next end None e = (refl, cc)
padding_zero next end (Some p) e = absurd (never (cc))

-- A string that was read: its octets and padding are there, the padding is zero, and the next offset is behind it.
pub record StringRead (s : List ℕ) (at n next : ℕ) : Type 0 where
  pub room : at + padded n ≤ length s
  pub next_is : next ≡ at + padded n
  pub zeros : nonzero_at s (at + n) (padded n - n) ≡ None

-- What the answer of an offset behind a string says.
pub padded_read : (s : List ℕ) (at n next : ℕ) → padded_at s at n ≡ Ok next → StringRead s at n next
unfolding padded_at
padded_read s at n next e =
    let h = tested_yes (at + padded n) (length s) _ _ _ (λ q. never (cc)) e in
    let z = padding_zero next (at + padded n) (nonzero_at s (at + n) (padded n - n)) h.1 in
    record { room = h.0; next_is = z.1; zeros = z.0 }
