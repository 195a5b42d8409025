-- The octets of a datagram without samples. Assumes nothing.
use Prim.Native.Nat.{ℕ, ◌^◌, ◌<◌}
use native.Mathlib.Omega.{arith}
use Prim.{tt}
use mathlib.Core.Path.{◌≡◌}
use mathlib.Core.Bool.{true, false, cond}
use mathlib.Core.List.{List, [], ◌∷◌, flat_map, append_assoc, append-nil}
use lib.ListN.{length}
use lib.Dec.{T, eqb}
use Rattle.std.specs.Prelude.{Err}
use Rattle.xdr.specs.Writes.{afterwards}
use Rattle.xdr.specs.Numbers.{quad_number}
use Rattle.xdr.proofs.Octets.{quad_octets}
use Rattle.sflow.specs.Grammar.{Valid, listed, octets_of_each, encode}
use Rattle.sflow.specs.Datagram.{address_types, sample_datagram}
use Rattle.sflow.proofs.Allows.{valid_allowed, invalid_refused}
use Rattle.fields.specs.declared.address.Address.{Address}
use Rattle.form_writer.specs.declared.parts.WriteRefusal.TheVariants.{BadLimit, BadValue}
use Rattle.form_writer.specs.Parts.{write_alone, words_octets}
use Rattle.form_writer.specs.Values.{quad_value}
use Rattle.form_writer.proofs.FormValues.{QuadWords, address_valid, one_listed, two_listed, other_listed}
use Rattle.writer.specs.Datagrams.{limit_allowed, start_value, started}

start_v4 : (a q s u k : ℕ) → k ≡ 1
    → words_octets (4 ∷ 1 ∷ a ∷ s ∷ u ∷ 0 ∷ []) ≡ encode sample_datagram (4, ((k, (cond (eqb k 1) a q ∷ [])), ((s ∷ u ∷ []), [])))
unfolding words_octets flat_map encode octets_of_each
start_v4 a q s u k e = rw e (simp (append_assoc, append-nil))

start_v6 : (a b c d s u k : ℕ) → k ≡ 2 → b < 2 ^ 32 → c < 2 ^ 32 → d < 2 ^ 32
    → words_octets (4 ∷ 2 ∷ a ∷ b ∷ c ∷ d ∷ s ∷ u ∷ 0 ∷ []) ≡ encode sample_datagram (4, ((k, (cond (eqb k 1) a (quad_number a b c d) ∷ [])), ((s ∷ u ∷ []), [])))
unfolding words_octets flat_map encode octets_of_each
start_v6 a b c d s u k e hb hc hd = rw (e, quad_octets a b c d hb hc hd) (simp (append_assoc, append-nil))

module _ (limit : ℕ) (agent : Address) (s u : ℕ) (d : List ℕ) where
  pub start_limit : limit_allowed limit (length d) ≡ false → afterwards (Err BadLimit) d ≡ started limit agent s u d
  unfolding started
  start_limit e = rw e

  -- a datagram without samples is a value of the grammar where the agent's address is one
  pub start_valid : agent.kind < 2 ^ 32 → QuadWords agent.octets → T (listed address_types agent.kind) → s < 2 ^ 32 → u < 2 ^ 32
      → Valid sample_datagram (start_value agent s u)
  start_valid k q t i j = (omega arith, tt, (address_valid agent k q t, ((i, (j, tt)), (omega arith, tt))))

  module _ (e : limit_allowed limit (length d) ≡ true) where
    -- octets that are its own
    start_written : (xs : List ℕ) → Valid sample_datagram (start_value agent s u) → xs ≡ encode sample_datagram (start_value agent s u)
        → write_alone xs d ≡ started limit agent s u d
    unfolding started
    start_written xs h same = rw (e, valid_allowed sample_datagram (start_value agent s u) h, same)

    pub start_ipv4 : agent.kind ≡ 1 → agent.kind < 2 ^ 32 → QuadWords agent.octets → s < 2 ^ 32 → u < 2 ^ 32
        → write_alone (words_octets (4 ∷ 1 ∷ agent.octets.a ∷ s ∷ u ∷ 0 ∷ [])) d ≡ started limit agent s u d
    start_ipv4 f k q i j =
        start_written _ (start_valid k q (one_listed agent.kind f) i j)
        (start_v4 agent.octets.a (quad_value agent.octets) s u agent.kind f)

    pub start_ipv6 : agent.kind ≡ 2 → agent.kind < 2 ^ 32 → QuadWords agent.octets → s < 2 ^ 32 → u < 2 ^ 32
        → write_alone (words_octets (4 ∷ 2 ∷ agent.octets.a ∷ agent.octets.b ∷ agent.octets.c ∷ agent.octets.d ∷ s ∷ u ∷ 0 ∷ [])) d ≡ started limit agent s u d
    start_ipv6 f k q i j =
        let o = agent.octets in
        start_written _ (start_valid k q (two_listed agent.kind f) i j)
        (start_v6 o.a o.b o.c o.d s u agent.kind f q.b q.c q.d)

    pub start_other : (agent.kind ≡ 1 → ⊥) → (agent.kind ≡ 2 → ⊥) → afterwards (Err BadValue) d ≡ started limit agent s u d
    unfolding started
    start_other f g = rw (e, invalid_refused sample_datagram (start_value agent s u) (λ h. other_listed agent.kind f g h.2.0.1))
