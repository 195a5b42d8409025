-- What reading extended data finds, by its type. Assumes nothing.
use Prim.Native.Nat.{ℕ, ◌+◌}
use mathlib.Core.Path.{◌≡◌, refl, ap, ◌∙◌}
use mathlib.Core.Bool.{false, ◌||◌}
use mathlib.Core.List.{List}
use lib.Dec.{eqb}
use borrow.Author.Tests.{ne_eqb}
use Rattle.std.specs.Prelude.{Ok}
use Rattle.xdr.specs.Items.{word_at}
use Rattle.xdr.proofs.Reading.{word_read}
use Rattle.sflow.specs.declared.Refusal.TheVariants.{ExtendedDataType}
use Rattle.sflow.specs.Decode.{refused, mapped, decode}
use Rattle.sflow.specs.Datagram.{extended_switch, extended_router, extended_gateway, extended_user, extended_url, extended_data_type}
use Rattle.sflow.proofs.Steps.{union_arm, union_bad}
use Rattle.extended_data.specs.ExtendedData.{switch_of, router_of, gateway_of, user_of, url_of, extended_of}

module _ (s : List ℕ) (at kind next : ℕ) (e : word_at s at ≡ Ok (kind, next)) where
  -- the type word, of a type that is known
  typed : (k : ℕ) → kind ≡ k → word_at s at ≡ Ok (k, next)
  typed k f = e ∙ ap (λ (n : ℕ). Ok (n, next)) f

  -- the offset behind the type word
  behind : next ≡ at + 4
  behind = (word_read s at kind next e).next_is

  -- type 1: what follows is a switch's data
  pub switch_kind : kind ≡ 1 → mapped (extended_of at) (decode extended_data_type s at) ≡ mapped switch_of (decode extended_switch s next)
  switch_kind f = union_arm _ _ _ s at (extended_of at) 1 next (typed 1 f) refl

  -- type 2: what follows is a router's data
  pub router_kind : kind ≡ 2 → mapped (extended_of at) (decode extended_data_type s at) ≡ mapped router_of (decode extended_router s next)
  router_kind f = union_arm _ _ _ s at (extended_of at) 2 next (typed 2 f) refl

  -- type 3: what follows is a gateway's data
  pub gateway_kind : kind ≡ 3 → mapped (extended_of at) (decode extended_data_type s at) ≡ mapped (gateway_of next) (decode extended_gateway s next)
  gateway_kind f = union_arm _ _ _ s at (extended_of at) 3 next (typed 3 f) refl ∙ rw behind

  -- type 4: what follows is the names of users
  pub user_kind : kind ≡ 4 → mapped (extended_of at) (decode extended_data_type s at) ≡ mapped (user_of next) (decode extended_user s next)
  user_kind f = union_arm _ _ _ s at (extended_of at) 4 next (typed 4 f) refl ∙ rw behind

  -- type 5: what follows is a URL
  pub url_kind : kind ≡ 5 → mapped (extended_of at) (decode extended_data_type s at) ≡ mapped (url_of next) (decode extended_url s next)
  url_kind f = union_arm _ _ _ s at (extended_of at) 5 next (typed 5 f) refl ∙ rw behind

  -- any other type
  pub other_kind : (kind ≡ 1 → ⊥) → (kind ≡ 2 → ⊥) → (kind ≡ 3 → ⊥) → (kind ≡ 4 → ⊥) → (kind ≡ 5 → ⊥)
      → mapped (extended_of at) (decode extended_data_type s at) ≡ refused ExtendedDataType at
  other_kind f1 f2 f3 f4 f5 =
      let t : (eqb kind 1 || (eqb kind 2 || (eqb kind 3 || (eqb kind 4 || (eqb kind 5 || false))))) ≡ false =
      rw (ne_eqb kind 1 f1, ne_eqb kind 2 f2, ne_eqb kind 3 f3, ne_eqb kind 4 f4, ne_eqb kind 5 f5) in
      union_bad _ _ _ s at (extended_of at) kind next e t
