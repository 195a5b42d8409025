-- What reading a router's data finds. Assumes nothing.
use Prim.Native.Nat.{ℕ}
use mathlib.Core.Path.{◌≡◌, ◌∙◌}
use mathlib.Core.List.{List}
use Rattle.std.specs.Prelude.{Ok, Err}
use Rattle.sflow.specs.declared.Refused.{Refused}
use Rattle.sflow.specs.Decode.{Decoded, refused, mapped, as_read, decode}
use Rattle.sflow.specs.Datagram.{address, extended_router}
use Rattle.fields.specs.declared.address.Address.{Address}
use Rattle.fields.specs.Parts.{item}
use Rattle.fields.specs.Addresses.{address_of}
use Rattle.fields.specs.Words.{words}
use Rattle.fields.proofs.Answers.{read_told, read_refused}
use Rattle.fields.proofs.Compounds.{then_seen, then_unseen}
use Rattle.extended_data.specs.declared.Extended.{Extended}
use Rattle.extended_data.specs.declared.Extended.TheVariants.{IsRouter}
use Rattle.extended_data.specs.ExtendedData.{router_of}

-- a router of a next hop and two masks
abbrev pub router_with : Address → List ℕ → Extended
router_with a masks = IsRouter (record { nexthop = a; src_mask = item masks 0; dst_mask = item masks 1 })

-- the next hop was read: what the masks answer is the answer
pub router_masks : (s : List ℕ) (at : ℕ) (a : Address) (next : ℕ) (d : Decoded (List ℕ)) → as_read (mapped address_of (decode address s at)) ≡ Ok (a, next)
    → decode (words 2) s next ≡ d → mapped router_of (decode extended_router s at) ≡ mapped (router_with a) d
router_masks s at a next d e f =
    then_seen address (words 2) s at address_of (λ a p. router_with a) a next (read_told _ _ _ e) ∙ rw f

-- the next hop is refused
pub router_refused : (s : List ℕ) (at : ℕ) (r : Refused) → as_read (mapped address_of (decode address s at)) ≡ Err r
    → mapped router_of (decode extended_router s at) ≡ refused r.why r.at
router_refused s at r e = then_unseen address (words 2) s at address_of router_of r.why r.at (read_refused _ _ e)
