-- The octets of extended data as words and strings. Assumes nothing.
use Prim.Native.Nat.{ℕ, ◌^◌, ◌<◌}
use mathlib.Core.Path.{◌≡◌, refl}
use mathlib.Core.List.{List, [], ◌∷◌, ◌++◌, flat_map, append_assoc, append-nil}
use lib.ListN.{length}
use Rattle.xdr.specs.Writes.{padded_octets}
use Rattle.sflow.specs.Grammar.{octets_of_each, encode}
use Rattle.sflow.specs.Datagram.{extended_data_type}
use Rattle.form_writer.specs.Parts.{words_octets}
use Rattle.xdr.specs.declared.Quad.{Quad}
use Rattle.extended_data.specs.declared.Router.{Router}
use Rattle.form_writer.specs.Values.{router_value, user_value, url_value}
use Rattle.xdr.proofs.Octets.{quad_octets}

-- the octets of a switch as words
pub switch_octets : (a b c d : ℕ) → words_octets (1 ∷ a ∷ b ∷ c ∷ d ∷ []) ≡ encode extended_data_type (1, (a ∷ b ∷ c ∷ d ∷ []))
unfolding words_octets flat_map encode octets_of_each
switch_octets a b c d = refl

-- the octets of a router as words, where its address is an IPv4 address
pub router_ipv4 : (x : Router) → x.nexthop.kind ≡ 1
    → words_octets (2 ∷ 1 ∷ x.nexthop.octets.a ∷ x.src_mask ∷ x.dst_mask ∷ []) ≡ encode extended_data_type (router_value x)
unfolding words_octets flat_map encode octets_of_each
router_ipv4 x e = rw e (simp (append_assoc, append-nil))

-- the same where it is an IPv6 address
pub router_ipv6 : (x : Router) → x.nexthop.kind ≡ 2 → x.nexthop.octets.b < 2 ^ 32 → x.nexthop.octets.c < 2 ^ 32 → x.nexthop.octets.d < 2 ^ 32
    → words_octets (2 ∷ 2 ∷ x.nexthop.octets.a ∷ x.nexthop.octets.b ∷ x.nexthop.octets.c ∷ x.nexthop.octets.d ∷ x.src_mask ∷ x.dst_mask ∷ [])
    ≡ encode extended_data_type (router_value x)
unfolding words_octets flat_map encode octets_of_each
router_ipv6 x e hb hc hd =
    let q : Quad = x.nexthop.octets in
    rw (e, quad_octets q.a q.b q.c q.d hb hc hd) (simp (append_assoc, append-nil))

-- the octets of users as words and strings
pub user_octets : (src dst : List ℕ) (m n : ℕ) → m ≡ length src → n ≡ length dst
    → words_octets (4 ∷ m ∷ []) ++ (padded_octets src ++ (words_octets (n ∷ []) ++ (padded_octets dst ++ []))) ≡ encode extended_data_type (user_value src dst)
unfolding words_octets flat_map padded_octets encode octets_of_each
user_octets src dst m n e f = rw (e, f) (simp (append_assoc, append-nil))

-- the octets of a URL as words and a string
pub url_octets : (direction : ℕ) (url : List ℕ) (n : ℕ) → n ≡ length url
    → words_octets (5 ∷ direction ∷ n ∷ []) ++ (padded_octets url ++ []) ≡ encode extended_data_type (url_value direction url)
unfolding words_octets flat_map padded_octets encode octets_of_each
url_octets direction url n e = rw e (simp (append_assoc, append-nil))
