-- What the views of a packet are, by the numbers read of its octets. Assumes nothing.
use Prim.Native.Nat.{ℕ, min, ◌+◌, ◌*◌, ◌-◌, ◌≤◌}
use native.Mathlib.Omega.{arith}
use mathlib.Core.Path.{◌≡◌, ◌∙◌, ap}
use mathlib.Core.List.{List}
use mathlib.Core.Bool.{true, ◌||◌}
use lib.ListN.{length, get_or, take, drop, length-drop}
use lib.Seq.{take_all}
use lib.Dec.{eqb}
use Rattle.std.specs.List.{slice_range}
use Rattle.std.proofs.lemmas.List.{take_min}
use Rattle.fields.specs.declared.strings.Text.{Text}
use Rattle.fields.specs.Strings.{text_in}
use borrow.Author.Tests.{eq-eqb, le-leb}
use Rattle.xdr.proofs.Octets.{pair_number, word_number}
use Rattle.packet.specs.declared.Ports.{Ports}
use Rattle.packet.specs.Attributes.{header_size, is_ipv4, ports_of, ipv4_view, holds_ipv4, header_view}

module _ (x : List ℕ) where
  pub ports_there : (protocol size : ℕ) → (eqb protocol 6 || eqb protocol 17) ≡ true → size + 4 ≤ length x → (a b : ℕ)
      → a ≡ get_or x size 0 * 256 + get_or x (size + 1) 0 → b ≡ get_or x (size + 2) 0 * 256 + get_or x (size + 3) 0
      → record { source = a; dest = b } ≡ ports_of x protocol size
  unfolding ports_of
  ports_there protocol size h l a b e f =
      let z : size + 2 + 1 ≡ size + 3 = omega arith in
      rw (h, le-leb (size + 4) (length x) l, pair_number x size, pair_number x (size + 2), z, e, f)

  pub ipv4_seen : is_ipv4 x ≡ true → (source dest protocol size : ℕ) (ports : Ports)
      → source ≡ get_or x 12 0 * 16777216 + get_or x 13 0 * 65536 + get_or x 14 0 * 256 + get_or x 15 0
      → dest ≡ get_or x 16 0 * 16777216 + get_or x 17 0 * 65536 + get_or x 18 0 * 256 + get_or x 19 0
      → protocol ≡ get_or x 9 0 → size ≡ header_size x → ports ≡ ports_of x protocol size
      → record { peer_type = 1; source_address = source; dest_address = dest; protocol = protocol; ports = ports } ≡ ipv4_view x
  unfolding ipv4_view
  ipv4_seen e source dest protocol size ports a b c d f = rw (e, word_number x 12, word_number x 16, a, b, f, d, c)

  -- octets lent from an offset to the end
  to_end : (k : ℕ) → take (length x - k) (drop k x) ≡ drop k x
  to_end k = let n : length (drop k x) ≤ length x - k = rw length-drop (omega arith) in take_all (length x - k) (drop k x) n

  -- an Ethernet frame's IPv4, in the octets lent from 14 to the end
  pub ethernet_ipv4 : (protocol : ℕ) → protocol ≡ 1 → holds_ipv4 x ≡ true → ipv4_view (take (length x - 14) (drop 14 x)) ≡ header_view protocol x
  unfolding header_view
  ethernet_ipv4 protocol e h = rw (eq-eqb protocol 1 e, h) (ap ipv4_view (to_end 14))

  -- a header's octets, as many as are there
  pub text_lent : (t : Text) (rest : List ℕ) (n : ℕ) → rest ≡ slice_range x t.at (length x) → n ≡ min t.length (length rest) → take n rest ≡ text_in x t
  text_lent t rest n e h = rw h (take_min t.length rest ∙ ap (take t.length) (e ∙ to_end t.at))
