-- What reading a string finds. Assumes nothing.
use Prim.Native.Nat.{ℕ, ◌+◌, ◌≤◌}
use native.Mathlib.Omega.{arith}
use mathlib.Core.Path.{◌≡◌, refl, ◌∙◌}
use mathlib.Core.List.{List}
use lib.ListN.{length, take, drop, length-take, length-drop}
use Rattle.xdr.specs.Items.{word_at, padded, padded_at}
use Rattle.xdr.proofs.Reading.{word_read}
use Rattle.xdr.proofs.Padding.{padded_read}
use Rattle.sflow.specs.declared.Refusal.{Refusal}
use Rattle.sflow.specs.Grammar.{opaque, unlimited}
use Rattle.sflow.specs.Decode.{found, refused, mapped, string_item, decode}
use Rattle.sflow.proofs.Steps.{string_word}
use Rattle.fields.specs.Parts.{as_passed}
use Rattle.fields.specs.Strings.{text_of}
use Rattle.fields.proofs.Passing.{passed_refused}
use Rattle.std.specs.Prelude.{Result, Ok, Err}
use Rattle.xdr.specs.declared.Unpadded.{Unpadded}
use Rattle.xdr.specs.declared.Unpadded.TheVariants.{CutShort, NonzeroPadding}
use Rattle.std.specs.Prelude.{Result, Ok, Err}
use Rattle.sflow.specs.Decode.{refused_at}

-- the octets of a string that were passed over
pub record OctetsFound (s : List ℕ) (at n next : ℕ) : Type 0 where
  pub octets : string_item (take n (drop at s)) (padded_at s at n) ≡ found (take n (drop at s)) next
  pub long : length (take n (drop at s)) ≡ n

pub octets_found : (s : List ℕ) (at n next : ℕ) → as_passed (string_item (take n (drop at s)) (padded_at s at n)) ≡ Ok next → OctetsFound s at n next
octets_found s at n next e = go (padded_at s at n) refl e
  where
    go : (r : Result ℕ Unpadded) → padded_at s at n ≡ r → as_passed (string_item (take n (drop at s)) r) ≡ Ok next → OctetsFound s at n next
    go (Ok end) f g =
        let same : end ≡ next = cc in
        let r = padded_read s at n end f in
        let room : at + padded n ≤ length s = r.room in
        record { octets = rw (f, same); long = rw (length-take, length-drop) (omega arith) }
    go (Err (CutShort p)) f g = let z : ◌≡◌ {A = ℕ} 0 1 = cc in absurd (omega arith)
    go (Err (NonzeroPadding p)) f g = let z : ◌≡◌ {A = ℕ} 0 1 = cc in absurd (omega arith)

pub text_found : (s : List ℕ) (at n start next : ℕ) → word_at s at ≡ Ok (n, start)
    → as_passed (string_item (take n (drop start s)) (padded_at s start n)) ≡ Ok next
    → mapped (text_of at) (decode (opaque unlimited) s at) ≡ found (record { at = start; length = n }) next
text_found s at n start next e f =
    let r = octets_found s start n next f in
    let w = word_read s at n start e in
    string_word s at (text_of at) n start e ∙ rw (r.octets, r.long, w.next_is)

pub text_refused : (s : List ℕ) (at n start : ℕ) (why : Refusal) (p : ℕ) → word_at s at ≡ Ok (n, start)
    → as_passed (string_item (take n (drop start s)) (padded_at s start n)) ≡ Err (refused_at why p)
    → mapped (text_of at) (decode (opaque unlimited) s at) ≡ refused why p
text_refused s at n start why p e f = string_word s at (text_of at) n start e ∙ rw (passed_refused (string_item (take n (drop start s)) (padded_at s start n)) why p f)
