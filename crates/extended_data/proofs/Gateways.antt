-- What reading a gateway's data finds: the path behind its words, the communities behind the path. Assumes nothing.
use Prim.Native.Nat.{ℕ, ◌+◌}
use native.Mathlib.Omega.{arith}
use mathlib.Core.Path.{◌≡◌, ◌∙◌}
use mathlib.Core.List.{List, [], ◌∷◌}
use Rattle.std.specs.Prelude.{Ok, Err}
use Rattle.xdr.specs.Items.{word_at, cut}
use Rattle.sflow.specs.declared.Refusal.TheVariants.{CutItem}
use Rattle.sflow.specs.declared.Refused.{Refused}
use Rattle.sflow.specs.Grammar.{Form, list, ◌then◌, Value}
use Rattle.sflow.specs.Decode.{Decoded, refused, mapped, as_read, entries, decode}
use Rattle.sflow.specs.Datagram.{int, word, as_path_type, extended_gateway}
use Rattle.sflow.proofs.Steps.{list_cut, then_found, then_refused}
use Rattle.fields.specs.declared.words.Entries.{Entries}
use Rattle.fields.specs.Parts.{item, size, entries_at, as_passed}
use Rattle.fields.specs.Words.{words}
use Rattle.fields.proofs.Answers.{read_told, read_refused}
use Rattle.fields.proofs.FixedItems.{fixed_next}
use Rattle.fields.proofs.Compounds.{then_seen, then_unseen, list_seen, list_unseen}
use Rattle.extended_data.specs.declared.Extended.{Extended}
use Rattle.extended_data.specs.declared.Extended.TheVariants.{IsGateway}
use Rattle.extended_data.specs.ExtendedData.{gateway_with, gateway_of}

-- a gateway of its words and its path, and of what is behind them at an offset
abbrev gateway_path : List ℕ → Entries → ℕ → Value (list word then word) → Extended
gateway_path numbers path at v = gateway_with (item numbers 0) (item numbers 1) (item numbers 2) path at v

-- a gateway of all its parts
abbrev pub gateway_all : List ℕ → Entries → Entries → List ℕ → Extended
gateway_all numbers path communities preference =
    IsGateway (record {
      router_as = item numbers 0;
      src_as = item numbers 1;
      src_peer_as = item numbers 2;
      dst_as_path = path;
      communities = communities;
      localpref = item preference 0;
    })

-- what is behind the words
abbrev behind_words : Form
behind_words = list as_path_type then list word then word

-- a gateway of its words, and of what is behind them at an offset
abbrev gateway_behind : List ℕ → ℕ → Value behind_words → Extended
gateway_behind numbers at v = gateway_path numbers (entries_at (at + 4) v.0) (at + size (list as_path_type) v.0) v.1

-- the words are refused
pub words_refused : (s : List ℕ) (at : ℕ) (r : Refused) → as_read (decode (words 3) s at) ≡ Err r
    → mapped (gateway_of at) (decode extended_gateway s at) ≡ refused r.why r.at
words_refused s at r e = then_refused (words 3) behind_words s at (gateway_of at) r.why r.at (read_refused _ _ e)

module _ (numbers : List ℕ) (s : List ℕ) (at end : ℕ) (e : as_read (decode (words 3) s at) ≡ Ok (numbers, end)) where
  -- the words were read: the path is left
  gateway_words : mapped (gateway_of at) (decode extended_gateway s at) ≡ mapped (gateway_behind numbers end) (decode behind_words s end)
  gateway_words =
      let r = read_told (decode (words 3) s at) numbers end e in
      let m : end ≡ at + 12 = fixed_next s (int ∷ int ∷ int ∷ []) at numbers end r in
      let n : at + 16 ≡ end + 4 = omega arith in
      then_found (words 3) behind_words s at (gateway_of at) numbers end r
      ∙ rw (n, ← m)

  -- the count of the path's segments is cut short
  pub path_cut : (p : ℕ) → word_at s end ≡ cut p → mapped (gateway_of at) (decode extended_gateway s at) ≡ refused CutItem p
  path_cut p f =
      gateway_words
      ∙ then_unseen (list as_path_type) (list word then word) s end (entries_at (end + 4)) (gateway_behind numbers end) CutItem p
      (list_cut as_path_type s end (entries_at (end + 4)) p f)

  module _ (n first : ℕ) (f : word_at s end ≡ Ok (n, first)) where
    -- a segment is refused
    pub path_refused : (r : Refused) → as_passed (entries (decode as_path_type s) n first) ≡ Err r
        → mapped (gateway_of at) (decode extended_gateway s at) ≡ refused r.why r.at
    path_refused r h =
        gateway_words
        ∙ then_unseen (list as_path_type) (list word then word) s end (entries_at (end + 4)) (gateway_behind numbers end) r.why r.at
        (list_unseen as_path_type s end n first f (entries_at (end + 4)) r.why r.at h)

    module _ (next : ℕ) (h : as_passed (entries (decode as_path_type s) n first) ≡ Ok next) where
      -- the offset and the count of the segments
      abbrev path : Entries
      path = record { at = first; count = n }

      -- all segments are there: the communities are left
      path_found : mapped (gateway_of at) (decode extended_gateway s at) ≡ mapped (gateway_path numbers path next) (decode (list word then word) s next)
      path_found =
          gateway_words
          ∙ then_seen (list as_path_type) (list word then word) s end (entries_at (end + 4)) (gateway_path numbers) path next
          (list_seen as_path_type s end n first f next h)

      -- the communities are refused
      pub communities_refused : (r : Refused) → as_read (mapped (entries_at (next + 4)) (decode (list word) s next)) ≡ Err r
          → mapped (gateway_of at) (decode extended_gateway s at) ≡ refused r.why r.at
      communities_refused r g =
          path_found
          ∙ then_unseen (list word) word s next (entries_at (next + 4)) (gateway_path numbers path next) r.why r.at (read_refused _ _ g)

      -- the communities were read: what the local preference answers is the answer
      pub communities_found : (communities : Entries) (last : ℕ) (d : Decoded (List ℕ))
          → as_read (mapped (entries_at (next + 4)) (decode (list word) s next)) ≡ Ok (communities, last) → decode word s last ≡ d
          → mapped (gateway_of at) (decode extended_gateway s at) ≡ mapped (gateway_all numbers path communities) d
      communities_found communities last d g k =
          path_found
          ∙ then_seen (list word) word s next (entries_at (next + 4)) (λ es p. gateway_all numbers path es) communities last (read_told _ _ _ g)
          ∙ rw k
