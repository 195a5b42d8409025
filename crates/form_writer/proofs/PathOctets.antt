-- The octets of path segments and of a gateway. Assumes nothing.
use Prim.Native.Nat.{ℕ, ◌^◌, ◌<◌}
use native.Mathlib.Omega.{arith}
use Prim.{tt}
use mathlib.Core.Path.{◌≡◌, refl, sym, ap}
use mathlib.Core.List.{List, [], ◌∷◌, ◌++◌, flat_map, append_assoc, append-nil}
use lib.ListN.{length}
use Rattle.xdr.specs.Numbers.{octets_of}
use Rattle.sflow.specs.Grammar.{list, Value, Each, Valid, octets_of_each, encode}
use Rattle.sflow.specs.Datagram.{word, as_path_type, extended_data_type}
use Rattle.form_writer.specs.Parts.{words_octets}
use Rattle.form_writer.specs.Values.{words_value, segment_value, gateway_value}
use Rattle.form_writer.proofs.FormValues.{Words, words_count, words_valid}

-- ---- words

-- the octets of words as those of entries
words_entries : (ws : List ℕ) → words_octets ws ≡ flat_map (encode word) (words_value ws)
unfolding words_octets flat_map encode octets_of_each
words_entries [] = refl
words_entries (w ∷ ws) = rw (words_entries ws) (ap (λ (xs : List ℕ). xs ++ flat_map (encode word) (words_value ws)) (sym (append-nil (octets_of 4 w))))

-- the octets of a list of words: its count, and the words
words_list : (ws : List ℕ) → octets_of 4 (length ws) ++ words_octets ws ≡ encode (list word) (words_value ws)
unfolding encode
words_list ws = rw (words_count ws, words_entries ws)

-- the octets of a path segment as words
pub segment_octets : (kind : ℕ) (ns : List ℕ) (n : ℕ) → n ≡ length ns
    → words_octets (kind ∷ n ∷ []) ++ (words_octets ns ++ []) ≡ encode as_path_type (segment_value kind ns)
unfolding words_octets flat_map encode
segment_octets kind ns n e = rw e (simp (append_assoc, append-nil) (ap (λ (xs : List ℕ). octets_of 4 kind ++ xs) (words_list ns)))

-- ---- a gateway

module _ (router src peer : ℕ) (communities : List ℕ) (preference : ℕ) (vs : List (Value as_path_type)) where
  -- the octets of a gateway as words and the path's octets
  pub gateway_octets : (count n : ℕ) (path : List ℕ) → length vs ≡ count → n ≡ length communities → path ≡ flat_map (encode as_path_type) vs
      → words_octets (3 ∷ router ∷ src ∷ peer ∷ count ∷ []) ++ (path ++ (words_octets (n ∷ []) ++ (words_octets communities ++ (words_octets (preference ∷ []) ++ []))))
      ≡ encode extended_data_type (gateway_value router src peer vs communities preference)
  unfolding words_octets flat_map encode octets_of_each
  gateway_octets count n path many few same =
      rw (same, ← many, few, words_count communities, ← words_entries communities) (simp (append_assoc, append-nil))

  -- and the grammar allows it
  pub gateway_valid : router < 2 ^ 32 → src < 2 ^ 32 → peer < 2 ^ 32 → length vs < 2 ^ 32 → Each (Valid as_path_type) vs
      → length communities < 2 ^ 32 → Words communities → preference < 2 ^ 32
      → Valid extended_data_type (gateway_value router src peer vs communities preference)
  gateway_valid i j k many each few all low =
      (omega arith, tt, ((i, (j, (k, tt))), ((many, each), (words_valid communities few all, (low, tt)))))

  -- a gateway with more communities than a word counts is none
  pub communities_many : (length communities < 2 ^ 32 → ⊥) → Valid extended_data_type (gateway_value router src peer vs communities preference) → ⊥
  communities_many l h = let few = h.2.1.1.0.0 in let same = words_count communities in l (omega arith)
