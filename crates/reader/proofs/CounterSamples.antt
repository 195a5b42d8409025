-- What reading a counter sample finds, by what the reads of its parts answer. Assumes nothing.
use Prim.Native.Nat.{ℕ, ◌+◌}
use mathlib.Core.Path.{◌≡◌, ◌∙◌}
use mathlib.Core.List.{List, [], ◌∷◌}
use Rattle.sflow.specs.declared.Refusal.{Refusal}
use Rattle.sflow.specs.Decode.{found, refused, mapped, decode}
use Rattle.sflow.specs.Datagram.{int, counters_type, counters_sample}
use Rattle.sflow.proofs.Steps.{then_found, then_refused}
use Rattle.counter_data.specs.declared.CounterBody.{CounterBody}
use Rattle.reader.specs.declared.sample.CountersSample.{CountersSample}
use Rattle.counter_data.specs.CounterBodies.{counter_body_of}
use Rattle.reader.specs.Samples.{counters_of}
use Rattle.fields.proofs.Answers.{read_told, read_refused}
use Rattle.fields.specs.Words.{words}
use Rattle.fields.specs.Parts.{item}
use Rattle.fields.proofs.Compounds.{wrapped}
use Rattle.fields.proofs.FixedItems.{fixed_next}
use Rattle.std.specs.Prelude.{Ok, Err}
use Rattle.std.specs.Prelude.{Ok, Err}
use Rattle.sflow.specs.Decode.{refused_at, as_read}

-- the words before the counters are cut short
pub counters_cut : (s : List ℕ) (at : ℕ) (why : Refusal) (p : ℕ) → as_read (decode (words 3) s at) ≡ Err (refused_at why p)
    → mapped (counters_of at) (decode counters_sample s at) ≡ refused why p
counters_cut s at why p e = then_refused (words 3) counters_type s at (counters_of at) why p (read_refused _ _ e)

module _ (s : List ℕ) (at : ℕ) (ws : List ℕ) (next : ℕ) (e : as_read (decode (words 3) s at) ≡ Ok (ws, next)) where
  abbrev pub with_words : CounterBody → CountersSample
  with_words body = record { sequence_number = item ws 0; source_id = item ws 1; sampling_interval = item ws 2; counters = body }

  -- the counters, behind the words
  arm : mapped (counters_of at) (decode counters_sample s at) ≡ mapped (λ v. with_words (counter_body_of next v)) (decode counters_type s next)
  arm =
      let f = read_told _ _ _ e in
      let n : next ≡ at + 12 = fixed_next s (int ∷ int ∷ int ∷ []) at ws next f in
      then_found (words 3) counters_type s at (counters_of at) ws next f ∙ rw n

  pub counters_found_is : (body : CounterBody) (end : ℕ) → as_read (mapped (counter_body_of next) (decode counters_type s next)) ≡ Ok (body, end)
      → mapped (counters_of at) (decode counters_sample s at) ≡ found (with_words body) end
  counters_found_is body end f =
      arm ∙ wrapped with_words (counter_body_of next) (decode counters_type s next) (found body end) (read_told _ _ _ f)

  pub counters_refused : (why : Refusal) (p : ℕ) → as_read (mapped (counter_body_of next) (decode counters_type s next)) ≡ Err (refused_at why p)
      → mapped (counters_of at) (decode counters_sample s at) ≡ refused why p
  counters_refused why p f =
      arm ∙ wrapped with_words (counter_body_of next) (decode counters_type s next) (refused why p) (read_refused _ _ f)
