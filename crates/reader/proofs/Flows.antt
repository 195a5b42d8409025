-- What reading a flow sample finds, by what the reads of its parts answer. Assumes nothing.
use Prim.Native.Nat.{ℕ, ◌+◌}
use mathlib.Core.Path.{◌≡◌, ◌∙◌}
use mathlib.Core.List.{List}
use Rattle.xdr.specs.Items.{word_at}
use Rattle.xdr.proofs.Reading.{word_read}
use Rattle.sflow.specs.declared.Refusal.{Refusal}
use Rattle.sflow.specs.Grammar.{fixed, list, ◌then◌}
use Rattle.sflow.specs.Decode.{found, refused, mapped, entries, decode}
use Rattle.sflow.specs.Datagram.{flow_words, packet_data_type, extended_data_type, flow_sample}
use Rattle.sflow.proofs.Steps.{list_word, then_found, then_refused, entries_count}
use Rattle.sflow.proofs.Ends.{end_is}
use Rattle.packet_data.specs.declared.PacketData.{PacketData}
use Rattle.reader.specs.declared.sample.FlowWords.{FlowWords}
use Rattle.fields.specs.Parts.{as_passed, size}
use Rattle.packet_data.specs.Packets.{packet_of}
use Rattle.reader.specs.Samples.{flow_words_of, flow_with, flow_of}
use Rattle.fields.proofs.Passing.{passed_next, passed_refused}
use Rattle.fields.proofs.Answers.{read_told, read_refused}
use Rattle.fields.proofs.Compounds.{Seen, seen, seen_refused}
use Rattle.fields.proofs.FixedItems.{fixed_next}
use Rattle.std.specs.Prelude.{Ok, Err}
use Rattle.std.specs.Prelude.{Ok, Err}
use Rattle.sflow.specs.Decode.{refused_at}
use Rattle.sflow.specs.Decode.{refused_at, as_read}

-- ---- the list of extended data

module _ (s : List ℕ) (at : ℕ) (words : FlowWords) (packet : PacketData) (n first : ℕ) where
  pub list_found : (next : ℕ) → word_at s at ≡ Ok (n, first) → as_passed (entries (decode extended_data_type s) n first) ≡ Ok next
      → mapped (flow_with words packet at) (decode (list extended_data_type) s at)
      ≡ found (record { words = words; packet_data = packet; extended_data = record { at = first; count = n } }) next
  list_found next e f =
      let p = passed_next (entries (decode extended_data_type s) n first) next f in
      let w = word_read s at n first e in
      list_word extended_data_type s at (flow_with words packet at) n first e
      ∙ rw (p.1, entries_count (decode extended_data_type s) n first p.0 next p.1, w.next_is)

  pub list_refused : (why : Refusal) (p : ℕ) → word_at s at ≡ Ok (n, first) → as_passed (entries (decode extended_data_type s) n first) ≡ Err (refused_at why p)
      → mapped (flow_with words packet at) (decode (list extended_data_type) s at) ≡ refused why p
  list_refused why p e f =
      list_word extended_data_type s at (flow_with words packet at) n first e
      ∙ rw (passed_refused (entries (decode extended_data_type s) n first) why p f)

-- ---- a flow sample

module _ (s : List ℕ) (at : ℕ) where
  pub flow_words_refused : (why : Refusal) (p : ℕ) → as_read (mapped flow_words_of (decode (fixed flow_words) s at)) ≡ Err (refused_at why p)
      → mapped (flow_of at) (decode flow_sample s at) ≡ refused why p
  flow_words_refused why p e =
      then_refused (fixed flow_words) (packet_data_type then list extended_data_type) s at (flow_of at) why p
      (seen_refused flow_words_of _ why p (read_refused _ _ e))

  -- behind the words
  behind_words : (words : FlowWords) (next : ℕ) → as_read (mapped flow_words_of (decode (fixed flow_words) s at)) ≡ Ok (words, next)
      → Seen flow_words_of (decode (fixed flow_words) s at) words next
  behind_words words next e = seen flow_words_of _ words next (read_told _ _ _ e)

  pub flow_packet_refused : (words : FlowWords) (next : ℕ) (why : Refusal) (p : ℕ)
      → as_read (mapped flow_words_of (decode (fixed flow_words) s at)) ≡ Ok (words, next)
      → as_read (mapped (packet_of next) (decode packet_data_type s next)) ≡ Err (refused_at why p)
      → mapped (flow_of at) (decode flow_sample s at) ≡ refused why p
  flow_packet_refused words next why p e f =
      let b = behind_words words next e in
      then_found (fixed flow_words) (packet_data_type then list extended_data_type) s at (flow_of at) b.value next b.found_is
      ∙ then_refused packet_data_type (list extended_data_type) s next _ why p (seen_refused (packet_of next) _ why p (read_refused _ _ f))

  pub flow_list : (words : FlowWords) (next : ℕ) (packet : PacketData) (end : ℕ)
      → as_read (mapped flow_words_of (decode (fixed flow_words) s at)) ≡ Ok (words, next)
      → as_read (mapped (packet_of next) (decode packet_data_type s next)) ≡ Ok (packet, end)
      → mapped (flow_of at) (decode flow_sample s at) ≡ mapped (flow_with words packet end) (decode (list extended_data_type) s end)
  flow_list words next packet end e f =
      let b = behind_words words next e in
      let q = seen (packet_of next) _ packet end (read_told _ _ _ f) in
      let n : next ≡ at + 28 = fixed_next s flow_words at b.value next b.found_is in
      let m : end ≡ next + size packet_data_type q.value = end_is packet_data_type s next q.value end q.found_is in
      then_found (fixed flow_words) (packet_data_type then list extended_data_type) s at (flow_of at) b.value next b.found_is
      ∙ then_found packet_data_type (list extended_data_type) s next _ q.value end q.found_is
      ∙ rw (← n, ← m, b.view_is, q.view_is)
