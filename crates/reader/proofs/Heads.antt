-- What reading a datagram's head finds, by what the reads of its parts answer. Assumes nothing.
use Prim.Native.Nat.{ℕ, ◌+◌, ◌≤◌, ◌<◌}
use native.Mathlib.Omega.{arith}
use mathlib.Core.Path.{◌≡◌, refl, ap, ◌∙◌}
use mathlib.Core.List.{List}
use lib.ListN.{length}
use borrow.Author.Tests.{lt-ltb, le-ltb, ne_eqb}
use Rattle.xdr.specs.Items.{word_at}
use Rattle.xdr.proofs.Reading.{word_read}
use Rattle.sflow.specs.declared.Refusal.{Refusal}
use Rattle.sflow.specs.declared.Refusal.TheVariants.{CutItem, Version, TooLong}
use Rattle.sflow.specs.Grammar.{fixed, ◌then◌}
use Rattle.sflow.specs.Decode.{found, refused, mapped, decode}
use Rattle.sflow.specs.Datagram.{address}
use Rattle.sflow.specs.Reading.{longest}
use Rattle.sflow.proofs.Steps.{union_cut, union_bad, union_arm, then_found, then_refused}
use Rattle.sflow.proofs.Ends.{end_is}
use Rattle.fields.specs.declared.address.Address.{Address}
use Rattle.fields.specs.Parts.{size}
use Rattle.fields.specs.Addresses.{address_of}
use Rattle.reader.specs.Datagrams.{head_words, datagram_head, head_with, head_of, head_at}
use Rattle.fields.proofs.Answers.{read_told, read_refused}
use Rattle.fields.specs.Words.{words}
use Rattle.fields.specs.Parts.{item}
use Rattle.fields.proofs.Compounds.{seen, seen_refused}
use Rattle.fields.proofs.FixedItems.{fixed_next}
use Rattle.std.specs.Prelude.{Ok, Err}
use Rattle.xdr.specs.Items.{cut}
use Rattle.std.specs.Prelude.{Ok, Err}
use Rattle.sflow.specs.Decode.{refused_at, as_read}

pub head_long : (s : List ℕ) → longest < length s → head_at s ≡ refused TooLong 0
unfolding head_at
head_long s h = rw (lt-ltb longest (length s) h)

module _ (s : List ℕ) (few : length s ≤ longest) where
  short : head_at s ≡ mapped head_of (decode datagram_head s 0)
  unfolding head_at
  short = rw (le-ltb longest (length s) few)

  pub head_cut : (p : ℕ) → word_at s 0 ≡ cut p → head_at s ≡ refused CutItem p
  head_cut p e = short ∙ union_cut _ _ _ s 0 head_of p e

  module _ (v place : ℕ) (e : word_at s 0 ≡ Ok (v, place)) where
    pub head_version : (v ≡ 4 → ⊥) → head_at s ≡ refused Version 0
    head_version f = short ∙ union_bad _ _ _ s 0 head_of v place e (ne_eqb v 4 f)

    module _ (is : v ≡ 4) where
      body : head_at s ≡ mapped (λ w. head_of (4, w)) (decode (address then fixed head_words) s place)
      body = short ∙ union_arm _ _ _ s 0 head_of 4 place (e ∙ ap (λ (n : ℕ). Ok (n, place)) is) refl

      pub head_agent_refused : (why : Refusal) (p : ℕ) → as_read (mapped address_of (decode address s place)) ≡ Err (refused_at why p) → head_at s ≡ refused why p
      head_agent_refused why p f =
          body ∙ then_refused address (fixed head_words) s place _ why p
          (seen_refused address_of (decode address s place) why p (read_refused _ _ f))

      pub head_agent_found : (agent : Address) (next : ℕ) → as_read (mapped address_of (decode address s place)) ≡ Ok (agent, next)
          → head_at s ≡ mapped (head_with agent next) (decode (fixed head_words) s next)
      head_agent_found agent next f =
          let b = seen address_of (decode address s place) agent next (read_told _ _ _ f) in
          let w = word_read s 0 v place e in
          let n : next ≡ place + size address b.value = end_is address s place b.value next b.found_is in
          let first : 16 + size address b.value ≡ next + 12 = let m = w.next_is in omega arith in
          body ∙ then_found address (fixed head_words) s place _ b.value next b.found_is ∙ rw (first, b.view_is)

-- the words behind the agent's address: cut short, or all there
module _ (s : List ℕ) (agent : Address) (at : ℕ) where
  pub words_cut : (why : Refusal) (p : ℕ) → as_read (decode (words 3) s at) ≡ Err (refused_at why p)
      → mapped (head_with agent at) (decode (fixed head_words) s at) ≡ refused why p
  words_cut why p e = ap (mapped (head_with agent at)) (read_refused (decode (words 3) s at) _ e)

  pub words_found : (ws : List ℕ) (first : ℕ) → as_read (decode (words 3) s at) ≡ Ok (ws, first)
      → mapped (head_with agent at) (decode (fixed head_words) s at)
      ≡ found (record { agent = agent; sequence_number = item ws 0; uptime = item ws 1; samples = record { at = first; count = item ws 2 } }) first
  words_found ws first e =
      let f = read_told (decode (words 3) s at) ws first e in
      let n : first ≡ at + 12 = fixed_next s head_words at ws first f in
      ap (mapped (head_with agent at)) f ∙ rw (← n)
