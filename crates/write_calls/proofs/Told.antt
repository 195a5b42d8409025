-- The writers answer document 01's numbers in the order of its tests; a refusal changes nothing. Assumes nothing.
use Prim.Native.Nat.{ℕ, ◌+◌}
use mathlib.Core.Path.{◌≡◌, refl, ◌∙◌}
use mathlib.Core.Bool.{Bool, true, false, cond, ◌&&◌}
use mathlib.Core.List.{List, [], ◌∷◌}
use mathlib.Core.Option.{Option}
use lib.ListN.{length, take}
use lib.Dec.{leb}
use Rattle.std.specs.Prelude.{Result, Ok, Err}
use Rattle.xdr.specs.Numbers.{octets_of}
use Rattle.xdr.specs.Writes.{stored, afterwards}
use Rattle.sflow.specs.Grammar.{Form, Value, encode, allows, allows_given, encode_given}
use Rattle.sflow.specs.Decode.{Decoded, found, refused}
use Rattle.sflow.specs.Datagram.{sample_type, sample_datagram, samples}
use Rattle.sflow.specs.Reading.{read_datagram}
use Rattle.sflow.proofs.Allows.{allows_exactly}
use Rattle.fields.specs.declared.address.Address.{Address}
use Rattle.form_writer.specs.declared.parts.WriteRefusal.{WriteRefusal}
use Rattle.form_writer.specs.declared.parts.WriteRefusal.TheVariants.{BadLimit, BadDatagram, BadValue, NoRoom}
use Rattle.form_writer.specs.Parts.{write_alone, write_given}
use Rattle.writer.specs.Datagrams.{limit_allowed, start_value, started, count_at, ready_so_far, checked_at, appended_when, appended_octets, appended}
use Rattle.writer.proofs.Theorems.{start_holds}
use Rattle.numbers.specs.Reports.{report}
use Rattle.write_reports.specs.WriteReports.{write_report}
use Rattle.write_calls.specs.WriterAnswers.{refused_unless, form_report, start_report, is_accepted, append_report, WriteTold}

-- a length told; a refusal told
module _ (answer : Result ℕ WriteRefusal) (d e : List ℕ) where
  done_told : (n : ℕ) (f : List ℕ) → afterwards answer e ≡ afterwards (Ok n) f → WriteTold answer d e (report 0 (n ∷ []))
  done_told n f h =
      let a : answer ≡ Ok n = cc in
      record { tells = rw a; stays = λ g. absurd (g (rw a)) }

  refused_told : (why : Result ℕ WriteRefusal) → afterwards answer e ≡ afterwards why d → WriteTold answer d e (write_report why)
  refused_told why h =
      let a : answer ≡ why = cc in
      let b : e ≡ d = cc in
      record { tells = rw a; stays = λ g. b }

-- a value written alone
pub form_told : (g : Form) (x : Option (Value g)) (d e : List ℕ) (answer : Result ℕ WriteRefusal) → afterwards answer e ≡ write_given g x d
    → WriteTold answer d e (form_report g x (length d))
unfolding write_alone
form_told g x d e answer h = go (allows_given g x) (leb (length (encode_given g x)) (length d)) h
  where
    go : (a b : Bool)
        → afterwards answer e ≡ cond a (cond b (afterwards (Ok (length (encode_given g x))) (stored d 0 (encode_given g x))) (afterwards (Err NoRoom) d)) (afterwards (Err BadValue) d)
        → WriteTold answer d e (refused_unless a 22 (refused_unless b 20 (report 0 (length (encode_given g x) ∷ []))))
    go true true f = done_told answer d e _ _ f
    go true false f = refused_told answer d e (Err NoRoom) f
    go false b f = refused_told answer d e (Err BadValue) f

-- a datagram started
pub start_told : (limit : ℕ) (agent : Address) (sequence uptime : ℕ) (d e : List ℕ) (answer : Result ℕ WriteRefusal) → afterwards answer e ≡ started limit agent sequence uptime d
    → WriteTold answer d e (start_report limit agent sequence uptime (length d))
unfolding started
start_told limit agent sequence uptime d e answer h = go (limit_allowed limit (length d)) refl (allows sample_datagram (start_value agent sequence uptime)) refl
  where
    go : (a : Bool) → limit_allowed limit (length d) ≡ a → (b : Bool) → allows sample_datagram (start_value agent sequence uptime) ≡ b
        → WriteTold answer d e
        (refused_unless a 21 (refused_unless b 22 (report 0 (length (encode sample_datagram (start_value agent sequence uptime)) ∷ []))))
    go true a true b =
        done_told answer d e _ _ (h ∙ start_holds limit d a agent sequence uptime ((allows_exactly sample_datagram (start_value agent sequence uptime)).0 b))
    go true a false b = refused_told answer d e (Err BadValue) (h ∙ rw (a, b))
    go false a b c = refused_told answer d e (Err BadLimit) (h ∙ rw a)

-- a sample appended
pub append_told : (x : Option (Value sample_type)) (limit size : ℕ) (d e : List ℕ) (answer : Result ℕ WriteRefusal) → afterwards answer e ≡ appended x limit size d
    → WriteTold answer d e (append_report x limit size d)
unfolding appended_octets checked_at
append_told x limit size d e answer h = go (limit_allowed limit (length d)) (leb size limit) (read_datagram (take size d)) h
  where
    last : (at count : ℕ) (a b : Bool)
        → afterwards answer e
        ≡ cond a
        (cond b (afterwards (Ok (size + length (encode_given sample_type x))) (stored (stored d size (encode_given sample_type x)) at (octets_of 4 count))) (afterwards (Err NoRoom) d))
        (afterwards (Err BadValue) d)
        → WriteTold answer d e (refused_unless a 22 (refused_unless b 20 (report 0 ((size + length (encode_given sample_type x)) ∷ []))))
    last at count true true f = done_told answer d e _ _ f
    last at count true false f = refused_told answer d e (Err NoRoom) f
    last at count false b f = refused_told answer d e (Err BadValue) f

    go : (a b : Bool) (r : Decoded (Value sample_datagram))
        → afterwards answer e
        ≡ appended_when (allows_given sample_type x) (encode_given sample_type x) limit size d (cond a (cond b (ready_so_far r) (Err BadDatagram)) (Err BadLimit))
        → WriteTold answer d e
        (refused_unless a 21
        (refused_unless (b && is_accepted r) 23
        (refused_unless (allows_given sample_type x) 22
        (refused_unless (leb (size + length (encode_given sample_type x)) limit) 20 (report 0 ((size + length (encode_given sample_type x)) ∷ []))))))
    go true true (found v end) g = last (count_at v) (length (samples v) + 1) (allows_given sample_type x) (leb (size + length (encode_given sample_type x)) limit) g
    go true true (refused why p) g = refused_told answer d e (Err BadDatagram) g
    go true false r g = refused_told answer d e (Err BadDatagram) g
    go false b r g = refused_told answer d e (Err BadLimit) g
