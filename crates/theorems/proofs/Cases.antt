-- Document 01's starred cases hold of the definitions, by computation. Assumes nothing.
use mathlib.Core.Path.{refl}
use mathlib.Core.List.{flat_map}
use Rattle.xdr.specs.Numbers.{number_at, octets_of}
use Rattle.xdr.specs.Items.{word_at, items_at, numbers_at}
use Rattle.xdr.specs.Writes.{stored}
use Rattle.sflow.specs.Grammar.{octets_of_each, encode, allows}
use Rattle.sflow.specs.Decode.{entries, decode}
use Rattle.sflow.specs.Reading.{read_datagram}
use Rattle.form_writer.specs.Parts.{write_alone}
use Rattle.writer.specs.Datagrams.{started, checked_at, appended_octets}
use Rattle.packet.specs.Attributes.{packet_view, attribute}
use Rattle.rules.specs.Opcodes.{action_of}
use Rattle.rules.specs.Records.{record_of}
use Rattle.rules.specs.Bits.{masked}
use Rattle.rules.specs.Machine.{passes, act, fails, step, advance, after}
use Rattle.rules.specs.Checks.{known, form_of, alone_of, returns_nowhere, rest_of, rule_check, first_broken, check}
use Rattle.engine.specs.Results.{put, key_of, flow_in, engine_of}
use Rattle.ledger.specs.Ledger.{same_source, updated, entered}
use Rattle.theorems.specs.Cases.{AllHold, cases}

pub cases_hold : AllHold cases
unfolding read_datagram decode entries encode allows octets_of_each octets_of word_at items_at numbers_at number_at flat_map started checked_at appended_octets write_alone stored engine_of flow_in key_of put check first_broken rule_check form_of known alone_of returns_nowhere rest_of record_of action_of after advance step fails act passes masked packet_view attribute entered updated same_source
cases_hold =
    ((refl, refl), ((refl, refl), (refl, ((refl, refl), ((refl, refl), ((refl, refl), ((refl, refl), ((refl, refl), ((refl, refl), ((refl, (refl, refl, refl, refl)), (((refl, refl), (refl, refl, refl, refl)), ((refl, (refl, refl, refl, refl)), ((refl, (refl, refl, refl, refl)), ((refl, (refl, refl, refl, refl)), (((refl, refl), (refl, refl, refl, refl)), ((refl, refl, refl, refl), tt))))))))))))))))
