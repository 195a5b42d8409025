-- The three demands hold: each by a law that is cited. Assumes nothing.
use mathlib.Core.Path.{sym}
use Rattle.sflow.proofs.Theorems as Grammar
use Rattle.reader.proofs.Walks as Reading
use Rattle.sflow.proofs.Exact as Exact
use Rattle.writer.proofs.Theorems as Writing
use Rattle.rewriting.proofs.Theorems as Rewriting
use Rattle.rewriting.proofs.Calls as RewritingCalls
use Rattle.numbers.proofs.Exactly as NumberLaws
use Rattle.read_calls.proofs.Told as ReadingTold
use Rattle.sample_calls.proofs.Told as SampleTold
use Rattle.write_calls.proofs.Told as WritingTold
use Rattle.ledger_calls.proofs.EntryNumbers as LedgerTold
use Rattle.rule_calls.proofs.Told as RulesTold
use Rattle.line_calls.proofs.LineNumbers as LinesTold
use Rattle.ledger.proofs.Opening as LedgerOpenings
use Rattle.ledger.proofs.Theorems as LedgerRuns
use Rattle.ledger.proofs.Answers as LedgerAnswers
use Rattle.ledger.proofs.Updates as LedgerRows
use Rattle.packet.specs.Attributes.{attributes_of, attribute}
use Rattle.rules.specs.Records.{rule_count, rule_of}
use Rattle.rules.proofs.Demand.{demand_3 as machine-demand}
use Rattle.rules.proofs.WithoutGosub.{each_once}
use Rattle.rules.proofs.Answers.{ends_somewhere}
use Rattle.engine.proofs.Ends.{ends_alike}
use Rattle.engine.specs.Results.{engine_of}
use Rattle.reader.proofs.datagram.read_head.Met as ReadHead
use Rattle.reader.proofs.datagram.start.Met as Cursor
use Rattle.reader.proofs.datagram.next_sample.Met as NextSample
use Rattle.ledger.proofs.free_row.Met as FreeRow
use Rattle.ledger.proofs.enter.Met as Table
use Rattle.ledger.proofs.update_row.Met as LentRow
use Rattle.listing.proofs.end_text.Met as EndText
use Rattle.export.proofs.sflow4_read.Met as Read
use Rattle.export.proofs.sflow4_sample.Met as Sample
use Rattle.export.proofs.sflow4_extended.Met as Extended
use Rattle.export.proofs.sflow4_segment.Met as Segment
use Rattle.export.proofs.sflow4_start.Met as Start
use Rattle.export.proofs.sflow4_append.Met as Append
use Rattle.export.proofs.sflow4_append_header.Met as AppendHeader
use Rattle.export.proofs.sflow4_append_ipv4.Met as AppendIpv4
use Rattle.export.proofs.sflow4_append_ipv6.Met as AppendIpv6
use Rattle.export.proofs.sflow4_append_counters.Met as AppendCounters
use Rattle.export.proofs.sflow4_write.Met as Write
use Rattle.export.proofs.sflow4_write_counters.Met as WriteCounters
use Rattle.export.proofs.sflow4_ledger.Met as Ledger
use Rattle.export.proofs.rtfm_check.Met as RuleCheck
use Rattle.export.proofs.rtfm_run.Met as Run
use Rattle.export.proofs.sflow4_lines.Met as Lines
use Rattle.export.proofs.sflow4_end_lines.Met as EndLines
use Rattle.theorems.specs.Numbers.{InNumbers}
use Rattle.theorems.specs.Demands.{Demand1, Demand2, Demand3}

in_numbers : InNumbers
in_numbers =
    record {
      found_exactly = λ numbers d. NumberLaws.zero_exactly numbers d;
      refused_exactly = λ numbers n p low d. NumberLaws.refusal_exactly numbers n p low d;
      read = ReadingTold.read_told;
      read_head = ReadingTold.read_head_told;
      next_sample = SampleTold.next_sample_told;
      sample = SampleTold.sample_told;
      extended = ReadingTold.extended_told;
      segment = ReadingTold.segment_told;
      form = WritingTold.form_told;
      start = WritingTold.start_told;
      append = WritingTold.append_told;
      table = LedgerTold.entry_told;
      lent_row = LedgerTold.row_told;
      checked = RulesTold.check_told;
      run = RulesTold.run_told;
      records = LinesTold.records_told;
      end_lines_told = LinesTold.end_told;
      frame = LinesTold.frame_told;
    }

pub demand_1 : Demand1
demand_1 =
    record {
      read_meets = Read.met;
      read_head_meets = ReadHead.met;
      cursor_meets = Cursor.met;
      next_sample_meets = NextSample.met;
      sample_meets = Sample.met;
      extended_meets = Extended.met;
      segment_meets = Segment.met;
      start_meets = Start.met;
      append_meets = Append.met;
      append_header_meets = AppendHeader.met;
      append_ipv4_meets = AppendIpv4.met;
      append_ipv6_meets = AppendIpv6.met;
      append_counters_meets = AppendCounters.met;
      write_meets = Write.met;
      write_counters_meets = WriteCounters.met;
      ledger_meets = Ledger.met;
      table_meets = Table.met;
      free_row_meets = FreeRow.met;
      lent_row_meets = LentRow.met;
      check_meets = RuleCheck.met;
      run_meets = Run.met;
      lines_meets = Lines.met;
      end_lines_meets = EndLines.met;
      end_text_meets = EndText.met;
      in_numbers = in_numbers;
    }

pub demand_2 : Demand2
demand_2 =
    record {
      accepted_exactly = Grammar.accepted_exactly;
      to_end = Grammar.accepted_to_end;
      end_to_end = Grammar.samples_end_to_end;
      walk_samples = Reading.walk_samples;
      taken_exactly = Exact.given_exactly;
      value_given_exactly = Exact.value_in_exactly;
      entries_given_exactly = Exact.entries_in_exactly;
      start_accepted = Writing.start_accepted;
      append_accepted = Writing.append_accepted;
      same_octets = Rewriting.same_octets;
      never_more = Rewriting.never_more;
      same_octets_by_calls = RewritingCalls.same_octets_by_calls;
      never_more_by_calls = RewritingCalls.never_more_by_calls;
      opens = λ row x e. sym (LedgerRows.opens row x e);
      by_row = LedgerAnswers.by_row;
      full_exactly = LedgerAnswers.full_exactly;
      never_other = LedgerAnswers.never_other;
      refusal_keeps = LedgerAnswers.table_kept;
      others_stay = LedgerAnswers.others_stay;
      totals = LedgerRuns.totals_grow;
      first_sample = LedgerOpenings.first_sample;
    }

pub demand_3 : Demand3
unfolding engine_of
demand_3 s e =
    record {
      machine = machine-demand s e;
      without_gosub = each_once s e;
      answers = ends_somewhere (rule_count s) (rule_of s);
      engine = λ x f h k answer items rules ends. rw (e, h, ends_alike s e (attribute (attributes_of x f)) k answer rules items ends);
    }
