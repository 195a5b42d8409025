use Rattle.std.proofs.Common.{rules, arith, refl, []}
use Rattle.listing.proofs.Inside.{written_inside}
use Rattle.lister.proofs.Parts.{listed_part, more_lines, listed_there, stops_bad, stops_else, some_listed, end_listed}
use Rattle.lister.proofs.Stream.{so_begins, so_lists, so_more, lists_failed, records_from}
use Rattle.lister.specs.declared.Rest.TheVariants.{Unfinished, Bad, OutputFailed}
use Rattle.lister.proofs.list_held.Goals as goal

pub loop-listed-init : goal.loop-listed-init
loop-listed-init g c = (search rules, ([], refl), so_begins _ _ _)

pub overflow_add-listed : goal.overflow_add-listed
overflow_add-listed g c =
    let h = listed_part _ _ c.args.s.now c.loop-listed.listed _ _ c.loop-listed.invariant.0 c.list_records-p.ensures in
    omega arith

pub flush-requires : goal.flush-requires
flush-requires g c =
    let same = c.list_records-p.auto.d in
    let h = written_inside _ _ _ _ _ c.list_records-p.ensures (search rules) in
    omega arith

pub returns-in-None : goal.returns-in-None
returns-in-None g c =
    let i = c.loop-listed.invariant in
    let m = records_from _ _ c.args.s.now c.loop-listed.listed _ _ i.0 (λ i. (c.type_inv.s i).fits) c.list_records-p.ensures in
    record {
      listed = listed_there _ _ c.args.s.now c.loop-listed.listed _ _ i.0 c.list_records-p.ensures _ i.1 OutputFailed tt;
      records = lists_failed _ _ _ _ _ _ i.2 _ _ m _;
    }

pub returns-in-BadRecord : goal.returns-in-BadRecord
returns-in-BadRecord g c =
    let i = c.loop-listed.invariant in
    let m = records_from _ _ c.args.s.now c.loop-listed.listed _ _ i.0 (λ i. (c.type_inv.s i).fits) c.list_records-p.ensures in
    record {
      listed =
          listed_there _ _ c.args.s.now c.loop-listed.listed _ _ i.0 c.list_records-p.ensures _ i.1 Bad
          (stops_bad _ _ c.args.s.now c.loop-listed.listed _ _ i.0 c.list_records-p.ensures c.in-BadRecord.is);
      records = so_lists _ _ _ _ _ _ _ (so_more _ _ _ _ _ _ i.2 _ _ m _ c.in-Some.ensures);
    }

pub returns-in_default : goal.returns-in_default
returns-in_default g c =
    let i = c.loop-listed.invariant in
    let m = records_from _ _ c.args.s.now c.loop-listed.listed _ _ i.0 (λ i. (c.type_inv.s i).fits) c.list_records-p.ensures in
    record {
      listed =
          listed_there _ _ c.args.s.now c.loop-listed.listed _ _ i.0 c.list_records-p.ensures _ i.1 Unfinished
          (stops_else _ _ c.args.s.now c.loop-listed.listed _ _ i.0 c.list_records-p.ensures c.in_default.not-Output c.in_default.not-BadRecord);
      records = so_lists _ _ _ _ _ _ _ (so_more _ _ _ _ _ _ i.2 _ _ m _ c.in-Some.ensures);
    }

pub loop-listed-smaller : goal.loop-listed-smaller
loop-listed-smaller g c =
    let inside = listed_part _ _ c.args.s.now c.loop-listed.listed _ _ c.loop-listed.invariant.0 c.list_records-p.ensures in
    let some = some_listed _ _ c.args.s.now c.loop-listed.listed _ _ c.loop-listed.invariant.0 c.list_records-p.ensures c.in-Output.is (search rules) (λ i. (c.type_inv.s i).fits) in
    omega (arith, inside, some)

pub loop-listed-preserved : goal.loop-listed-preserved
loop-listed-preserved g c =
    let h = listed_part _ _ c.args.s.now c.loop-listed.listed _ _ c.loop-listed.invariant.0 c.list_records-p.ensures in
    let m = records_from _ _ c.args.s.now c.loop-listed.listed _ _ c.loop-listed.invariant.0 (λ i. (c.type_inv.s i).fits) c.list_records-p.ensures in (
      h,
      more_lines _ _ c.args.s.now c.loop-listed.listed _ _ c.loop-listed.invariant.0 c.list_records-p.ensures _ c.loop-listed.invariant.1,
      so_more _ _ _ _ _ _ c.loop-listed.invariant.2 _ _ m _ c.in-Some.ensures,
    )

pub returns : goal.returns
returns g c =
    let i = c.loop-listed.invariant in
    record {
      listed = end_listed _ c.args.s.now c.loop-listed.listed _ i.0 (search rules) i.1;
      records = so_lists _ _ _ _ _ _ _ i.2;
    }
