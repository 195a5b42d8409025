use Rattle.xdr.specs.Writes.{afterwards}
use Rattle.write_reports.proofs.WriteReports.{refusal_told}
use mathlib.Core.Path.{ap}
use Rattle.write_reports.proofs.report.Goals as goal

pub returns-in-Ok : goal.returns-in-Ok
returns-in-Ok c = rw c.in-Ok.is (ap (afterwards 0) c.fill.ensures)

pub returns-in-Err : goal.returns-in-Err
returns-in-Err c = refusal_told c.args.answer _ c.args.out.now c.in-Err.is c.from.ensures
