use Rattle.write_reports.proofs.WriteReports.{handing}
use Rattle.form_calls.proofs.FormLaws.{nothing_appended}
use Rattle.form_calls.proofs.append_nothing.Goals as goal

pub returns : goal.returns
returns c =
    handing c.args.out.now (nothing_appended _ _ _ _ c.append_octets-answer.ensures) c.report.ensures
