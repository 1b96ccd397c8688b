use Rattle.std.proofs.Common.{rules}
use Rattle.record_report.proofs.FoundLaws.{next_from_lowest}
use Rattle.record_report.proofs.reports.report_found.Goals as goal

pub returns : goal.returns
returns g c =
    let t = c.args.table.now in
    c.report.ensures _ (λ k r p. next_from_lowest (g.T.BoxedTable.boxes t) c.args.window.now (g.T.RecordTable.count t) k r (search rules))
