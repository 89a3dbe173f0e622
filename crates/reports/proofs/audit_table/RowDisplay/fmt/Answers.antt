use Rattle.std.proofs.Common.{rules}
use Rattle.reports.proofs.RowText.{row_written}
use Rattle.reports.proofs.audit_table.RowDisplay.fmt.Goals as goal

pub returns-clause-writes : goal.returns-clause-writes
returns-clause-writes g c = λ plain ok.
    let shown = c.args.self.now in
    let first = c.in_ok-write.ensures.writes plain (search rules) in
    row_written shown.book shown.number shown.entry _ _ c.from-cells.ensures c.kind_of-kind.ensures.value
    _ c.args.f.now c.write.new.self c.write-2.new.self _ _ _ _ _ _ _ _ _
    c.laid_out.ensures c.laid_out-2.ensures c.laid_out-3.ensures c.laid_out-4.ensures c.laid_out-5.ensures c.laid_out-6.ensures
    c.laid_out-7.ensures c.laid_out-8.ensures c.laid_out-9.ensures
    first (c.write-2.ensures.writes first.plain ok)
