use Rattle.std.proofs.Common.{rules, take_all, ap}
use Rattle.std.proofs.Output.{has_written_append, has_written_of_eq}
use Rattle.reports.specs.Table.{table_text}
use Rattle.reports.proofs.Rows.{rows_more}
use Rattle.reports.proofs.audit_table.AuditTableDisplay.fmt.Goals as goal

pub loop-index-preserved : goal.loop-index-preserved
loop-index-preserved g c = λ plain.
    let so_far = c.loop-index.invariant plain in
    has_written_of_eq _ _ _ _ _
    (rows_more c.args.self.now.book c.args.self.now.records.now c.loop-index.index _ c.loop-index-test.true)
    (has_written_append _ _ _ _ _ _ so_far (c.in_ok-write.ensures.writes so_far.plain (search rules)))

pub returns-clause-writes : goal.returns-clause-writes
returns-clause-writes g c = λ plain ok.
    let title = c.in_ok-write_str.ensures.writes plain (search rules) in
    let columns = c.in_ok-write_str-2.ensures.writes title.plain (search rules) in
    let rows = c.loop-index.invariant columns.plain in
    let whole = take_all c.loop-index.index c.args.self.now.records.now c.loop-index-test.false in
    has_written_of_eq _ _ _ _ _ (ap (table_text c.args.self.now.book) whole) (has_written_append _ _ _ _ _ _ title (has_written_append _ _ _ _ _ _ columns rows))
