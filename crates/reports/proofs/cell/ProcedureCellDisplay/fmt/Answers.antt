use Rattle.reports.proofs.Columns.{word_left}
use Rattle.reports.proofs.cell.ProcedureCellDisplay.fmt.Goals as goal

pub returns-clause-writes : goal.returns-clause-writes
returns-clause-writes g c =
    let shown = c.args.self.now in
    rw (c.laid_out.ensures, c.procedure_in.ensures.value, c.word_or_nothing-word.ensures.value, word_left shown.book shown.entry) at c.write.ensures.writes
