use Rattle.std.proofs.Common.{take}
use Rattle.std.specs.Fmt.{HasWritten, IsPlainFormatter}
use Rattle.reports.specs.Table.{rows_from}
use Rattle.reports.proofs.audit_table.AuditTableDisplay.fmt.Given as goal

-- the rows up to here are written
abbrev pub invariant-loop-index : goal.invariant-loop-index
invariant-loop-index g l =
    IsPlainFormatter l.initial.f
    → HasWritten g.W.Write.write_str_gives l.initial.f (rows_from l.fn.self.book 1 (take l.index l.fn.self.records.now)) l.f
