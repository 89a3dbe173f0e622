use Rattle.std.proofs.Common.{take}
use Rattle.journals.specs.Redo.{blocks_from}
use Rattle.journals.specs.Steps.{BlocksWritten}
use Rattle.journals.proofs.initializing.write_run.Given as goal

abbrev pub invariant-loop-i : goal.invariant-loop-i
invariant-loop-i g l =
    BlocksWritten (take l.i (blocks_from l.first l.contents)) (g.D.Drive.disk l.initial.drive) (g.D.Drive.disk l.drive)
