use Rattle.std.proofs.Common.{take}
use Rattle.journals.specs.Steps.{BlocksWritten}
use Rattle.journals.proofs.steps.write_homes.Given as goal

abbrev pub invariant-loop-home : goal.invariant-loop-home
invariant-loop-home g l =
    BlocksWritten (take l.home-index l.homes) (g.D.Drive.disk l.initial.drive) (g.D.Drive.disk l.drive)
