use Rattle.std.proofs.Common.{take}
use Rattle.journals.specs.Redo.{slot_blocks}
use Rattle.journals.specs.Steps.{BlocksWritten}
use Rattle.journals.proofs.steps.fill_slots.Given as goal

abbrev pub invariant-loop-place : goal.invariant-loop-place
invariant-loop-place g l =
    BlocksWritten (take l.place (slot_blocks l.homes)) (g.D.Drive.disk l.initial.drive) (g.D.Drive.disk l.drive)
