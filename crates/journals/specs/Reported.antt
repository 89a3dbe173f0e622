-- What people see of the journal's answers: the place where a change was cut, by its number, and
-- the reason that a fault is where it is handed on. A reason's number is `number` of refusals: 7
-- for lost power, 17 for the drive's size, 19 for a commit block that is not lawful.
use Rattle.std.specs.Prelude.{ℕ}
use Rattle.refusals.specs.declared.reason.Reason.{Reason}
use Rattle.refusals.specs.declared.reason.Reason.TheVariants as reason
use Rattle.journals.specs.declared.faults.JournalFault.{JournalFault}
use Rattle.journals.specs.declared.faults.JournalFault.TheVariants as fault
use Rattle.journals.specs.declared.faults.FinishFault.{FinishFault}
use Rattle.journals.specs.declared.faults.FinishFault.TheVariants as finish-fault
use Rattle.journals.specs.declared.cut_place.CutPlace.{CutPlace}
use Rattle.journals.specs.declared.cut_place.CutPlace.TheVariants.{Staging, Committing, Installing}

-- where a change was cut
abbrev pub place_number : CutPlace → ℕ
place_number Staging = 1
place_number Committing = 2
place_number Installing = 3

-- why no block was read, power not turned on or the drive not initialized
abbrev pub fault_reason : JournalFault → Reason
fault_reason fault.Off = reason.PowerLost
fault_reason fault.Beyond = reason.BadSize
fault_reason fault.PowerLost = reason.PowerLost

-- why finishing did not end
abbrev pub finish_fault_reason : FinishFault → Reason
finish_fault_reason finish-fault.Off = reason.PowerLost
finish_fault_reason finish-fault.Unlawful = reason.BadCommitBlock
finish_fault_reason finish-fault.PowerLost = reason.PowerLost
