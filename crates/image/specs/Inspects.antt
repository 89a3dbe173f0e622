-- What an inspection makes of a drive: d is the drive before, e after, and p what the power call
-- left between them.
use Rattle.std.specs.Prelude.{◌≡◌, ℕ, true, false, Err, Result}
use Rattle.refusals.specs.declared.places.PowerPlace.TheVariants.{Starting}
use Rattle.refusals.specs.declared.reason.Reason.TheVariants.{BadSize}
use Rattle.refusals.specs.declared.refusal.Refusal.{Refusal}
use Rattle.refusals.specs.Places.{power_place_number}
use Rattle.refusals.specs.Refused.{refused, lost_at}
use Rattle.books.specs.Meaning.{Meaning}
use Rattle.changes.specs.CommitBlock.{LawfulCommit}
use Rattle.journals.specs.declared.faults.JournalFault.{JournalFault}
use Rattle.journals.specs.declared.faults.FinishFault.{FinishFault}
use Rattle.journals.specs.declared.faults.FinishFault.TheVariants as fault
use Rattle.journals.specs.Reported.{fault_reason, finish_fault_reason}
use Rattle.journals.specs.Redo.{commit_block}
use Rattle.journals.specs.JournalState.{JournalState, blocks, size}
use Rattle.journals.specs.Outcomes.{TurnedOn, StaysOff, Finished, CutFinishing}
use Rattle.image.specs.Layout.{lawful_size}
use Rattle.image.specs.Verdict.{verdict}

-- the refusal where power was not turned on
abbrev pub unpowered_for : JournalFault → Refusal
unpowered_for f = record { reason = fault_reason f; place = power_place_number Starting }

-- the place of the refusal where finishing did not end: a commit block has none
abbrev pub unfinished_place : FinishFault → ℕ
unfinished_place fault.Off = power_place_number Starting
unfinished_place fault.Unlawful = 0
unfinished_place fault.PowerLost = power_place_number Starting

-- the refusal where finishing did not end
abbrev pub unfinished_for : FinishFault → Refusal
unfinished_for f = record { reason = finish_fault_reason f; place = unfinished_place f }

-- how an inspection went on, once power was on
pub data WentOn (m : Meaning) (p : JournalState) (r : Result ℕ Refusal) (e : JournalState) : Type 0 where
  -- power was lost in finishing
  finishing_cut :
      r ≡ Err (lost_at Starting) → LawfulCommit (size p) (commit_block (blocks p)) → CutFinishing p e → WentOn m p r e
  -- the commit block is not lawful: nothing was finished
  commit_unlawful :
      r ≡ verdict m (blocks p) → (LawfulCommit (size p) (commit_block (blocks p)) → ⊥) → e ≡ p → WentOn m p r e
  -- power was kept: the answer is the verdict on what the power call left, which is finished now
  judged :
      r ≡ verdict m (blocks p) → LawfulCommit (size p) (commit_block (blocks p)) → Finished p e → WentOn m p r e

-- after a power call that was done
pub record PoweredOn (m : Meaning) (d : JournalState) (r : Result ℕ Refusal) (e : JournalState) : Type 0 where
  pub left : JournalState
  pub turned_on : TurnedOn d left
  pub went_on : WentOn m left r e

-- an inspection of a drive of lawful size
pub data Inspected (m : Meaning) (d : JournalState) (r : Result ℕ Refusal) (e : JournalState) : Type 0 where
  -- power was lost in the power call: nothing was added to what may stand
  stays_off : r ≡ Err (lost_at Starting) → StaysOff d e → Inspected m d r e
  powered_on : PoweredOn m d r e → Inspected m d r e

pub record Inspects (m : Meaning) (d : JournalState) (r : Result ℕ Refusal) (e : JournalState) : Type 0 where
  pub refused_size : lawful_size (size d) ≡ false → (r ≡ refused BadSize (size d)) × (e ≡ d)
  pub met : lawful_size (size d) ≡ true → Inspected m d r e
