-- What the journal's calls promise: what stands then. d is the journal before, e after.
use Rattle.std.specs.Prelude.{◌≡◌, ℕ, ◌<◌, ◌≤◌, ◌⊎◌, List, [], length, Ok, Err, Result, MatchResult, slice_index_or}
use Rattle.drives.specs.Calls.{Powered, CutPowering}
use Rattle.changes.specs.declared.home.Home.{Home}
use Rattle.changes.specs.CommitBlock.{count_of, LawfulCommit, zeros}
use Rattle.changes.specs.Homes.{contents, last}
use Rattle.journals.specs.Redo.{overlay, slot, named_homes, commit_block, finished, home_blocks}
use Rattle.journals.specs.JournalState.{JournalState, size, present, home_of, IsOn, IsOff, IsSettled, Stands, StandsAlone, Finishable, Ready, LeavesOnly, IsZero}
use Rattle.journals.specs.Steps.{StepsCut, Installed, CutInstalling}
use Rattle.journals.specs.declared.faults.JournalFault.{JournalFault}
use Rattle.journals.specs.declared.faults.JournalFault.TheVariants.{Off, Beyond, PowerLost}
use Rattle.journals.specs.declared.faults.ChangeFault.{ChangeFault}
use Rattle.journals.specs.declared.faults.ChangeFault.TheVariants as change-fault
use Rattle.journals.specs.declared.faults.FinishFault.{FinishFault}
use Rattle.journals.specs.declared.faults.FinishFault.TheVariants as finish-fault
use Rattle.journals.specs.declared.cut_place.CutPlace.{CutPlace}
use Rattle.journals.specs.declared.cut_place.CutPlace.TheVariants.{Staging, Committing, Installing}

-- what stands at home with a change
abbrev pub home_with : List Home → JournalState → List (List ℕ)
home_with homes d = home_blocks (overlay homes d.blocks)

-- a change that was done: the new home contents stand alone; the slots that it used hold it, the
-- others what they held, and the commit block is zero
pub record DoneChange (homes : List Home) (d e : JournalState) : Type 0 where
  pub ready : Ready e
  pub same_size : size e ≡ size d
  pub home_now : home_of e ≡ home_with homes d
  pub alone : StandsAlone e (home_with homes d)
  pub used_slots :
      (i : ℕ) → i < length homes → present e (slot i) ≡ slice_index_or (contents homes) i []
  pub other_slots :
      (i : ℕ) → length homes ≤ i → i < 6 → present e (slot i) ≡ present d (slot i)
  pub commit_zero : commit_block e.blocks ≡ zeros

-- which home contents may stand after a change was cut, by its place
abbrev pub MayStandAfter : CutPlace → List (List ℕ) → List (List ℕ) → List (List ℕ) → Type 0
MayStandAfter Staging old new h = h ≡ old
MayStandAfter Committing old new h = (h ≡ old) ⊎ (h ≡ new)
MayStandAfter Installing old new h = h ≡ new

-- a change that lost power at a place: power is off, how far the steps had come, and what may stand
-- where the journal was ready
pub record CutChange (at : CutPlace) (homes : List Home) (d e : JournalState) : Type 0 where
  pub off : IsOff e
  pub steps : StepsCut homes d e at
  pub cut : Ready d → LeavesOnly (MayStandAfter at (home_of d) (home_with homes d)) d e

-- the steps of finishing: none for a commit block that names nothing, else 5 to 8 from the slots
pub data FinishSteps (d e : JournalState) : Type 0 where
  nothing_named : count_of (commit_block d.blocks) ≡ 0 → e ≡ d → FinishSteps d e
  installed : Installed (named_homes d.blocks) d e → FinishSteps d e

-- finishing that was done: the blocks that the commit block names hold what the slots hold, and
-- that stands alone; the slots hold what they held
pub record Finished (d e : JournalState) : Type 0 where
  pub steps : FinishSteps d e
  pub ready : IsSettled d → Ready e
  pub same_size : size e ≡ size d
  pub home_now : home_of e ≡ home_blocks (finished d.blocks)
  pub alone : IsSettled d → StandsAlone e (home_blocks (finished d.blocks))
  pub same_slots : (i : ℕ) → i < 6 → present e (slot i) ≡ present d (slot i)
  pub commit_zero : IsZero (commit_block e.blocks)

-- finishing that lost power: power is off, and nothing may stand but what finishing would have
-- left
pub record CutFinishing (d e : JournalState) : Type 0 where
  pub off : IsOff e
  pub steps : CutInstalling (named_homes d.blocks) d e
  pub cut : IsSettled d → LeavesOnly (λ h. h ≡ home_blocks (finished d.blocks)) d e

-- a power call that was done: the drive did it, nothing is in flight now, and what finishing will
-- leave is among what could stand
pub record TurnedOn (d e : JournalState) : Type 0 where
  pub drive : Powered d e
  pub on : IsOn e
  pub same_size : size e ≡ size d
  pub settled : IsSettled e
  pub stood :
      LawfulCommit (size e) (commit_block e.blocks) → Stands d (home_blocks (finished e.blocks))
  pub refusable : (LawfulCommit (size e) (commit_block e.blocks) → ⊥) → Finishable d → ⊥

-- a power call that lost power once more adds nothing to what may stand
pub record StaysOff (d e : JournalState) : Type 0 where
  pub drive : CutPowering d e
  pub off : IsOff e
  pub same_size : size e ≡ size d
  pub finishable : Finishable d → Finishable e
  pub stands : (h : List (List ℕ)) → Stands e h → Stands d h

-- reading a block
pub record ReadsBlock
    (d : JournalState) (b : ℕ) (r : Result (List ℕ) JournalFault) : Type 0 where
  pub refused_off : IsOff d → r ≡ Err Off
  pub refused_beyond : IsOn d → size d ≤ b → r ≡ Err Beyond
  pub met : IsOn d → b < size d → r ≡ Ok (present d b)

-- a power call: done, or power lost once more
abbrev pub PowersOn : JournalState → Result (Unit {0}) JournalFault → JournalState → Type 0
PowersOn d r e = MatchResult r (λ _. TurnedOn d e) (λ f. (f ≡ PowerLost) × StaysOff d e)

-- a change: refused and nothing moved, made, or cut at a place
pub record Changes
    (d : JournalState) (homes : List Home) (r : Result (Unit {0}) ChangeFault)
    (e : JournalState) : Type 0 where
  pub refused_off : IsOff d → (r ≡ Err change-fault.Off) × (e ≡ d)
  pub refused_beyond : IsOn d → size d ≤ last homes → (r ≡ Err change-fault.Beyond) × (e ≡ d)
  pub met :
      IsOn d → last homes < size d →
      MatchResult r (λ _. DoneChange homes d e)
      (λ f. (at : CutPlace) × (f ≡ change-fault.Cut at) × CutChange at homes d e)

-- finishing: refused and nothing moved, nothing to do, done, or cut
pub record Finishes
    (d : JournalState) (r : Result (Unit {0}) FinishFault) (e : JournalState) : Type 0 where
  pub refused_off : IsOff d → (r ≡ Err finish-fault.Off) × (e ≡ d)
  pub refused_unlawful :
      IsOn d → (LawfulCommit (size d) (commit_block d.blocks) → ⊥) →
      (r ≡ Err finish-fault.Unlawful) × (e ≡ d)
  pub nothing :
      IsOn d → LawfulCommit (size d) (commit_block d.blocks) →
      count_of (commit_block d.blocks) ≡ 0 →
      MatchResult r (λ _. e ≡ d) (λ _. ⊥)
  pub met :
      IsOn d → 7 ≤ size d → LawfulCommit (size d) (commit_block d.blocks) →
      MatchResult r (λ _. Finished d e) (λ f. (f ≡ finish-fault.PowerLost) × CutFinishing d e)
