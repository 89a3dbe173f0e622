-- The eight steps of a change, as what they make of a drive: done, or cut in the middle.
use Rattle.std.specs.Prelude.{◌≡◌, ℕ, ◌<◌, true, false, ◌⊎◌, List, Result, MatchResult, Contains, length, slice_index}
use Rattle.drives.specs.Disk.{Disk, May, size}
use Rattle.drives.specs.Calls.{Written, CutWriting, Flushed, CutFlushing}
use Rattle.changes.specs.declared.home.Home.{Home}
use Rattle.changes.specs.CommitBlock.{commit_block_of, zeros}
use Rattle.changes.specs.Homes.{home_at, numbers}
use Rattle.journals.specs.Redo.{overlay, slot_blocks}
use Rattle.journals.specs.declared.cut_place.CutPlace.{CutPlace}
use Rattle.journals.specs.declared.cut_place.CutPlace.TheVariants.{Staging, Committing, Installing}

-- each home is a block of the drive
abbrev pub AreWithin : List Home → Disk → Type 0
AreWithin homes d = (i : ℕ) → i < length homes → slice_index (numbers homes) i < size d

-- from d to e the blocks' lists gain at most these homes' contents, each in its block
abbrev pub GainsAtMost : List Home → Disk → Disk → Type 0
GainsAtMost homes d e =
    (k : ℕ) (x : List ℕ) → k < size d → May e k x → May d k x ⊎ Contains homes (home_at k x)

-- blocks written one after another: done
pub record BlocksWritten (homes : List Home) (d e : Disk) : Type 0 where
  pub on : e.on ≡ true
  pub blocks : e.blocks ≡ overlay homes d.blocks
  pub gains : GainsAtMost homes d e

-- and with power lost in a write
pub record CutWritingBlocks (homes : List Home) (d e : Disk) : Type 0 where
  pub off : e.on ≡ false
  pub same_size : size e ≡ size d
  pub gains : GainsAtMost homes d e

-- blocks stored, which is to write them and to flush
pub record BlocksStored (homes : List Home) (d e : Disk) : Type 0 where
  pub written : Disk
  pub writes : BlocksWritten homes d written
  pub flushes : Flushed written e

-- the same, with power lost
pub data CutStoringBlocks (homes : List Home) (d e : Disk) : Type 0 where
  in_write : CutWritingBlocks homes d e → CutStoringBlocks homes d e
  in_flush : {m : Disk} → BlocksWritten homes d m → CutFlushing m e → CutStoringBlocks homes d e

-- the commit block stored
pub record CommitBlockStored (c : List ℕ) (d e : Disk) : Type 0 where
  pub written : Disk
  pub writes : Written d 0 c written
  pub flushes : Flushed written e

pub data CutStoringCommitBlock (c : List ℕ) (d e : Disk) : Type 0 where
  in_commit_write : CutWriting d 0 c e → CutStoringCommitBlock c d e
  in_commit_flush : {m : Disk} → Written d 0 c m → CutFlushing m e → CutStoringCommitBlock c d e

-- steps 5 to 8: home blocks, flush, a commit block of zeros, flush
pub record Installed (homes : List Home) (d e : Disk) : Type 0 where
  pub home : Disk
  pub stores : BlocksStored homes d home
  pub zeroes : CommitBlockStored zeros home e

pub data CutInstalling (homes : List Home) (d e : Disk) : Type 0 where
  in_homes : CutStoringBlocks homes d e → CutInstalling homes d e
  in_zeroing :
      {m : Disk} → BlocksStored homes d m → CutStoringCommitBlock zeros m e
      → CutInstalling homes d e

-- steps 1 and 2 of a change, and 3 and 4
abbrev pub Staged : List Home → Disk → Disk → Type 0
Staged homes d e = BlocksStored (slot_blocks homes) d e

abbrev pub Committed : List Home → Disk → Disk → Type 0
Committed homes d e = CommitBlockStored (commit_block_of (numbers homes)) d e

-- all eight
pub record StepsDone (homes : List Home) (d e : Disk) : Type 0 where
  pub filled : Disk
  pub committed : Disk
  pub stages : Staged homes d filled
  pub commits : Committed homes filled committed
  pub installs : Installed homes committed e

-- how far the steps had come when power was lost, by the place
pub data StepsCut (homes : List Home) (d e : Disk) : CutPlace → Type 0 where
  in_staging : CutStoringBlocks (slot_blocks homes) d e → StepsCut homes d e Staging
  in_committing :
      {s : Disk} → Staged homes d s → CutStoringCommitBlock (commit_block_of (numbers homes)) s e
      → StepsCut homes d e Committing
  in_installing :
      {s t : Disk} → Staged homes d s → Committed homes s t → CutInstalling homes t e
      → StepsCut homes d e Installing

-- what comes of each: done, or cut
abbrev pub WritesBlocks : {E : Type 0} → List Home → Disk → Result (Unit {0}) E → Disk → Type 0
WritesBlocks homes d r e =
    MatchResult r (λ _. BlocksWritten homes d e) (λ _. CutWritingBlocks homes d e)

abbrev pub StoresBlocks : {E : Type 0} → List Home → Disk → Result (Unit {0}) E → Disk → Type 0
StoresBlocks homes d r e =
    MatchResult r (λ _. BlocksStored homes d e) (λ _. CutStoringBlocks homes d e)

abbrev pub StoresCommitBlock : {E : Type 0} → List ℕ → Disk → Result (Unit {0}) E → Disk → Type 0
StoresCommitBlock c d r e =
    MatchResult r (λ _. CommitBlockStored c d e) (λ _. CutStoringCommitBlock c d e)

abbrev pub Installs : {E : Type 0} → List Home → Disk → Result (Unit {0}) E → Disk → Type 0
Installs homes d r e = MatchResult r (λ _. Installed homes d e) (λ _. CutInstalling homes d e)

abbrev pub MakesSteps : List Home → Disk → Result (Unit {0}) CutPlace → Disk → Type 0
MakesSteps homes d r e = MatchResult r (λ _. StepsDone homes d e) (λ p. StepsCut homes d e p)
