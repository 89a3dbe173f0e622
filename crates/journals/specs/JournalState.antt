-- What a journal is to the layers above, which know nothing of the drive below it: whether there is
-- power, how many blocks there are, what stands at home now, what may stand there once power has
-- failed, and when another journal may take the drive over.
use Rattle.std.specs.Prelude.{◌≡◌, ℕ, ◌<◌, ◌≤◌, true, false, List, [], length, slice_index, slice_index_or}
use Rattle.drives.specs.Disk as disk
use Rattle.changes.specs.CommitBlock.{LawfulCommit}
use Rattle.journals.specs.Redo.{commit_block, home_blocks, finished}

-- a journal's state is its drive's
abbrev pub JournalState : Type 0
JournalState = disk.Disk

-- how many blocks there are
abbrev pub size : JournalState → ℕ
size d = disk.size d

-- what every block holds now, and what stands at home
abbrev pub blocks : JournalState → List (List ℕ)
blocks d = d.blocks

-- what block i holds now; nothing beyond the drive
abbrev pub present : JournalState → ℕ → List ℕ
present d i = disk.present d i

abbrev pub home_of : JournalState → List (List ℕ)
home_of d = home_blocks d.blocks

abbrev pub IsOn : JournalState → Type 0
IsOn d = d.on ≡ true

abbrev pub IsOff : JournalState → Type 0
IsOff d = d.on ≡ false

-- a power call, if it is made now, is certain to be done
abbrev pub IsCertain : JournalState → Type 0
IsCertain d = d.certain ≡ true

-- nothing is in flight: what every block holds now is all that may stand in it
abbrev pub IsSettled : JournalState → Type 0
IsSettled d = disk.Settled d

-- p is one way that the blocks of d may stand after power fails
pub record CrashState (d : JournalState) (p : List (List ℕ)) : Type 0 where
  pub same_size : length p ≡ size d
  pub each : (k : ℕ) → k < length p → disk.May d k (slice_index_or p k [])

-- h is what finishing would leave at home, after some way that power may fail
pub record Stands (d : JournalState) (h : List (List ℕ)) : Type 0 where
  pub crash : List (List ℕ)
  pub stood : CrashState d crash
  pub lawful : LawfulCommit (length crash) (commit_block crash)
  pub leaves : h ≡ home_blocks (finished crash)

-- h stands, and nothing else
pub record StandsAlone (d : JournalState) (h : List (List ℕ)) : Type 0 where
  pub stands : Stands d h
  pub alone : (g : List (List ℕ)) → Stands d g → g ≡ h

-- whatever way power fails, the commit block is lawful
abbrev pub Finishable : JournalState → Type 0
Finishable d = (p : List (List ℕ)) → CrashState d p → LawfulCommit (length p) (commit_block p)

-- every byte is zero
abbrev pub IsZero : List ℕ → Type 0
IsZero c = (j : ℕ) → slice_index c j ≡ 0

-- on, with nothing in flight and nothing to finish
pub record Ready (d : JournalState) : Type 0 where
  pub on : IsOn d
  pub wide : 7 ≤ size d
  pub settled : IsSettled d
  pub commit_zero : IsZero (commit_block d.blocks)

-- e is off, as large as d, and all that may stand on it is as P says
pub record LeavesOnly (P : List (List ℕ) → Type 0) (d e : JournalState) : Type 0 where
  pub off : IsOff e
  pub same_size : size e ≡ size d
  pub finishable : Finishable e
  pub stands : (h : List (List ℕ)) → Stands e h → P h

-- a drive that another journal takes over: as large, and nothing may stand in a block that could
-- not stand there before
pub record TakenOver (d e : JournalState) : Type 0 where
  pub same_size : size e ≡ size d
  pub no_more : disk.NoGain d e
