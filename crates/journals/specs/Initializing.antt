-- Initializing a drive that is to begin anew: the journal's own blocks are zeroed, blocks 8 to 33
-- are written in rising order, and when all that is flushed block 7, and it is flushed too. So
-- block 7 tells whether the rest stands.
use Rattle.std.specs.Prelude.{◌≡◌, ℕ, ◌<◌, ◌≤◌, List, [], ◌++◌, drop, replicate, slice_index_or, Err, Result, MatchResult}
use Rattle.drives.specs.Calls.{Written, CutWriting, Flushed, CutFlushing}
use Rattle.drives.specs.Disk.{Disk}
use Rattle.changes.specs.declared.home.Home.{Home}
use Rattle.changes.specs.CommitBlock.{zeros}
use Rattle.journals.specs.Redo.{blocks_from}
use Rattle.journals.specs.JournalState.{JournalState, IsOn, IsOff, size, present, home_of, Ready, StandsAlone}
use Rattle.journals.specs.Steps.{BlocksWritten, CutWritingBlocks}
use Rattle.journals.specs.declared.faults.JournalFault.{JournalFault}
use Rattle.journals.specs.declared.faults.JournalFault.TheVariants.{Off, Beyond, PowerLost}

-- the journal's own blocks, 0 to 6, with zeros
abbrev pub zeroed_blocks : List Home
zeroed_blocks = blocks_from 0 (replicate 7 zeros)

-- the content for block 7, and the blocks from 8 on with theirs
abbrev pub block_7 : List (List ℕ) → List ℕ
block_7 xs = slice_index_or xs 0 []

abbrev pub blocks_from_8 : List (List ℕ) → List Home
blocks_from_8 xs = blocks_from 8 (drop 1 xs)

-- all of it, with power kept
pub record InitialSteps (xs : List (List ℕ)) (d e : Disk) : Type 0 where
  pub zeroed : Disk
  pub filled : Disk
  pub flushed : Disk
  pub completed : Disk
  pub zeroes : BlocksWritten zeroed_blocks d zeroed
  pub fills : BlocksWritten (blocks_from_8 xs) zeroed filled
  pub flushes : Flushed filled flushed
  pub completes : Written flushed 7 (block_7 xs) completed
  pub ends : Flushed completed e

-- how far it had come when power was lost: before the first flush was done, no block but those from
-- 0 to 6 and 8 to 33 gains anything
pub data CutInitialSteps (xs : List (List ℕ)) (d e : Disk) : Type 0 where
  in_zeroing : CutWritingBlocks zeroed_blocks d e → CutInitialSteps xs d e
  in_filling :
      {a : Disk} → BlocksWritten zeroed_blocks d a → CutWritingBlocks (blocks_from_8 xs) a e
      → CutInitialSteps xs d e
  in_first_flush :
      {a b : Disk} → BlocksWritten zeroed_blocks d a → BlocksWritten (blocks_from_8 xs) a b
      → CutFlushing b e → CutInitialSteps xs d e
  in_block_7 :
      {a b f : Disk} → BlocksWritten zeroed_blocks d a → BlocksWritten (blocks_from_8 xs) a b
      → Flushed b f → CutWriting f 7 (block_7 xs) e → CutInitialSteps xs d e
  in_last_flush :
      {a b f h : Disk} → BlocksWritten zeroed_blocks d a → BlocksWritten (blocks_from_8 xs) a b
      → Flushed b f → Written f 7 (block_7 xs) h → CutFlushing h e → CutInitialSteps xs d e

-- what comes of it
abbrev pub MakesInitialSteps :
    {E : Type 0} → List (List ℕ) → Disk → Result (Unit {0}) E → Disk → Type 0
MakesInitialSteps xs d r e = MatchResult r (λ _. InitialSteps xs d e) (λ _. CutInitialSteps xs d e)

-- initialized: nothing is left to finish, the contents stand at home before what stood behind them,
-- and nothing else may stand
pub record Initialized (xs : List (List ℕ)) (d e : JournalState) : Type 0 where
  pub steps : InitialSteps xs d e
  pub ready : Ready e
  pub same_size : size e ≡ size d
  pub home_now : home_of e ≡ xs ++ drop 27 (home_of d)
  pub alone : StandsAlone e (xs ++ drop 27 (home_of d))
  pub own_blocks : (i : ℕ) → i < 7 → present e i ≡ zeros

-- power was lost on the way
pub record CutInitializing (xs : List (List ℕ)) (d e : JournalState) : Type 0 where
  pub off : IsOff e
  pub same_size : size e ≡ size d
  pub steps : CutInitialSteps xs d e

-- refused and nothing moved, initialized, or cut
pub record Initializes
    (d : JournalState) (xs : List (List ℕ)) (r : Result (Unit {0}) JournalFault)
    (e : JournalState) : Type 0 where
  pub refused_off : IsOff d → (r ≡ Err Off) × (e ≡ d)
  pub refused_beyond : IsOn d → size d < 34 → (r ≡ Err Beyond) × (e ≡ d)
  pub met :
      IsOn d → 34 ≤ size d →
      MatchResult r (λ _. Initialized xs d e) (λ f. (f ≡ PowerLost) × CutInitializing xs d e)
