-- What each call of a drive makes of it: d is the drive before, e after. A call that was done is
-- told by a participle (Written), one that lost power by Cut (CutWriting).
use Rattle.std.specs.Prelude.{◌≡◌, ℕ, ◌<◌, ◌≤◌, true, false, List, length, Err, Result, MatchResult, ◌≢◌, slice_set}
use Rattle.drives.specs.declared.drive_fault.DriveFault.{DriveFault}
use Rattle.drives.specs.declared.drive_fault.DriveFault.TheVariants.{Off, NoSuchBlock, BadBuffer, PowerLost}
use Rattle.drives.specs.Disk.{Disk, May, present, size, Settled, NoGain, GainsOnly}

-- a write that was done: block b holds x, the others what they held
pub record Written (d : Disk) (b : ℕ) (x : List ℕ) (e : Disk) : Type 0 where
  pub on : e.on ≡ true
  pub blocks : e.blocks ≡ slice_set d.blocks b x
  pub gains : GainsOnly d b x e

-- a write that lost power
pub record CutWriting (d : Disk) (b : ℕ) (x : List ℕ) (e : Disk) : Type 0 where
  pub off : e.on ≡ false
  pub same_size : size e ≡ size d
  pub gains : GainsOnly d b x e

-- a flush that was done: every block holds what it held, and nothing else may stand
pub record Flushed (d e : Disk) : Type 0 where
  pub on : e.on ≡ true
  pub blocks : e.blocks ≡ d.blocks
  pub settled : Settled e

-- a flush that lost power
pub record CutFlushing (d e : Disk) : Type 0 where
  pub off : e.on ≡ false
  pub same_size : size e ≡ size d
  pub gains : NoGain d e

-- a power call that was done: each block holds a content that could stand, and nothing else may
-- stand now
pub record Powered (d e : Disk) : Type 0 where
  pub on : e.on ≡ true
  pub same_size : size e ≡ size d
  pub chosen : (i : ℕ) → i < size d → May d i (present e i)
  pub settled : Settled e

-- a power call that lost power leaves what a flush leaves that lost it
abbrev pub CutPowering : Disk → Disk → Type 0
CutPowering = CutFlushing

-- what a call answers that gives nothing but its being done
abbrev pub DriveAnswer : Type 0
DriveAnswer = Result (Unit {0}) DriveFault

-- read: refused, or the buffer holds what the block holds
pub record Reads
    (d : Disk) (b : ℕ) (before : List ℕ) (r : DriveAnswer) (after : List ℕ) : Type 0 where
  pub refused_off : d.on ≡ false → (r ≡ Err Off) × (after ≡ before)
  pub refused_beyond : d.on ≡ true → size d ≤ b → (r ≡ Err NoSuchBlock) × (after ≡ before)
  pub refused_buffer :
      d.on ≡ true → b < size d → (length before ≢ 64) → (r ≡ Err BadBuffer) × (after ≡ before)
  pub met :
      d.on ≡ true → b < size d → length before ≡ 64 →
      MatchResult r (λ _. after ≡ present d b) (λ _. ⊥)

-- write: refused, done, or power lost
pub record Writes (d : Disk) (b : ℕ) (x : List ℕ) (r : DriveAnswer) (e : Disk) : Type 0 where
  pub refused_off : d.on ≡ false → (r ≡ Err Off) × (e ≡ d)
  pub refused_beyond : d.on ≡ true → size d ≤ b → (r ≡ Err NoSuchBlock) × (e ≡ d)
  pub refused_buffer :
      d.on ≡ true → b < size d → (length x ≢ 64) → (r ≡ Err BadBuffer) × (e ≡ d)
  pub met :
      d.on ≡ true → b < size d → length x ≡ 64 →
      MatchResult r (λ _. Written d b x e) (λ f. (f ≡ PowerLost) × CutWriting d b x e)

-- flush: refused, done, or power lost
pub record Flushes (d : Disk) (r : DriveAnswer) (e : Disk) : Type 0 where
  pub refused_off : d.on ≡ false → (r ≡ Err Off) × (e ≡ d)
  pub met :
      d.on ≡ true → MatchResult r (λ _. Flushed d e) (λ f. (f ≡ PowerLost) × CutFlushing d e)

-- power: done, or power lost once more
abbrev pub Powers : Disk → DriveAnswer → Disk → Type 0
Powers d r e = MatchResult r (λ _. Powered d e) (λ f. (f ≡ PowerLost) × CutPowering d e)
